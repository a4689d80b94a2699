use Rattle.std.proofs.Common.{sym, ◌∙◌, rules, tests}
use Rattle.std.proofs.lemmas.Iterator.{YieldsList-from_slice}
use Rattle.std.proofs.lemmas.Iterator.Search.{position_from_yields_List}
use Rattle.cutting.proofs.Quotes.{ends_text, closed_at}
use Rattle.cutting.proofs.quote.closing.Goals as goal

pub returns-clause-answer : goal.returns-clause-answer
returns-clause-answer c =
    let p = position_from_yields_List ends_text _ _ c.position.result c.position.ensures.ran (YieldsList-from_slice c.args.part.now cc) (λ x b q k. search (rules, tests)) in
    c.then_some.ensures ∙ closed_at c.args.part.now c.in_ok-end.end (sym p ∙ c.in_ok-end.was)
