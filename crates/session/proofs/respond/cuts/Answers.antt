use Rattle.std.proofs.Common.{◌+◌, ◌≤◌, min, rules, arith}
use Rattle.std.proofs.lemmas.List.{length-map}
use Rattle.std.proofs.lemmas.Iterator.{YieldsList-from_map, YieldsList-from_slice}
use Rattle.std.proofs.lemmas.Iterator.Consumers.{YieldsList-at}
use Rattle.std.proofs.lemmas.Iterator.Adapters.{items_from_extend}
use Rattle.lines.specs.declared.answer.Answer.TheVariants as answer
use Rattle.session.proofs.respond.cuts.Goals as goal

pub returns : goal.returns
returns c =
    let h = items_from_extend c.extend.result c.extend.ensures.ran (YieldsList-from_map _ (λ t. answer.Cut t) (YieldsList-at c.map.ensures.source (YieldsList-from_slice c.args.tokens.now c.iter.ensures.rest)) c.map.ensures.closure (λ x r q k. search rules)) in
    let k = rw c.in_ok-extend.was at h in
    (search rules, omega (arith, k.1, k.2, length-map c.args.tokens.now (λ t. answer.Cut t), c.in_ok-answers.ensures.len, c.in_ok-answers.ensures.capacity, c.saturating_add.ensures, c.iter.ensures.bound))
