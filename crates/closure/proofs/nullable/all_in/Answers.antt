use Rattle.std.proofs.Common.{◌∙◌, take, rules, tests}
use Rattle.std.proofs.lemmas.Iterator.{YieldsList-from_slice}
use Rattle.std.proofs.lemmas.Iterator.Search.{all_from_yields_List}
use Rattle.closure.specs.Sets.{in_set}
use Rattle.closure.proofs.Nulls.{every_all}
use Rattle.closure.proofs.nullable.all_in.Goals as goal

pub returns : goal.returns
returns c =
    let f = in_set c.args.set in
    let ps = take c.args.row.now.count c.args.row.now.places in
    all_from_yields_List (λ p. f p.symbol) _ _ _ c.all.ensures.ran (YieldsList-from_slice ps cc) (λ x b q k. search (rules, tests)) ∙ every_all f ps
