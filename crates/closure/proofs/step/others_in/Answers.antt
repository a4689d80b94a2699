use Rattle.std.proofs.Common.{take, rules, tests}
use Rattle.std.proofs.lemmas.Iterator.{YieldsList-from_slice}
use Rattle.std.proofs.lemmas.Iterator.Consumers.{YieldsList-from_enumerate}
use Rattle.std.proofs.lemmas.Iterator.Search.{all_from_yields_List}
use Rattle.closure.proofs.Stepping.{others_test, others_decides}
use Rattle.closure.proofs.step.others_in.Goals as goal

pub returns : goal.returns
returns c =
    let row = c.args.row.now in
    others_decides c.args.set row c.args.j _ (all_from_yields_List (others_test c.args.set c.args.j) _ _ _ c.all.ensures.ran (YieldsList-from_enumerate (YieldsList-from_slice (take row.count row.places) (cc)) (cc)) (λ x b q k. search (rules, tests)))
