use Rattle.std.proofs.Common.{length, arith, rules, tests}
use Rattle.std.proofs.lemmas.Iterator.{YieldsList-from_range, IsFirst-from_position}
use Rattle.rows.specs.Rows.{LiteralOk}
use Rattle.rows.proofs.Chains.{Not, Finds-from_range}
use Rattle.rows.proofs.literal.literal_fault.Goals as goal

pub returns : goal.returns
returns c =
    let n = length c.args.literals.now in
    let Ok = LiteralOk c.args.literals.now in
    Finds-from_range Ok n _ (IsFirst-from_position _ _ _ (Not Ok) Ok c.position.ensures.ran (YieldsList-from_range 0 n n (cc) (omega arith)) (λ x q k. search (rules, tests)) (λ x q k. search (rules, tests)))
