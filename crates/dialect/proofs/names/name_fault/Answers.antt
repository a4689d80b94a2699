use Rattle.std.proofs.Common.{◌≡◌, not, length, rules, tests}
use Rattle.std.specs.Bool.{then_some}
use Rattle.std.specs.Option.{option_or}
use Rattle.std.proofs.lemmas.Iterator.{YieldsList-from_slice, IsFirst-from_position}
use Rattle.closure.specs.Sets.{in_set}
use Rattle.rows.proofs.Chains.{Not}
use Rattle.dialect.proofs.Naming.{Within, names_found}
use Rattle.dialect.proofs.names.name_fault.Goals as goal

pub returns : goal.returns
returns c =
    let rs = c.args.rules.now.rows.now in
    let P = Within c.ruled-set.result in
    let e : c.or.result ≡ option_or c.position-fault.result (then_some (not (in_set c.ruled-set.result c.args.start)) (length rs)) = cc in
    rw e
    (names_found rs c.args.start c.ruled-set.result c.ruled-set.ensures _
    (IsFirst-from_position _ _ _ (Not P) P c.position-fault.ensures.ran (YieldsList-from_slice rs cc) (λ x q k. search (rules, tests)) (λ x q k. search (rules, tests))))
