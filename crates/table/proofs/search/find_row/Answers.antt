use Rattle.std.proofs.Common.{◌≡◌, None, rules, tests}
use Rattle.std.proofs.lemmas.Iterator.{IsFirst-from_position, YieldsList-from_slice}
use Rattle.table.specs.declared.row.ItemRow.{ItemRow}
use Rattle.table.proofs.Since.{since_none}
use Rattle.table.proofs.search.find_row.Goals as goal

pub returns-in_err-found : goal.returns-in_err-found
returns-in_err-found c =
    let row = c.args.row in
    let none = IsFirst-from_position _ _ None (λ (x : ItemRow). x ≡ row) (λ x. x ≡ row → ⊥) c.in_err-found.ensures.ran (YieldsList-from_slice _ c.iter.ensures.rest)
    (λ x q k. search (rules, tests)) (λ x q k. search (rules, tests)) in
    rw c.from_residual.ensures (since_none _ _ _ row c.requires.0 c.requires.1 none)
