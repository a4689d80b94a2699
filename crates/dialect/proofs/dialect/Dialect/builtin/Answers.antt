use Rattle.std.proofs.Common.{List, [], subst}
use Rattle.rows.specs.declared.row.RuleRow.{RuleRow}
use Rattle.dialect.specs.Loads.{Made}
use Rattle.dialect.proofs.Loading.{builtin_made}
use Rattle.dialect.proofs.dialect.Dialect.builtin.Goals as goal

pub returns : goal.returns
returns c = builtin_made c.make.result (subst (λ (x : List RuleRow). Made [] x 256 c.make.result) c.loose_rows.ensures c.make.ensures)
