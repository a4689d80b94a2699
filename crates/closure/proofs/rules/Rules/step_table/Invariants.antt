use Rattle.closure.proofs.Stepping.{Stepping}
use Rattle.closure.proofs.rules.Rules.step_table.Given as goal

abbrev pub invariant-loop-row : goal.invariant-loop-row
invariant-loop-row l = Stepping l.self.rows.now l.nullable l.row-index l.table
