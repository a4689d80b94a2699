use Rattle.closure.proofs.Nulls.{Turn}
use Rattle.closure.proofs.rules.Rules.round.Given as goal

abbrev pub invariant-loop-row : goal.invariant-loop-row
invariant-loop-row l = Turn l.self.rows.now l.fn.set l.out l.row-index
