use Rattle.std.proofs.Common.{ℕ, Decides}
use Rattle.closure.specs.Sets.{in_set}
use Rattle.dialect.specs.Faults.{RuledBy}
use Rattle.dialect.proofs.names.ruled.Given as goal

abbrev pub invariant-loop-rule : goal.invariant-loop-rule
invariant-loop-rule l = (a : ℕ) → Decides (in_set l.out a) (RuledBy l.rules.rows.now l.rule-index a)
