use Rattle.std.proofs.Common.{◌-◌, ◌^◌}
use Rattle.closure.specs.Nulls.{Sound}
use Rattle.closure.proofs.rules.Rules.nullables.Given as goal

abbrev pub invariant-loop-next : goal.invariant-loop-next
invariant-loop-next l = Sound l.self.rows.now l.set

abbrev pub decreases-loop-next : goal.decreases-loop-next
decreases-loop-next l = 2 ^ 64 - l.set
