use Rattle.std.proofs.Common.{ℕ, ◌<◌}
use Rattle.dialect.specs.Faults.{OnCycle}
use Rattle.dialect.proofs.cycle.cycle_fault.Given as goal

abbrev pub invariant-loop-i : goal.invariant-loop-i
invariant-loop-i l = (start k : ℕ) → k < l.i → OnCycle l.rules.rows.now start k → ⊥
