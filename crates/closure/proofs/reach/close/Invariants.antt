use Rattle.closure.proofs.Paths.{Through}
use Rattle.closure.proofs.reach.close.Given as goal

abbrev pub invariant-loop-k : goal.invariant-loop-k
invariant-loop-k l = Through l.initial.table l.table l.k
