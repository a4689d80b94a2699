use Rattle.closure.proofs.Paths.{Passing}
use Rattle.closure.proofs.reach.pass.Given as goal

abbrev pub invariant-loop-set : goal.invariant-loop-set
invariant-loop-set l = Passing l.initial.table l.table l.k l.set-index
