use Rattle.closure.proofs.Stepping.{StepSet}
use Rattle.closure.proofs.step.steps_of.Given as goal

abbrev pub invariant-loop-j : goal.invariant-loop-j
invariant-loop-j l = StepSet l.nullable l.row l.j l.out
