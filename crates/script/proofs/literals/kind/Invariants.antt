use Rattle.std.proofs.Common.{◌≡◌, ◌+◌, drop}
use Rattle.script.specs.Kinds.{numbered}
use Rattle.script.proofs.literals.kind.Given as goal

abbrev pub invariant-loop-i : goal.invariant-loop-i
invariant-loop-i l = numbered (16 + l.i) (drop l.i l.literals) l.part l.class ≡ numbered 16 l.literals l.part l.class
