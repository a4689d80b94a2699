use Rattle.std.proofs.Common.{◌≡◌, ◌+◌}
use Rattle.script.proofs.Machine.{Turn}
use Rattle.script.proofs.cutter.next_piece.Given as goal

abbrev pub invariant-loop-b : goal.invariant-loop-b
invariant-loop-b l = Turn l.state l.script l.fn.from.place l.start l.at × (l.at.place ≡ l.fn.from.place + l.b-index)
