use Rattle.std.proofs.Common.{◌≡◌, ◌+◌, ◌*◌, ◌≤◌, take, fold}
use Rattle.cutting.specs.Columns.{past}
use Rattle.cutting.proofs.column.columns.Given as goal

abbrev pub invariant-loop-b : goal.invariant-loop-b
invariant-loop-b l = (l.c ≡ fold past l.column (take l.b-index l.part)) × (l.c ≤ l.column + 4 * l.b-index)
