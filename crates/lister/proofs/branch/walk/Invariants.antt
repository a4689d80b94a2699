use Rattle.std.proofs.Common.{ℕ, ◌≤◌, [], length, take}
use Rattle.lister.proofs.branch.walk.Given as goal

-- the first i entries are walked
abbrev pub invariant-loop-i : goal.invariant-loop-i
invariant-loop-i g l = (t : g.C.Cursor.Script) (room : ℕ) → g.C.Cursor.stands l.initial.cursor t room [] → length l.list ≤ room → g.C.Cursor.stands l.cursor t room (take l.i l.list)
