use Rattle.std.proofs.Common.{◌+◌, ◌≤◌, [], ◌∷◌, ◌++◌, length}
use Rattle.lister.specs.Cursors.{Wherever}
use Rattle.lister.specs.Least.{Continues}
use Rattle.lister.proofs.Writing.{Turn}
use Rattle.lister.proofs.writer.complete.Given as goal

abbrev pub invariant-loop-n : goal.invariant-loop-n
invariant-loop-n g l = Wherever (g.C.Cursor.stands l.initial.cursor) (λ t room p. length p + length l.fn.rest ≤ room → Continues (g.C.Cursor.readings t) (p ++ l.rule ∷ []) → Turn (g.C.Cursor.readings t) (g.C.Cursor.stands l.cursor t room) p l.rule l.rest l.n l.next)
