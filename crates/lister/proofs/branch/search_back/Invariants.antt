use Rattle.std.proofs.Common.{◌≡◌, ◌-◌, length, take}
use Rattle.lister.specs.Cursors.{Wherever}
use Rattle.lister.specs.Branches.{Misses}
use Rattle.lister.proofs.Branching.{Sought}
use Rattle.lister.proofs.branch.search_back.Given as goal

abbrev pub invariant-loop-at : goal.invariant-loop-at
invariant-loop-at g l =
    let left = l.at-iterator.iter.iter.rest.now in
    (left ≡ take (length left) l.list) × (l.at-iterator.iter.count ≡ 0) × Wherever (g.C.Cursor.stands l.initial.cursor) (λ t room p. take (l.end - 1) p ≡ take (l.end - 1) l.list → Misses (g.C.Cursor.readings t) l.list l.end → Sought (g.C.Cursor.readings t) (g.C.Cursor.stands l.cursor t room) l.list (length left))
