use Rattle.std.proofs.Common.{◌≡◌, ◌-◌, ◌^◌, ◌≤◌, length, map, vec_items, vec_len}
use Rattle.lister.specs.Cursors.{Somewhere, Wherever}
use Rattle.lister.proofs.Collecting.{Begun}
use Rattle.lister.proofs.listing.collect.Given as goal

abbrev pub invariant-loop-lists : goal.invariant-loop-lists
invariant-loop-lists g l = (length l.buffer ≡ length l.initial.buffer) × Wherever (g.C.Cursor.stands l.initial.cursor) (λ t room p. length l.initial.buffer ≤ room → Somewhere (g.C.Cursor.stands l.cursor t room) × Begun (g.C.Cursor.readings t) (length l.initial.buffer) (map vec_items (vec_items l.lists)))

-- a vector has fewer than 2 ^ 64 items
abbrev pub decreases-loop-lists : goal.decreases-loop-lists
decreases-loop-lists g l = 2 ^ 64 - vec_len l.lists
