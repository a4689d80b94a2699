use Rattle.std.proofs.Common.{◌-◌}
use Rattle.table.specs.Order.{Narrowed}
use Rattle.table.proofs.order.first_at.Given as goal

abbrev pub invariant-loop-lo : goal.invariant-loop-lo
invariant-loop-lo g l = Narrowed g.R.Keyed.key l.rows l.fn.range.start l.fn.range.end l.wanted l.lo l.hi

abbrev pub decreases-loop-lo : goal.decreases-loop-lo
decreases-loop-lo g l = l.hi - l.lo
