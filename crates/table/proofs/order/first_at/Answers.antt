use Rattle.std.proofs.Common.{◌+◌, ◌-◌, ◌/◌, ◌<◌, length, ap, arith}
use Rattle.std.proofs.lemmas.List.{get_or_read}
use Rattle.table.proofs.Rising.{narrow_up, narrow_down}
use Rattle.table.proofs.order.first_at.Goals as goal

pub loop-lo-preserved-then-key-wanted : goal.loop-lo-preserved-then-key-wanted
loop-lo-preserved-then-key-wanted g c =
    let b : c.loop-lo.lo + (c.loop-lo.hi - c.loop-lo.lo) / 2 < length c.args.rows.now = omega arith in
    narrow_up _ _ _ _ _ _ _ _ c.loop-lo.invariant (omega arith) (omega arith) (λ d. omega (arith, c.key.ensures, ap g.R.Keyed.key (get_or_read _ _ _ b c.index-rows-mid.is d)))

pub loop-lo-preserved : goal.loop-lo-preserved
loop-lo-preserved g c =
    let b : c.loop-lo.lo + (c.loop-lo.hi - c.loop-lo.lo) / 2 < length c.args.rows.now = omega arith in
    narrow_down _ _ _ _ _ _ _ _ c.loop-lo.invariant (omega arith) (omega arith) (λ d. omega (arith, c.key.ensures, ap g.R.Keyed.key (get_or_read _ _ _ b c.index-rows-mid.is d)))
