use Rattle.std.proofs.Common.{◌≡◌, ℕ, subst, arith}
use Rattle.closure.proofs.Paths.{Through, through_none, through_more, through_all}
use Rattle.closure.proofs.reach.close.Goals as goal

pub loop-k-init : goal.loop-k-init
loop-k-init c = through_none c.args.table.now

pub loop-k-preserved : goal.loop-k-preserved
loop-k-preserved c = through_more c.args.table.now c.loop-k.table c.pass.new.table c.loop-k.k (omega arith) c.loop-k.invariant c.pass.ensures

pub returns : goal.returns
returns c = let e : c.loop-k.k ≡ 64 = omega arith in through_all c.args.table.now c.loop-k.table (subst (λ (x : ℕ). Through c.args.table.now c.loop-k.table x) e c.loop-k.invariant)
