use Rattle.std.proofs.Common.{arith}
use Rattle.lines.proofs.Hexing.{read_more}
use Rattle.lines.proofs.hex.unhex.Goals as goal

pub loop-digits-preserved : goal.loop-digits-preserved
loop-digits-preserved c = read_more c.loop-digits.digits.now _ _ c.in-Some.byte _ (omega arith) c.in-Some.ensures c.in_ok-push.ensures.items c.loop-digits.invariant
