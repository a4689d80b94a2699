use Rattle.std.proofs.Common.{◌≡◌, length, vec_items}
use Rattle.lines.specs.Hex.{bytes}
use Rattle.lines.proofs.Hexing.{ahead}
use Rattle.lines.proofs.hex.unhex.Given as goal

abbrev pub invariant-loop-digits : goal.invariant-loop-digits
invariant-loop-digits l = ahead (vec_items l.bytes) (bytes l.digits) ≡ bytes l.word

abbrev pub decreases-loop-digits : goal.decreases-loop-digits
decreases-loop-digits l = length l.digits
