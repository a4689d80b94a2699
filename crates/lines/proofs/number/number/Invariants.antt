use Rattle.std.proofs.Common.{◌≡◌, drop, Some}
use Rattle.lines.specs.Numbers.{numeral}
use Rattle.lines.proofs.Numbering.{read}
use Rattle.lines.proofs.number.number.Given as goal

abbrev pub invariant-loop-b : goal.invariant-loop-b
invariant-loop-b l = read 4294967295 (Some l.n) (drop l.b-index l.word) ≡ numeral 4294967295 l.word
