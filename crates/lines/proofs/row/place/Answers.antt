use Rattle.std.proofs.Common.{inl, inr, arith}
use Rattle.std.proofs.lemmas.Bool.Decides.{nat_tests}
use Rattle.lines.proofs.Placing.{by_byte}
use Rattle.lines.proofs.row.place.Goals as goal
use Rattle.lines.proofs.row.place.Goals.{then-word-lt4, else-word-lt4+in-92+in_default-1, else-word-lt4+in_default-1}

pub returns-in-len1-up : goal.returns-in-len1-up
returns-in-len1-up c =
    elim c.in-len1-up-1.branch [
      | then-word-lt4 w ↦ by_byte c.args.word.now _ (inr (grind (arith, nat_tests))) c.with_symbol-in-len1-up.ensures
      | else-word-lt4+in-92+in_default-1 w ↦ by_byte c.args.word.now _ (inl (grind (arith, nat_tests))) c.with_symbol-in-len1-up.ensures
      | else-word-lt4+in_default-1 w ↦ by_byte c.args.word.now _ (inl (grind (arith, nat_tests))) c.with_symbol-in-len1-up.ensures
    ]
