-- Rows in a line: a literal's spelling as its bytes, and the places of a rule.
use Rattle.std.specs.Prelude.{ℕ, ◌+◌, min, Bool, cond, ◌&&◌, List, length, drop, replicate, Some, None, fold, Option, ◌==◌, nat_le, nat_lt, slice_index, slice_set}
use Rattle.rows.specs.declared.row.LiteralRow.{LiteralRow}
use Rattle.rows.specs.declared.row.PlaceRow.{PlaceRow}
use Rattle.rows.specs.Rows.{no_spelling, spelled}
use Rattle.lines.specs.Numbers.{numeral}
use Rattle.lines.specs.Hex.{pair}

-- a literal by its bytes
abbrev pub literal_row : List ℕ → LiteralRow
literal_row bytes = fold spelled no_spelling bytes

-- the word begins with the two bytes \x
abbrev pub escaped : List ℕ → Bool
escaped w = nat_le 2 (length w) && (slice_index w 0 == 92 && slice_index w 1 == 120)

abbrev pub of_symbol : ℕ → Option ℕ → Option PlaceRow
of_symbol relation None = None
of_symbol relation (Some s) = Some (record { relation = relation; symbol = s })

abbrev pub of_relation : Option ℕ → Option ℕ → Option PlaceRow
of_relation None s = None
of_relation (Some r) s = of_symbol r s

-- the place that a word is: a byte for the relation, or \x and two hexadecimal digits for it, and the symbol's number
abbrev pub place_at : List ℕ → Option PlaceRow
place_at w = cond (escaped w) (of_relation (pair (slice_index w 2) (slice_index w 3)) (numeral 65535 (drop 4 w))) (of_symbol (slice_index w 0) (numeral 65535 (drop 1 w)))
