-- The rows of the dialects of the worked cases, beside LOOSE, which is the dialect at first.
use Rattle.std.specs.Prelude.{List, [], ◌∷◌}
use Rattle.rows.specs.declared.row.RuleRow.{RuleRow}
use Rattle.rows.specs.Rows.{no_place}
use Rattle.dialect.specs.Loose.{on, one_place, two_places}

-- STRICT: LOOSE with > (62) in place of ~
abbrev pub strict : List RuleRow
strict = two_places 256 1 (on 61 256) (on 61 257) ∷ one_place 256 0 (on 61 257) ∷ one_place 257 1 (on 61 1) ∷ two_places 257 3 (on 61 1) (on 62 256) ∷ []

-- EMPTY: S = 256 and N = 257, with S → *N *N =word, and N → with no places; * is 42
abbrev pub empty : List RuleRow
empty = record { left = 256; cost = 0; count = 3; places = on 42 257 ∷ on 42 257 ∷ on 61 1 ∷ no_place ∷ no_place ∷ no_place ∷ [] } ∷ record { left = 257; cost = 0; count = 0; places = no_place ∷ no_place ∷ no_place ∷ no_place ∷ no_place ∷ no_place ∷ [] } ∷ []
