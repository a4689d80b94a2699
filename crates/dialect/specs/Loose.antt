-- The rows of the dialect at first: S = 256 and I = 257, with S → =S =I, S → =I, I → =word, I → =word ~S.
use Rattle.std.specs.Prelude.{ℕ, List, [], ◌∷◌}
use Rattle.rows.specs.declared.row.PlaceRow.{PlaceRow}
use Rattle.rows.specs.declared.row.RuleRow.{RuleRow}
use Rattle.rows.specs.Rows.{no_place}

-- a place: = is 61, ~ is 126; a word is 1
abbrev pub on : ℕ → ℕ → PlaceRow
on relation symbol = record { relation = relation; symbol = symbol }

-- a rule of one place, and of two
abbrev pub one_place : ℕ → ℕ → PlaceRow → RuleRow
one_place left cost p = record { left = left; cost = cost; count = 1; places = p ∷ no_place ∷ no_place ∷ no_place ∷ no_place ∷ no_place ∷ [] }

abbrev pub two_places : ℕ → ℕ → PlaceRow → PlaceRow → RuleRow
two_places left cost p q = record { left = left; cost = cost; count = 2; places = p ∷ q ∷ no_place ∷ no_place ∷ no_place ∷ no_place ∷ [] }

abbrev pub loose : List RuleRow
loose = two_places 256 1 (on 61 256) (on 61 257) ∷ one_place 256 0 (on 61 257) ∷ one_place 257 1 (on 61 1) ∷ two_places 257 3 (on 61 1) (on 126 256) ∷ []
