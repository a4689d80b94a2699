-- Membership in a list, and lists in which nothing stands twice.
use Rattle.std.specs.Prelude.{List, [], ◌∷◌}
use mathlib.Core.List.{Memᴰ}

-- a place at which x stands in the list
infix 50 ◌∈◌
abbrev pub ◌∈◌ : {A : Type 0} → A → List A → Type 0
x ∈ l = Memᴰ x l

abbrev pub Distinct : {A : Type 0} → List A → Type 0
Distinct [] = Unit {0}
Distinct (x ∷ xs) = (x ∈ xs → ⊥) × Distinct xs
