-- The value of a list of rule numbers, and the sum of values over a list, in any kind.
use Rattle.std.specs.Prelude.{ℕ, List, [], ◌∷◌}
use Rattle.semiring.specs.Laws.{Ops}

-- the product of the weights along a list of rule numbers, in order, where each rule has its cost
abbrev pub value : {V : Type 0} → Ops V → (ℕ → ℕ) → List ℕ → V
value k cost [] = k.unit
value k cost (r ∷ rs) = k.product (k.weight r (cost r)) (value k cost rs)

-- the sum of f over a list
abbrev pub total : {A V : Type 0} → Ops V → (A → V) → List A → V
total k f [] = k.none
total k f (x ∷ xs) = k.sum (f x) (total k f xs)

-- the sum of the values of a list of readings, each written as its rule numbers, where each rule has its cost
abbrev pub total_value : {V : Type 0} → Ops V → (ℕ → ℕ) → List (List ℕ) → V
total_value k cost readings = total k (value k cost) readings
