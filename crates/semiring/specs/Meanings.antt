-- What the total of a kind over a list of readings says. A reading is written as the list of its rule numbers.
use Rattle.std.specs.Prelude.{◌≡◌, ℕ, ◌+◌, ◌≤◌, Bool, true, ◌↔◌, List, [], ◌∷◌, length, Some, None, Option}
use Rattle.lists.specs.Members.{◌∈◌}
use Rattle.semiring.specs.Laws.{Ops}
use Rattle.semiring.specs.Values.{total_value}
use Rattle.semiring.specs.Kinds.{capped, yes_no_ops, count_ops, least_cost_ops, pair_ops}

-- the costs of the rules of a reading, added up
abbrev pub cost_along : (ℕ → ℕ) → List ℕ → ℕ
cost_along cost [] = 0
cost_along cost (r ∷ rs) = cost r + cost_along cost rs

-- yes exactly if there is a reading
abbrev pub SaysWhether : List (List ℕ) → Bool → Type 0
SaysWhether readings b = (b ≡ true) ↔ ((xs : List ℕ) × (xs ∈ readings))

-- nothing if there is no reading; else the capped cost of a reading, and no reading has a smaller one
abbrev pub SaysLeast : (ℕ → ℕ) → List (List ℕ) → Option ℕ → Type 0
SaysLeast cost readings None = (xs : List ℕ) → xs ∈ readings → ⊥
SaysLeast cost readings (Some c) = ((xs : List ℕ) × (xs ∈ readings) × (c ≡ capped (cost_along cost xs))) × ((xs : List ℕ) → xs ∈ readings → c ≤ capped (cost_along cost xs))

-- yes-no says whether there is a reading
abbrev pub YesNoMeans : Type 0
YesNoMeans = (cost : ℕ → ℕ) (readings : List (List ℕ)) → SaysWhether readings (total_value yes_no_ops cost readings)

-- count says how many readings there are, capped
abbrev pub CountMeans : Type 0
CountMeans = (cost : ℕ → ℕ) (readings : List (List ℕ)) → total_value count_ops cost readings ≡ capped (length readings)

-- least cost says the least capped cost of the readings
abbrev pub LeastCostMeans : Type 0
LeastCostMeans = (cost : ℕ → ℕ) (readings : List (List ℕ)) → SaysLeast cost readings (total_value least_cost_ops cost readings)

-- a pair says what each of its kinds says
abbrev pub PairMeans : {A B : Type 0} → Ops A → Ops B → Type 0
PairMeans a b = (cost : ℕ → ℕ) (readings : List (List ℕ)) → total_value (pair_ops a b) cost readings ≡ (total_value a cost readings, total_value b cost readings)
