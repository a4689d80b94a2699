-- The least reading after a list, and the least that begins with a prefix; R says which lists are readings.
use Rattle.std.specs.Prelude.{◌≡◌, ℕ, ◌⊎◌, List, [], ◌++◌}
use Rattle.lists.specs.Exactly.{Exactly}
use Rattle.lists.specs.Begins.{Begins}
use Rattle.readings.specs.Order.{Before}

-- what is known of readings: none is empty, none is a proper prefix of another, and they are finitely many
pub record Lawful (R : List ℕ → Type 0) : Type 0 where
  pub nonempty : R [] → ⊥
  pub prefix_free : (xs ys : List ℕ) → R xs → R (xs ++ ys) → ys ≡ []
  pub finite : (rs : List (List ℕ)) × Exactly R rs

-- some reading begins with p
abbrev pub Continues : (List ℕ → Type 0) → List ℕ → Type 0
Continues R p = (ys : List ℕ) × R (p ++ ys)

-- no reading is after L
abbrev pub Last : (List ℕ → Type 0) → List ℕ → Type 0
Last R L = (x : List ℕ) → R x → Before L x → ⊥

-- r is the least reading after L
pub record Least (R : List ℕ → Type 0) (L r : List ℕ) : Type 0 where
  pub reading : R r
  pub after : Before L r
  pub least : (x : List ℕ) → R x → Before L x → (x ≡ r) ⊎ Before r x

-- r is the least reading that begins with p
pub record First (R : List ℕ → Type 0) (p r : List ℕ) : Type 0 where
  pub reading : R r
  pub begins : Begins p r
  pub least : (x : List ℕ) → R x → Begins p x → (x ≡ r) ⊎ Before r x
