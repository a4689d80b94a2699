-- What a cursor on readings answers; R says which lists are readings, and p is the prefix that was walked.
use Rattle.std.specs.Prelude.{ℕ, ◌<◌, ◌≤◌, Bool, true, false, List, [], ◌∷◌, ◌++◌, Some, None, Option}
use Rattle.lister.specs.Least.{Continues}

-- v is the least number from low on with which some reading goes on behind p
pub record Lowest (R : List ℕ → Type 0) (p : List ℕ) (low v : ℕ) : Type 0 where
  pub from : low ≤ v
  pub continues : Continues R (p ++ v ∷ [])
  pub least : (k : ℕ) → low ≤ k → k < v → Continues R (p ++ k ∷ []) → ⊥

-- no reading goes on behind p with a number from low on
abbrev pub Nowhere : (List ℕ → Type 0) → List ℕ → ℕ → Type 0
Nowhere R p low = (k : ℕ) → low ≤ k → Continues R (p ++ k ∷ []) → ⊥

-- the answer to a search for the least number from low on
abbrev pub Searched : (List ℕ → Type 0) → List ℕ → ℕ → Option ℕ → Type 0
Searched R p low None = Nowhere R p low
Searched R p low (Some v) = Lowest R p low v

-- one rule further: the cursor, which is at the prefixes of At, is there, or it stays and no reading begins so
abbrev pub Followed : (List ℕ → Type 0) → (List ℕ → Type 0) → List ℕ → ℕ → Bool → Type 0
Followed R At p rule true = At (p ++ rule ∷ [])
Followed R At p rule false = At p × (Continues R (p ++ rule ∷ []) → ⊥)

-- the cursor, which is at the prefixes of At, is somewhere
abbrev pub Somewhere : (List ℕ → Type 0) → Type 0
Somewhere At = (p : List ℕ) × At p

-- P holds in every script in which the cursor stands, with the room that it has and the prefix that it walked
abbrev pub Wherever : {Script : Type 0} → (Script → ℕ → List ℕ → Type 0) → (Script → ℕ → List ℕ → Type 0) → Type 0
Wherever {Script} stands P = (t : Script) (room : ℕ) (p : List ℕ) → stands t room p → P t room p
