-- Where the least reading after a list leaves the list, and how it goes on from there.
use Rattle.std.specs.Prelude.{◌≡◌, ℕ, ◌+◌, ◌-◌, ◌<◌, ◌≤◌, List, [], ◌∷◌, ◌++◌, length, take, drop, replicate, Some, None, Option}
use Rattle.lists.specs.Begins.{Begins}
use Rattle.readings.specs.Order.{Before}
use Rattle.lister.specs.declared.branch.Branch.{Branch}
use Rattle.lister.specs.Least.{Continues, Last, Least, First}
use Rattle.lister.specs.Cursors.{Somewhere}

-- the cursor, which is at the prefixes of At, has walked the first n of L, and no reading begins with one more of them
pub record Walked (R At : List ℕ → Type 0) (L : List ℕ) (n : ℕ) : Type 0 where
  pub there : At (take n L)
  pub stops : n < length L → Continues R (take (n + 1) L) → ⊥

-- no reading after L begins with the first n of L
abbrev pub Misses : (List ℕ → Type 0) → List ℕ → ℕ → Type 0
Misses R L n = (x : List ℕ) → R x → Before L x → Begins (take n L) x → ⊥

-- some reading begins with p, and the least of those is the least after L
pub record Leads (R : List ℕ → Type 0) (L p : List ℕ) : Type 0 where
  pub continues : Continues R p
  pub least : (r : List ℕ) → First R p r → Least R L r

-- the branch of the least reading after L: the first entries of L that it keeps, where the cursor is, and its rule behind them
abbrev pub Branches : (List ℕ → Type 0) → (List ℕ → Type 0) → List ℕ → Option Branch → Type 0
Branches R At L None = Somewhere At × Last R L
Branches R At L (Some b) = At (take b.at L) × Leads R L (take b.at L ++ b.rule ∷ [])

-- a branch is inside L or at its end
abbrev pub Inside : List ℕ → Option Branch → Type 0
Inside L None = Unit {0}
Inside L (Some b) = b.at ≤ length L

-- behind p stand the first n of rest, and make the least reading that begins with p and then the rule; zeros are behind them
pub record Completed (R : List ℕ → Type 0) (p : List ℕ) (rule : ℕ) (rest : List ℕ) (n : ℕ) : Type 0 where
  pub room : n ≤ length rest
  pub first : First R (p ++ rule ∷ []) (p ++ take n rest)
  pub zeros : drop n rest ≡ replicate (length rest - n) 0

-- that reading is written behind p, or it is longer than there is room
abbrev pub Completes : (List ℕ → Type 0) → List ℕ → ℕ → List ℕ → Option ℕ → Type 0
Completes R p rule rest (Some n) = Completed R p rule rest n
Completes R p rule rest None = (r : List ℕ) × First R (p ++ rule ∷ []) r × (length p + length rest < length r)
