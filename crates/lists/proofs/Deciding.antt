-- Equality of lists and membership are decided where equality of the elements is.
use Rattle.std.proofs.Common.{◌≡◌, ℕ, List, [], ◌∷◌, refl, ⊎_elim, arith}
use mathlib.Core.List.Memᴰ
use native.Mathlib.Decide.{ℕ_discrete}
use Rattle.lists.specs.Members.{◌∈◌}

pub list_decided : {A : Type 0} → Discrete A → Discrete (List A)
list_decided f [] [] = yes refl
list_decided f [] (y ∷ ys) = no (λ e. let z : ◌≡◌ {A = ℕ} 0 1 = cc in omega arith)
list_decided f (x ∷ xs) [] = no (λ e. let z : ◌≡◌ {A = ℕ} 0 1 = cc in omega arith)
list_decided f (x ∷ xs) (y ∷ ys) = go (f x y) (list_decided f xs ys)
  where
    go : Dec (x ≡ y) → Dec (xs ≡ ys) → Dec (x ∷ xs ≡ y ∷ ys)
    go (yes a) (yes b) = yes (cc)
    go (yes a) (no h) = no (λ e. h (cc))
    go (no h) b = no (λ e. h (cc))

pub numbers_decided : Discrete (List ℕ)
numbers_decided = list_decided ℕ_discrete

pub member_decided : {A : Type 0} → Discrete A → (x : A) (l : List A) → Dec (x ∈ l)
member_decided f x [] = no (λ h. elim h [ ])
member_decided f x (y ∷ ys) = go (f x y) (member_decided f x ys)
  where
    go : Dec (x ≡ y) → Dec (x ∈ ys) → Dec (x ∈ (y ∷ ys))
    go (yes e) d = yes (Memᴰ.head e)
    go (no h) (yes k) = yes (Memᴰ.tail k)
    go (no h) (no k) = no (λ m. ⊎_elim h k (Memᴰ.cases_cons m))
