-- Tests on the elements of a list: how many pass, whether one passes, and runs of numbers to test.
use Rattle.std.specs.Prelude.{◌≡◌, ℕ, zero, suc, Bool, true, false, cond, ◌||◌, List, [], ◌∷◌}

-- what passes the test f passes h
abbrev pub Under : {A : Type 0} → (A → Bool) → (A → Bool) → Type 0
Under {A} f h = (a : A) → f a ≡ true → h a ≡ true

-- how many of the list pass
abbrev pub tally : {A : Type 0} → (A → Bool) → List A → ℕ
tally f [] = 0
tally f (a ∷ l) = cond (f a) (suc (tally f l)) (tally f l)

-- one of the list passes
abbrev pub any_of : {A : Type 0} → (A → Bool) → List A → Bool
any_of f [] = false
any_of f (a ∷ l) = f a || any_of f l

-- n numbers one after the other, from a on
unfoldable pub up_from : ℕ → ℕ → List ℕ
up_from a zero = []
up_from a (suc n) = a ∷ up_from (suc a) n
