-- The entries of a list that is mapped from another, by index.
use Rattle.std.proofs.Common.{◌≡◌, ℕ, zero, suc, ◌<◌, List, [], ◌∷◌, map, length, get_or, take, Some, refl, arith}
use Rattle.lists.specs.Entries.{nth}

pub mapped_at : {A B : Type 0} (f : A → B) (d : A) (xs : List A) (i : ℕ) (y : B) → nth (map f xs) i ≡ Some y → (i < length xs) × (y ≡ f (get_or xs i d))
mapped_at f d [] i y h = let z : ◌≡◌ {A = ℕ} 0 1 = cc in absurd (omega arith)
mapped_at f d (x ∷ xs) zero y h = (omega arith, cc)
mapped_at f d (x ∷ xs) (suc i) y h = let (a, b) = mapped_at f d xs i y h in (omega arith, b)

pub mapped_from : {A B : Type 0} (f : A → B) (d : A) (xs : List A) (i : ℕ) → i < length xs → nth (map f xs) i ≡ Some (f (get_or xs i d))
mapped_from f d [] i h = absurd (omega arith)
mapped_from f d (x ∷ xs) zero h = refl
mapped_from f d (x ∷ xs) (suc i) h = mapped_from f d xs i (omega arith)

-- the same of the first n elements
pub front_at : {A B : Type 0} (f : A → B) (d : A) (n : ℕ) (xs : List A) (i : ℕ) (y : B) → nth (map f (take n xs)) i ≡ Some y → (i < n) × (y ≡ f (get_or xs i d)) × (i < length xs)
front_at f d zero xs i y h = let z : ◌≡◌ {A = ℕ} 0 1 = cc in absurd (omega arith)
front_at f d (suc n) [] i y h = let z : ◌≡◌ {A = ℕ} 0 1 = cc in absurd (omega arith)
front_at f d (suc n) (x ∷ xs) zero y h = (omega arith, cc, omega arith)
front_at f d (suc n) (x ∷ xs) (suc i) y h = let (a, b, c) = front_at f d n xs i y h in (omega arith, b, omega arith)

pub front_from : {A B : Type 0} (f : A → B) (d : A) (n : ℕ) (xs : List A) (i : ℕ) → i < n → i < length xs → nth (map f (take n xs)) i ≡ Some (f (get_or xs i d))
front_from f d zero xs i h l = absurd (omega arith)
front_from f d (suc n) [] i h l = absurd (omega arith)
front_from f d (suc n) (x ∷ xs) zero h l = refl
front_from f d (suc n) (x ∷ xs) (suc i) h l = front_from f d n xs i (omega arith) (omega arith)
