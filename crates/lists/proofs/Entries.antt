-- Entries of a list at an index: where there is one, and in longer and shorter lists.
use Rattle.std.proofs.Common.{◌≡◌, ℕ, zero, suc, ◌<◌, ◌≤◌, ◌⊎◌, List, [], ◌∷◌, ◌++◌, length, take, Some, refl, inl, inr, arith}
use mathlib.Core.List.Memᴰ
use Rattle.lists.specs.Entries.{nth}
use Rattle.lists.specs.Members.{◌∈◌}

pub nth_below : {A : Type 0} (xs : List A) (i : ℕ) {x : A} → nth xs i ≡ Some x → i < length xs
nth_below [] i h = let z : ◌≡◌ {A = ℕ} 0 1 = cc in omega arith
nth_below (y ∷ xs) zero h = omega arith
nth_below (y ∷ xs) (suc i) h = omega (arith, nth_below xs i h)

pub nth_there : {A : Type 0} (xs : List A) (i : ℕ) → i < length xs → (x : A) × (nth xs i ≡ Some x)
nth_there [] i h = absurd (omega arith)
nth_there (x ∷ xs) zero h = (x, refl)
nth_there (x ∷ xs) (suc i) h = nth_there xs i (omega arith)

-- an entry is a member
pub nth_member : {A : Type 0} (xs : List A) (i : ℕ) {x : A} → nth xs i ≡ Some x → x ∈ xs
nth_member [] i h = let z : ◌≡◌ {A = ℕ} 0 1 = cc in absurd (omega arith)
nth_member (y ∷ xs) zero h = Memᴰ.head (cc)
nth_member (y ∷ xs) (suc i) h = Memᴰ.tail (nth_member xs i h)

-- more behind changes no entry
pub nth_more : {A : Type 0} (xs ys : List A) (i : ℕ) → i < length xs → nth (xs ++ ys) i ≡ nth xs i
nth_more [] ys i h = absurd (omega arith)
nth_more (x ∷ xs) ys zero h = refl
nth_more (x ∷ xs) ys (suc i) h = nth_more xs ys i (omega arith)

-- the last entry of a list, and what lies behind it
pub nth_last : {A : Type 0} (xs : List A) (y : A) (i : ℕ) → i ≡ length xs → nth (xs ++ y ∷ []) i ≡ Some y
nth_last [] y zero h = refl
nth_last [] y (suc i) h = absurd (omega arith)
nth_last (x ∷ xs) y zero h = absurd (omega arith)
nth_last (x ∷ xs) y (suc i) h = nth_last xs y i (omega arith)

pub nth_within : {A : Type 0} (xs : List A) (y z : A) (i : ℕ) → nth (xs ++ y ∷ []) i ≡ Some z → i ≤ length xs
nth_within [] y z zero h = omega arith
nth_within [] y z (suc i) h = let o : ◌≡◌ {A = ℕ} 0 1 = cc in absurd (omega arith)
nth_within (x ∷ xs) y z zero h = omega arith
nth_within (x ∷ xs) y z (suc i) h = omega (arith, nth_within xs y z i h)

-- the first k entries
pub nth_take : {A : Type 0} (k : ℕ) (xs : List A) (i : ℕ) → i < k → nth (take k xs) i ≡ nth xs i
nth_take zero xs i h = absurd (omega arith)
nth_take (suc k) [] i h = refl
nth_take (suc k) (x ∷ xs) zero h = refl
nth_take (suc k) (x ∷ xs) (suc i) h = nth_take k xs i (omega arith)

-- the first k + 1 entries are the first k and the k-th
pub take_next : {A : Type 0} (N M : List A) (k : ℕ) {x z : A} → nth N k ≡ Some z → x ∈ take (suc k) (N ++ M) → (x ∈ take k N) ⊎ (x ≡ z)
take_next [] M k h m = let o : ◌≡◌ {A = ℕ} 0 1 = cc in absurd (omega arith)
take_next (n ∷ N) M zero h (Memᴰ.head e) = inr (cc)
take_next (n ∷ N) M zero h (Memᴰ.tail m) = elim m [ ]
take_next (n ∷ N) M (suc k) h (Memᴰ.head e) = inl (Memᴰ.head e)
take_next (n ∷ N) M (suc k) {x} {z} h (Memᴰ.tail m) = go (take_next N M k h m)
  where
    go : (x ∈ take k N) ⊎ (x ≡ z) → (x ∈ (n ∷ take k N)) ⊎ (x ≡ z)
    go (inl i) = inl (Memᴰ.tail i)
    go (inr e) = inr e

pub take_member : {A : Type 0} (N : List A) (k : ℕ) {x : A} → x ∈ take k N → x ∈ take (suc k) N
take_member N zero m = elim m [ ]
take_member [] (suc k) m = elim m [ ]
take_member (n ∷ N) (suc k) (Memᴰ.head e) = Memᴰ.head e
take_member (n ∷ N) (suc k) (Memᴰ.tail m) = Memᴰ.tail (take_member N k m)

pub take_at : {A : Type 0} (N : List A) (k : ℕ) {z : A} → nth N k ≡ Some z → z ∈ take (suc k) N
take_at [] k h = let o : ◌≡◌ {A = ℕ} 0 1 = cc in absurd (omega arith)
take_at (n ∷ N) zero h = Memᴰ.head (cc)
take_at (n ∷ N) (suc k) h = Memᴰ.tail (take_at N k h)
