-- Lists that stand off a prefix: the first entry that differs is inside both, and it is lower in the prefix.
-- So they come after every list that begins with the prefix.
use Rattle.std.proofs.Common.{◌≡◌, ℕ, zero, suc, ◌<◌, ◌⊎◌, List, [], ◌∷◌, ◌++◌, take, refl, inl, inr, arith}
use Rattle.lists.specs.Begins.{Begins}
use Rattle.readings.specs.Order.{Before}

-- x stands off p
abbrev pub Off : List ℕ → List ℕ → Type 0
Off [] x = ⊥
Off (a ∷ p) [] = ⊥
Off (a ∷ p) (b ∷ x) = (a < b) ⊎ ((a ≡ b) × Off p x)

pub off_more : (p s x : List ℕ) → Off p x → Off (p ++ s) x
off_more [] s x o = absurd o
off_more (a ∷ p) s [] o = absurd o
off_more (a ∷ p) s (b ∷ x) (inl h) = inl h
off_more (a ∷ p) s (b ∷ x) (inr h) = inr (h.0, off_more p s x h.1)

pub off_before : (p x : List ℕ) → Off p x → Before p x
off_before [] x o = absurd o
off_before (a ∷ p) [] o = absurd o
off_before (a ∷ p) (b ∷ x) (inl h) = inl h
off_before (a ∷ p) (b ∷ x) (inr h) = inr (h.0, off_before p x h.1)

-- an entry that is higher behind p
pub off_at : (p s t : List ℕ) (a b : ℕ) → a < b → Off (p ++ a ∷ s) (p ++ b ∷ t)
off_at [] s t a b h = inl h
off_at (x ∷ p) s t a b h = inr (refl, off_at p s t a b h)

-- what stands off p with one entry more stands off p, or is higher at that entry
pub off_last : (p x : List ℕ) (a : ℕ) → Off (p ++ a ∷ []) x → Off p x ⊎ ((b : ℕ) × (ys : List ℕ) × (x ≡ p ++ b ∷ ys) × (a < b))
off_last [] [] a o = absurd o
off_last [] (b ∷ x) a (inl h) = inr (b, x, refl, h)
off_last [] (b ∷ x) a (inr h) = absurd h.1
off_last (c ∷ p) [] a o = absurd o
off_last (c ∷ p) (b ∷ x) a (inl h) = inl (inl h)
off_last (c ∷ p) (b ∷ x) a (inr h) = go (off_last p x a h.1)
  where
    go : Off p x ⊎ ((d : ℕ) × (ys : List ℕ) × (x ≡ p ++ d ∷ ys) × (a < d)) → Off (c ∷ p) (b ∷ x) ⊎ ((d : ℕ) × (ys : List ℕ) × (b ∷ x ≡ c ∷ p ++ d ∷ ys) × (a < d))
    go (inl o) = inl (inr (h.0, o))
    go (inr e) =
        let q : x ≡ p ++ e.0 ∷ e.1 = e.2 in
        let r : c ≡ b = h.0 in
        inr (e.0, e.1, (cc), e.3)

-- what stands off p is before nothing that begins with p, and does not begin so
pub off_not : (p s x : List ℕ) → Off p x → Before x (p ++ s) → ⊥
off_not [] s x o h = absurd o
off_not (a ∷ p) s [] o h = absurd o
off_not (a ∷ p) s (b ∷ x) (inl k) (inl h) = omega arith
off_not (a ∷ p) s (b ∷ x) (inl k) (inr h) = omega (arith, h.0)
off_not (a ∷ p) s (b ∷ x) (inr k) (inl h) = omega (arith, k.0)
off_not (a ∷ p) s (b ∷ x) (inr k) (inr h) = off_not p s x k.1 h.1

pub off_self : (p s : List ℕ) → Off p (p ++ s) → ⊥
off_self [] s o = absurd o
off_self (a ∷ p) s (inl h) = omega arith
off_self (a ∷ p) s (inr h) = off_self p s h.1

-- what is after L stands off L, or extends it
pub before_cases : (L x : List ℕ) → Before L x → Off L x ⊎ ((b : ℕ) × (ys : List ℕ) × (x ≡ L ++ b ∷ ys))
before_cases [] [] h = absurd h
before_cases [] (b ∷ x) h = inr (b, x, refl)
before_cases (a ∷ L) [] h = absurd h
before_cases (a ∷ L) (b ∷ x) (inl h) = inl (inl h)
before_cases (a ∷ L) (b ∷ x) (inr h) = go (before_cases L x h.1)
  where
    go : Off L x ⊎ ((c : ℕ) × (ys : List ℕ) × (x ≡ L ++ c ∷ ys)) → Off (a ∷ L) (b ∷ x) ⊎ ((c : ℕ) × (ys : List ℕ) × (b ∷ x ≡ a ∷ L ++ c ∷ ys))
    go (inl o) = inl (inr (h.0, o))
    go (inr e) =
        let q : x ≡ L ++ e.0 ∷ e.1 = e.2 in
        let r : a ≡ b = h.0 in
        inr (e.0, e.1, (cc))

-- what is after L and does not begin with the first n of L stands off those
pub before_off : (n : ℕ) (L x : List ℕ) → Before L x → (Begins (take n L) x → ⊥) → Off (take n L) x
before_off zero L x h not = absurd (not (x, refl))
before_off (suc n) [] x h not = absurd (not (x, refl))
before_off (suc n) (a ∷ L) [] h not = absurd h
before_off (suc n) (a ∷ L) (b ∷ x) (inl h) not = inl h
before_off (suc n) (a ∷ L) (b ∷ x) (inr h) not = inr (h.0, before_off n L x h.1 (λ w. not (longer w)))
  where
    longer : Begins (take n L) x → Begins (a ∷ take n L) (b ∷ x)
    longer w =
        let q : x ≡ take n L ++ w.0 = w.1 in
        let r : a ≡ b = h.0 in
        (w.0, cc)
