-- The order of lists is a strict total order.
use Rattle.std.proofs.Common.{◌≡◌, ℕ, ◌<◌, ◌⊎◌, List, [], ◌∷◌, ◌++◌, refl, ◌∙◌, inl, inr, arith}
use native.Mathlib.Decide.{dec_lt}
use Rattle.readings.specs.Order.{Before}

pub before_irreflexive : (xs : List ℕ) → Before xs xs → ⊥
before_irreflexive [] b = b
before_irreflexive (x ∷ xs) (inl h) = omega arith
before_irreflexive (x ∷ xs) (inr h) = before_irreflexive xs h.1

pub before_transitive : (xs ys zs : List ℕ) → Before xs ys → Before ys zs → Before xs zs
before_transitive [] [] zs b c = absurd b
before_transitive [] (y ∷ ys) [] b c = absurd c
before_transitive [] (y ∷ ys) (z ∷ zs) b c = tt
before_transitive (x ∷ xs) [] zs b c = absurd b
before_transitive (x ∷ xs) (y ∷ ys) [] b c = absurd c
before_transitive (x ∷ xs) (y ∷ ys) (z ∷ zs) (inl h) (inl k) = inl (omega arith)
before_transitive (x ∷ xs) (y ∷ ys) (z ∷ zs) (inl h) (inr (e, k)) = inl (omega arith)
before_transitive (x ∷ xs) (y ∷ ys) (z ∷ zs) (inr (e, h)) (inl k) = inl (omega arith)
before_transitive (x ∷ xs) (y ∷ ys) (z ∷ zs) (inr (e, h)) (inr (f, k)) = inr (e ∙ f, before_transitive xs ys zs h k)

-- of any two lists the first comes before, they are equal, or the second comes before
pub before_total : (xs ys : List ℕ) → Before xs ys ⊎ ((xs ≡ ys) ⊎ Before ys xs)
before_total [] [] = inr (inl refl)
before_total [] (y ∷ ys) = inl tt
before_total (x ∷ xs) [] = inr (inr tt)
before_total (x ∷ xs) (y ∷ ys) = go (dec_lt x y) (dec_lt y x) (before_total xs ys)
  where
    go : Dec (x < y) → Dec (y < x) → Before xs ys ⊎ ((xs ≡ ys) ⊎ Before ys xs) → Before (x ∷ xs) (y ∷ ys) ⊎ ((x ∷ xs ≡ y ∷ ys) ⊎ Before (y ∷ ys) (x ∷ xs))
    go (yes h) d t = inl (inl h)
    go (no h) (yes k) t = inr (inr (inl k))
    go (no h) (no k) (inl b) = inl (inr (omega arith, b))
    go (no h) (no k) (inr (inl e)) = let q : x ≡ y = omega arith in inr (inl (cc))
    go (no h) (no k) (inr (inr b)) = inr (inr (inr (omega arith, b)))

pub before_extension : (xs ys : List ℕ) (v : ℕ) → Before xs (xs ++ v ∷ ys)
before_extension [] ys v = tt
before_extension (x ∷ xs) ys v = inr (refl, before_extension xs ys v)
