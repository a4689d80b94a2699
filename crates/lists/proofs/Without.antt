-- A list without the element at one place; and so the pigeonhole principle: a list in which nothing stands twice is
-- no longer than one that has all that it has.
use Rattle.std.proofs.Common.{◌≡◌, suc, ◌≤◌, ◌⊎◌, ◌↔◌, List, [], ◌∷◌, length, sym, refl, ap, ◌∙◌, inl, inr, arith}
use mathlib.Core.List.Memᴰ
use Rattle.lists.specs.Members.{◌∈◌, Distinct}
use Rattle.lists.specs.Exactly.{Exactly}

unfoldable pub without : {A : Type 0} {x : A} {S : List A} → x ∈ S → List A
without (Memᴰ.head {xs} e) = xs
without (Memᴰ.tail {x = y} m) = y ∷ without m

module _ {A : Type 0} where
  pub without_length : {x : A} {S : List A} (m : x ∈ S) → length S ≡ suc (length (without m))
  unfolding without
  without_length (Memᴰ.head e) = refl
  without_length (Memᴰ.tail m) = ap suc (without_length m)

  pub without_back : {x a : A} {S : List A} (m : x ∈ S) → a ∈ without m → a ∈ S
  unfolding without
  without_back (Memᴰ.head e) h = Memᴰ.tail h
  without_back {x} {a} (Memᴰ.tail {x = y} {xs} m) h = go (Memᴰ.cases_cons h) (without_back m)
    where
      go : (a ≡ y) ⊎ (a ∈ without m) → (a ∈ without m → a ∈ xs) → a ∈ (y ∷ xs)
      go (inl e) f = Memᴰ.head e
      go (inr k) f = Memᴰ.tail (f k)

  pub without_keeps : {x a : A} {S : List A} (m : x ∈ S) → a ∈ S → (a ≡ x) ⊎ (a ∈ without m)
  unfolding without
  without_keeps {x} {a} (Memᴰ.head {x = y} {xs} e) h = go (Memᴰ.cases_cons h)
    where
      go : (a ≡ y) ⊎ (a ∈ xs) → (a ≡ x) ⊎ (a ∈ xs)
      go (inl k) = inl (k ∙ sym e)
      go (inr k) = inr k
  without_keeps {x} {a} (Memᴰ.tail {x = y} {xs} m) h = go (Memᴰ.cases_cons h) (without_keeps m)
    where
      down : (a ≡ x) ⊎ (a ∈ without m) → (a ≡ x) ⊎ (a ∈ (y ∷ without m))
      down (inl e) = inl e
      down (inr k) = inr (Memᴰ.tail k)

      go : (a ≡ y) ⊎ (a ∈ xs) → (a ∈ xs → (a ≡ x) ⊎ (a ∈ without m)) → (a ≡ x) ⊎ (a ∈ (y ∷ without m))
      go (inl e) f = inr (Memᴰ.head e)
      go (inr k) f = down (f k)

  pub without_distinct : {x : A} {S : List A} (m : x ∈ S) → Distinct S → Distinct (without m)
  unfolding without
  without_distinct (Memᴰ.head e) h = h.1
  without_distinct (Memᴰ.tail m) h = (λ k. h.0 (without_back m k), without_distinct m h.1)

  pub without_gone : {x : A} {S : List A} (m : x ∈ S) → Distinct S → x ∈ without m → ⊥
  unfolding without
  without_gone (Memᴰ.head e) h k = h.0 (Memᴰ.cast (sym e) k)
  without_gone {x} (Memᴰ.tail {x = y} {xs} m) h k = go (Memᴰ.cases_cons k) (without_gone m h.1)
    where
      go : (x ≡ y) ⊎ (x ∈ without m) → (x ∈ without m → ⊥) → ⊥
      go (inl e) f = h.0 (Memᴰ.cast (sym e) m)
      go (inr n) f = f n

-- the pigeonhole principle: nothing twice, and everything in the other list
pub no_longer : {A : Type 0} (R S : List A) → Distinct R → ((x : A) → x ∈ R → x ∈ S) → length R ≤ length S
no_longer [] S d f = omega arith
no_longer {A} (x ∷ xs) S d f = omega (arith, without_length m, no_longer xs (without m) d.1 (λ y h. go y h (without_keeps m (f y (Memᴰ.tail h)))))
  where
    m : x ∈ S
    m = f x (Memᴰ.head refl)

    go : (y : A) → y ∈ xs → (y ≡ x) ⊎ (y ∈ without m) → y ∈ without m
    go y h (inl e) = absurd (d.0 (Memᴰ.cast (sym e) h))
    go y h (inr k) = k

pub same_length : {A : Type 0} (R S : List A) → Distinct R → Distinct S → ((x : A) → x ∈ R ↔ x ∈ S) → length R ≡ length S
same_length R S d e f = omega (arith, no_longer R S d (λ x h. (f x).0 h), no_longer S R e (λ x h. (f x).1 h))

-- two lists that hold a set are of one length
pub exactly_length : {A : Type 0} {P : A → Type 0} (R S : List A) → Exactly P R → Exactly P S → length R ≡ length S
exactly_length R S r s = same_length R S r.distinct s.distinct (λ x. (λ m. s.every x (r.only x m), λ m. r.every x (s.only x m)))
