-- Sums over lists: they are admitted, and where nothing stands twice they do not depend on the order.
use Rattle.std.proofs.Common.{◌≡◌, ℕ, ◌⊎◌, List, [], ◌∷◌, ◌++◌, sym, refl, ap, ◌∙◌, ap₂, inl, inr}
use mathlib.Core.List.Memᴰ
use Rattle.lists.specs.Members.{Distinct, ◌∈◌}
use Rattle.lists.specs.Exactly.{Exactly}
use Rattle.lists.proofs.Without.{without, without_back, without_keeps, without_distinct, without_gone}
use Rattle.semiring.specs.Laws.{Ops, Lawful}
use Rattle.semiring.specs.Values.{total, value}

module _ {V : Type 0} (o : Ops V) (laws : Lawful o) where
  pub sum_left_comm : (a b c : V) → o.admits a → o.admits b → o.admits c → o.sum a (o.sum b c) ≡ o.sum b (o.sum a c)
  sum_left_comm a b c i j k = sym (laws.sum_assoc a b c i j k) ∙ ap (λ (s : V). o.sum s c) (laws.sum_comm a b i j) ∙ laws.sum_assoc b a c j i k

module _ {V : Type 0} (o : Ops V) (cost : ℕ → ℕ) (laws : Lawful o) where
  -- the value of a list is admitted
  pub value_in : (xs : List ℕ) → o.admits (value o cost xs)
  value_in [] = laws.unit_in
  value_in (r ∷ xs) = laws.product_in (o.weight r (cost r)) (value o cost xs) (laws.weight_in r (cost r)) (value_in xs)

module _ {A V : Type 0} (o : Ops V) (laws : Lawful o) (f : A → V) (ok : (a : A) → o.admits (f a)) where
  pub total_in : (R : List A) → o.admits (total o f R)
  total_in [] = laws.none_in
  total_in (a ∷ R) = laws.sum_in (f a) (total o f R) (ok a) (total_in R)

  pub total_append : (R S : List A) → total o f (R ++ S) ≡ o.sum (total o f R) (total o f S)
  total_append [] S = sym (laws.none_sum (total o f S) (total_in S))
  total_append (a ∷ R) S = ap (λ (s : V). o.sum (f a) s) (total_append R S) ∙ sym (laws.sum_assoc (f a) (total o f R) (total o f S) (ok a) (total_in R) (total_in S))

  pub total_without : {x : A} {S : List A} (m : (x ∈ S)) → total o f S ≡ o.sum (f x) (total o f (without m))
  unfolding without
  total_without (Memᴰ.head {xs} e) = ap (λ (y : A). o.sum (f y) (total o f xs)) (sym e)
  total_without {x} (Memᴰ.tail {x = y} m) = ap (λ (s : V). o.sum (f y) s) (total_without m) ∙ sum_left_comm o laws (f y) (f x) (total o f (without m)) (ok y) (ok x) (total_in (without m))

  -- lists without repetition and with the same elements have the same sum
  pub same_total : (R S : List A) → Distinct R → Distinct S → ((a : A) → a ∈ R → (a ∈ S)) → ((a : A) → a ∈ S → (a ∈ R)) → total o f R ≡ total o f S
  same_total [] [] p q i j = refl
  same_total [] (y ∷ S) p q i j = absurd (Memᴰ.not-nil (j y (Memᴰ.head refl)))
  same_total (x ∷ R) S p q i j =
      ap (λ (s : V). o.sum (f x) s) (same_total R (without m) p.1 (without_distinct m q) (λ a k. into a k (without_keeps m (i a (Memᴰ.tail k)))) (λ a k. back a k (Memᴰ.cases_cons (j a (without_back m k))))) ∙ sym (total_without m)
    where
      m : (x ∈ S)
      m = i x (Memᴰ.head refl)

      into : (a : A) → a ∈ R → (a ≡ x) ⊎ (a ∈ (without m)) → (a ∈ (without m))
      into a k (inl e) = absurd (p.0 (Memᴰ.cast (sym e) k))
      into a k (inr n) = n

      back : (a : A) → (a ∈ (without m)) → (a ≡ x) ⊎ (a ∈ R) → (a ∈ R)
      back a k (inl e) = absurd (without_gone m q (Memᴰ.cast (sym e) k))
      back a k (inr n) = n

  -- the sum over what has P does not depend on the order in which a list has it
  pub one_total : {P : A → Type 0} {R S : List A} → Exactly P R → Exactly P S → total o f R ≡ total o f S
  one_total {P} {R} {S} r s = same_total R S r.distinct s.distinct (λ a m. s.every a (r.only a m)) (λ a m. r.every a (s.only a m))

-- functions that agree on a list have one sum over it
pub total_same : {A V : Type 0} (o : Ops V) (f h : A → V) (R : List A) → ((a : A) → a ∈ R → f a ≡ h a) → total o f R ≡ total o h R
total_same o f h [] e = refl
total_same o f h (a ∷ R) e = ap₂ o.sum (e a (Memᴰ.head refl)) (total_same o f h R (λ b m. e b (Memᴰ.tail m)))
