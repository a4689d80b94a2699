-- Lists in which nothing stands twice: put together, grown by one, and mapped.
use Rattle.std.proofs.Common.{◌≡◌, ◌⊎◌, List, [], ◌∷◌, ◌++◌, map, sym, refl, ap, ◌∙◌, inl, inr, ⊎_elim}
use mathlib.Core.List.Memᴰ
use Rattle.lists.specs.Members.{◌∈◌, Distinct}

-- one more member at the end of a list that lacks it
pub distinct_push : {A : Type 0} (l : List A) (x : A) → Distinct l → (x ∈ l → ⊥) → Distinct (l ++ x ∷ [])
distinct_push [] x d h = ((λ k. elim k [ ]), tt)
distinct_push (y ∷ ys) x d h = ((λ k. ⊎_elim d.0 (λ e. h (Memᴰ.head (sym (Memᴰ.eq_of_singleton e)))) (Memᴰ.append_cases ys k)), distinct_push ys x d.1 (λ k. h (Memᴰ.tail k)))

-- two lists with nothing in common
pub distinct_append : {A : Type 0} (R : List A) {S : List A} → Distinct R → Distinct S → ((a : A) → a ∈ R → a ∈ S → ⊥) → Distinct (R ++ S)
distinct_append [] p q d = q
distinct_append (x ∷ R) {S} p q d = (λ m. go (Memᴰ.append_cases R m), distinct_append R p.1 q (λ a m n. d a (Memᴰ.tail m) n))
  where
    go : (x ∈ R) ⊎ (x ∈ S) → ⊥
    go (inl m) = p.0 m
    go (inr m) = d x (Memᴰ.head refl) m

module _ {A B : Type 0} (f : A → B) where
  pub map_distinct : (L : List A) → Distinct (map f L) → Distinct L
  map_distinct [] p = tt
  map_distinct (a ∷ L) p = (λ m. p.0 (Memᴰ.map f m), map_distinct L p.1)

  -- members that are mapped to one thing are one
  pub map_one : (L : List A) → Distinct (map f L) → {a b : A} → a ∈ L → b ∈ L → f a ≡ f b → a ≡ b
  map_one [] p m n e = absurd (Memᴰ.not-nil m)
  map_one (c ∷ L) p {a} {b} m n e = go (Memᴰ.cases_cons m) (Memᴰ.cases_cons n) (λ i j. map_one L p.1 i j e)
    where
      go : (a ≡ c) ⊎ (a ∈ L) → (b ≡ c) ⊎ (b ∈ L) → (a ∈ L → b ∈ L → a ≡ b) → a ≡ b
      go (inl h) (inl k) r = h ∙ sym k
      go (inl h) (inr k) r = absurd (p.0 (Memᴰ.cast (ap f (sym h) ∙ e) (Memᴰ.map f k)))
      go (inr h) (inl k) r = absurd (p.0 (Memᴰ.cast (ap f (sym k) ∙ sym e) (Memᴰ.map f h)))
      go (inr h) (inr k) r = r h k
