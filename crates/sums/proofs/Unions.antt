-- The sum over a union, and over the lists of two sets one behind the other.
use Rattle.std.proofs.Common.{◌≡◌, ℕ, ◌⊎◌, List, [], ◌∷◌, ◌++◌, sym, refl, ap, ◌∙◌, subst, ap₂, inl, inr}
use mathlib.Core.List.Memᴰ
use mathlib.Core.List.{append_cancel_left}
use Rattle.lists.specs.Members.{Distinct, ◌∈◌}
use Rattle.lists.proofs.Distinct.{distinct_append}
use Rattle.semiring.specs.Laws.{Ops, Lawful}
use Rattle.semiring.specs.Values.{total, value}
use Rattle.sums.specs.Sums.{Sums}
use Rattle.sums.proofs.Totals.{total_append, total_in, value_in, one_total}

-- what one of the sets named by L has
abbrev pub SomeOf : {A : Type 0} → List A → (A → List ℕ → Type 0) → List ℕ → Type 0
SomeOf {A} L Q xs = (l : A) × (l ∈ L) × Q l xs

module _ {V : Type 0} (o : Ops V) (cost : ℕ → ℕ) where
  -- what says the same has the same sum
  pub transfer : {P Q : List ℕ → Type 0} {v : V} → ((xs : List ℕ) → P xs → Q xs) → ((xs : List ℕ) → Q xs → P xs) → Sums o cost P v → Sums o cost Q v
  transfer f h s = record { lists = s.lists; exactly = record { distinct = s.exactly.distinct; only = λ xs m. f xs (s.exactly.only xs m); every = λ xs q. s.exactly.every xs (h xs q) }; is = s.is }

module _ {V : Type 0} (o : Ops V) (cost : ℕ → ℕ) (laws : Lawful o) where
  pub both : {P Q : List ℕ → Type 0} {v w : V} → Sums o cost P v → Sums o cost Q w → ((xs : List ℕ) → P xs → Q xs → ⊥) → Sums o cost (λ xs. P xs ⊎ Q xs) (o.sum v w)
  both {P} {Q} a b d = record {
    lists = a.lists ++ b.lists;
    exactly = record { distinct = distinct_append a.lists a.exactly.distinct b.exactly.distinct (λ xs m n. d xs (a.exactly.only xs m) (b.exactly.only xs n)); only = λ xs m. only xs (Memᴰ.append_cases a.lists m); every = every };
    is = total_append o laws (value o cost) (value_in o cost laws) a.lists b.lists ∙ ap₂ o.sum a.is b.is;
  }
    where
      only : (xs : List ℕ) → (xs ∈ a.lists) ⊎ (xs ∈ b.lists) → P xs ⊎ Q xs
      only xs (inl m) = inl (a.exactly.only xs m)
      only xs (inr m) = inr (b.exactly.only xs m)

      every : (xs : List ℕ) → P xs ⊎ Q xs → (xs ∈ (a.lists ++ b.lists))
      every xs (inl p) = Memᴰ.append_left b.lists (a.exactly.every xs p)
      every xs (inr q) = Memᴰ.append_right a.lists (b.exactly.every xs q)

  -- the sum over a union of sets that have nothing in common
  pub union : {A : Type 0} (L : List A) (Q : A → List ℕ → Type 0) (f : A → V) → Distinct L → ((l : A) → l ∈ L → Sums o cost (Q l) (f l)) → ((l l' : A) (xs : List ℕ) → l ∈ L → l' ∈ L → Q l xs → Q l' xs → l ≡ l') → Sums o cost (SomeOf L Q) (total o f L)
  union [] Q f p s d = record { lists = []; exactly = record { distinct = tt; only = λ xs m. absurd (Memᴰ.not-nil m); every = λ xs t. absurd (Memᴰ.not-nil t.1) }; is = refl }
  union {A} (l ∷ L) Q f p s d =
      transfer o cost into back (both (s l (Memᴰ.head refl)) (union L Q f p.1 (λ k m. s k (Memᴰ.tail m)) (λ k k' xs m m'. d k k' xs (Memᴰ.tail m) (Memᴰ.tail m'))) never)
    where
      into : (xs : List ℕ) → Q l xs ⊎ SomeOf L Q xs → SomeOf (l ∷ L) Q xs
      into xs (inl q) = (l, Memᴰ.head refl, q)
      into xs (inr t) = (t.0, Memᴰ.tail t.1, t.2)

      out : (xs : List ℕ) (k : A) → (k ≡ l) ⊎ (k ∈ L) → Q k xs → Q l xs ⊎ SomeOf L Q xs
      out xs k (inl e) q = inl (subst (λ (j : A). Q j xs) e q)
      out xs k (inr m) q = inr (k, m, q)

      back : (xs : List ℕ) → SomeOf (l ∷ L) Q xs → Q l xs ⊎ SomeOf L Q xs
      back xs t = out xs t.0 (Memᴰ.cases_cons t.1) t.2

      never : (xs : List ℕ) → Q l xs → SomeOf L Q xs → ⊥
      never xs q t = p.0 (Memᴰ.cast (d l t.0 xs (Memᴰ.head refl) (Memᴰ.tail t.1) q t.2) t.1)

-- the lists of P and Q one behind the other, with r between
abbrev pub Joined : (List ℕ → Type 0) → ℕ → (List ℕ → Type 0) → List ℕ → Type 0
Joined P r Q xs = (us vs : List ℕ) × P us × Q vs × (xs ≡ us ++ (r ∷ vs))

abbrev behind : List ℕ → ℕ → List (List ℕ) → List (List ℕ)
behind us r [] = []
behind us r (vs ∷ S) = (us ++ (r ∷ vs)) ∷ behind us r S

behind_in : (us : List ℕ) (r : ℕ) {vs : List ℕ} {S : List (List ℕ)} → vs ∈ S → ((us ++ (r ∷ vs)) ∈ (behind us r S))
behind_in us r (Memᴰ.head e) = Memᴰ.head (ap (λ (ws : List ℕ). us ++ (r ∷ ws)) e)
behind_in us r (Memᴰ.tail m) = Memᴰ.tail (behind_in us r m)

behind_out : (us : List ℕ) (r : ℕ) (S : List (List ℕ)) (xs : List ℕ) → (xs ∈ (behind us r S)) → (vs : List ℕ) × (vs ∈ S) × (xs ≡ us ++ (r ∷ vs))
behind_out us r [] xs m = absurd (Memᴰ.not-nil m)
behind_out us r (ws ∷ S) xs m = go (Memᴰ.cases_cons m) (behind_out us r S xs)
  where
    go : (xs ≡ us ++ (r ∷ ws)) ⊎ (xs ∈ (behind us r S)) → ((xs ∈ (behind us r S)) → (vs : List ℕ) × (vs ∈ S) × (xs ≡ us ++ (r ∷ vs))) → (vs : List ℕ) × (vs ∈ (ws ∷ S)) × (xs ≡ us ++ (r ∷ vs))
    go (inl e) f = (ws, Memᴰ.head refl, e)
    go (inr n) f = let (vs, k, e) = f n in (vs, Memᴰ.tail k, e)

behind_apart : (us : List ℕ) (r : ℕ) (S : List (List ℕ)) → Distinct S → Distinct (behind us r S)
behind_apart us r [] p = tt
behind_apart us r (vs ∷ S) p = (λ m. let (ws, k, e) = behind_out us r S (us ++ (r ∷ vs)) m in let c = append_cancel_left us (r ∷ vs) (r ∷ ws) e in let h : vs ≡ ws = cc in p.0 (Memᴰ.cast h k), behind_apart us r S p.1)

module _ {V : Type 0} (o : Ops V) (cost : ℕ → ℕ) (laws : Lawful o) where
  pub value_append : (us vs : List ℕ) → value o cost (us ++ vs) ≡ o.product (value o cost us) (value o cost vs)
  value_append [] vs = sym (laws.unit_product (value o cost vs) (value_in o cost laws vs))
  value_append (r ∷ us) vs = ap (λ (v : V). o.product (o.weight r (cost r)) v) (value_append us vs) ∙ sym (laws.product_assoc (o.weight r (cost r)) (value o cost us) (value o cost vs) (laws.weight_in r (cost r)) (value_in o cost laws us) (value_in o cost laws vs))

  -- the sum over a set of lists is admitted
  pub sums_in : {P : List ℕ → Type 0} {v : V} → Sums o cost P v → o.admits v
  sums_in s = subst o.admits s.is (total_in o laws (value o cost) (value_in o cost laws) s.lists)

  behind_total : (us : List ℕ) (r : ℕ) (S : List (List ℕ)) → total o (value o cost) (behind us r S) ≡ o.product (value o cost us) (o.product (o.weight r (cost r)) (total o (value o cost) S))
  behind_total us r [] = sym (laws.product_none (value o cost us) (value_in o cost laws us)) ∙ ap (λ (v : V). o.product (value o cost us) v) (sym (laws.product_none (o.weight r (cost r)) (laws.weight_in r (cost r))))
  behind_total us r (vs ∷ S) =
      let i = value_in o cost laws us in
      let j = value_in o cost laws vs in
      let w = laws.weight_in r (cost r) in
      let t = total_in o laws (value o cost) (value_in o cost laws) S in
      ap₂ o.sum (value_append us (r ∷ vs)) (behind_total us r S) ∙ sym (laws.product_sum (value o cost us) (o.product (o.weight r (cost r)) (value o cost vs)) (o.product (o.weight r (cost r)) (total o (value o cost) S)) i (laws.product_in (o.weight r (cost r)) (value o cost vs) w j) (laws.product_in (o.weight r (cost r)) (total o (value o cost) S) w t)) ∙ ap (λ (v : V). o.product (value o cost us) v) (sym (laws.product_sum (o.weight r (cost r)) (value o cost vs) (total o (value o cost) S) w j t))

  total_scaled : (c : V) → o.admits c → (R : List (List ℕ)) → total o (λ (us : List ℕ). o.product (value o cost us) c) R ≡ o.product (total o (value o cost) R) c
  total_scaled c k [] = sym (laws.none_product c k)
  total_scaled c k (us ∷ R) = ap (λ (v : V). o.sum (o.product (value o cost us) c) v) (total_scaled c k R) ∙ sym (laws.sum_product (value o cost us) (total o (value o cost) R) c (value_in o cost laws us) (total_in o laws (value o cost) (value_in o cost laws) R) k)

  -- the sum over lists one behind the other is the product, if a list shows where its first part ends
  pub joined_sum : {P Q : List ℕ → Type 0} {v w : V} (r : ℕ) → Sums o cost P v → Sums o cost Q w → ((us us' vs vs' : List ℕ) → P us → P us' → us ++ (r ∷ vs) ≡ us' ++ (r ∷ vs') → us ≡ us') → Sums o cost (Joined P r Q) (o.product v (o.product (o.weight r (cost r)) w))
  joined_sum {P} {Q} {v} {w} r a b inj = subst (λ (t : V). Sums o cost (Joined P r Q) t) sum_is (transfer o cost into back all)
    where
      Part : List ℕ → List ℕ → Type 0
      Part us xs = (vs : List ℕ) × (vs ∈ b.lists) × (xs ≡ us ++ (r ∷ vs))

      f : List ℕ → V
      f us = o.product (value o cost us) (o.product (o.weight r (cost r)) (total o (value o cost) b.lists))

      part : (us : List ℕ) → Sums o cost (Part us) (f us)
      part us = record { lists = behind us r b.lists; exactly = record { distinct = behind_apart us r b.lists b.exactly.distinct; only = behind_out us r b.lists; every = λ xs t. Memᴰ.cast t.2 (behind_in us r t.1) }; is = behind_total us r b.lists }

      all : Sums o cost (SomeOf a.lists Part) (total o f a.lists)
      all = union o cost laws a.lists Part f a.exactly.distinct (λ us m. part us) (λ us us' xs m m' q q'. inj us us' q.0 q'.0 (a.exactly.only us m) (a.exactly.only us' m') (sym q.2 ∙ q'.2))

      into : (xs : List ℕ) → SomeOf a.lists Part xs → Joined P r Q xs
      into xs t = let (us, m, q) = t in let (vs, n, e) = q in (us, vs, a.exactly.only us m, b.exactly.only vs n, e)

      back : (xs : List ℕ) → Joined P r Q xs → SomeOf a.lists Part xs
      back xs t = let (us, vs, p, q, e) = t in (us, a.exactly.every us p, (vs, b.exactly.every vs q, e))

      sum_is : total o f a.lists ≡ o.product v (o.product (o.weight r (cost r)) w)
      sum_is = total_scaled (o.product (o.weight r (cost r)) (total o (value o cost) b.lists)) (laws.product_in (o.weight r (cost r)) (total o (value o cost) b.lists) (laws.weight_in r (cost r)) (total_in o laws (value o cost) (value_in o cost laws) b.lists)) a.lists ∙ ap₂ (λ (x y : V). o.product x (o.product (o.weight r (cost r)) y)) a.is b.is

-- the sum over a set of lists is one value
pub one_sum : {V : Type 0} (o : Ops V) (cost : ℕ → ℕ) (laws : Lawful o) {P : List ℕ → Type 0} {v w : V} → Sums o cost P v → Sums o cost P w → v ≡ w
one_sum o cost laws s t = sym s.is ∙ one_total o laws (value o cost) (value_in o cost laws) s.exactly t.exactly ∙ t.is

-- what has nothing sums to none
pub nothing_sum : {V : Type 0} (o : Ops V) (cost : ℕ → ℕ) (P : List ℕ → Type 0) → ((us : List ℕ) → P us → ⊥) → Sums o cost P o.none
nothing_sum o cost P f = record { lists = []; exactly = record { distinct = tt; only = λ us m. absurd (Memᴰ.not-nil m); every = λ us p. absurd (f us p) }; is = refl }

-- what has the empty list alone sums to unit
pub nil_sum : {V : Type 0} (o : Ops V) (cost : ℕ → ℕ) (laws : Lawful o) (P : List ℕ → Type 0) → P [] → ((xs : List ℕ) → P xs → xs ≡ []) → Sums o cost P o.unit
nil_sum o cost laws P p f = record { lists = [] ∷ []; exactly = record { distinct = (λ m. Memᴰ.not-nil m, tt); only = λ xs m. subst P (sym (Memᴰ.eq_of_singleton m)) p; every = λ xs h. Memᴰ.head (f xs h) }; is = laws.sum_comm o.unit o.none laws.unit_in laws.none_in ∙ laws.none_sum o.unit laws.unit_in }
