-- Lists that hold a set, made from others: the members that pass a test, and mapped ones.
use Rattle.std.proofs.Common.{◌≡◌, ◌⊎◌, List, [], ◌∷◌, map, sym, refl, subst, inl, inr}
use mathlib.Core.List.Memᴰ
use Rattle.lists.specs.Members.{◌∈◌, Distinct}
use Rattle.lists.specs.Exactly.{Exactly}

abbrev pub keep : {A Q : Type 0} → Dec Q → A → List A → List A
keep (yes h) a R = a ∷ R
keep (no h) a R = R

abbrev pub choose : {A : Type 0} {Q : A → Type 0} → ((a : A) → Dec (Q a)) → List A → List A
choose d [] = []
choose d (a ∷ R) = keep (d a) a (choose d R)

module _ {A : Type 0} {Q : A → Type 0} (d : (a : A) → Dec (Q a)) where
  pub choose_only : (R : List A) (x : A) → x ∈ choose d R → (x ∈ R) × Q x
  choose_only [] x m = absurd (Memᴰ.not-nil m)
  choose_only (a ∷ R) x m = go (d a) m (choose_only R x)
    where
      first : Q a → (x ≡ a) ⊎ (x ∈ choose d R) → (x ∈ choose d R → (x ∈ R) × Q x) → (x ∈ (a ∷ R)) × Q x
      first q (inl e) f = (Memᴰ.head e, subst Q (sym e) q)
      first q (inr k) f = let (n, r) = f k in (Memᴰ.tail n, r)

      go : (t : Dec (Q a)) → x ∈ keep t a (choose d R) → (x ∈ choose d R → (x ∈ R) × Q x) → (x ∈ (a ∷ R)) × Q x
      go (yes q) k f = first q (Memᴰ.cases_cons k) f
      go (no q) k f = let (n, r) = f k in (Memᴰ.tail n, r)

  pub choose_every : (R : List A) (x : A) → x ∈ R → Q x → x ∈ choose d R
  choose_every [] x m q = absurd (Memᴰ.not-nil m)
  choose_every (a ∷ R) x m q = go (d a) (Memᴰ.cases_cons m) (λ k. choose_every R x k q)
    where
      go : (t : Dec (Q a)) → (x ≡ a) ⊎ (x ∈ R) → (x ∈ R → x ∈ choose d R) → x ∈ keep t a (choose d R)
      go (yes p) (inl e) f = Memᴰ.head e
      go (yes p) (inr k) f = Memᴰ.tail (f k)
      go (no p) (inl e) f = absurd (p (subst Q e q))
      go (no p) (inr k) f = f k

  pub choose_distinct : (R : List A) → Distinct R → Distinct (choose d R)
  choose_distinct [] p = tt
  choose_distinct (a ∷ R) p = go (d a) (choose_distinct R p.1)
    where
      go : (t : Dec (Q a)) → Distinct (choose d R) → Distinct (keep t a (choose d R))
      go (yes q) h = (λ m. p.0 (choose_only R a m).0, h)
      go (no q) h = h

  -- those of a set that pass
  pub choose_exactly : {P : A → Type 0} (R : List A) → Exactly P R → Exactly (λ a. P a × Q a) (choose d R)
  choose_exactly R l = record { distinct = choose_distinct R l.distinct; only = λ a m. (let (n, q) = choose_only R a m in (l.only a n, q)); every = λ a h. choose_every R a (l.every a h.0) h.1 }

-- a set mapped by what keeps its elements apart
pub map_exactly : {A B : Type 0} (f : A → B) {P : A → Type 0} {Q : B → Type 0} (R : List A) → Exactly P R → ((a : A) → P a → Q (f a)) → ((b : B) → Q b → (a : A) × P a × (f a ≡ b)) → ((a a' : A) → P a → P a' → f a ≡ f a' → a ≡ a') → Exactly Q (map f R)
map_exactly {A} {B} f {P} {Q} R l into back one = record { distinct = apart R l.distinct l.only; only = only; every = every }
  where
    only : (b : B) → b ∈ map f R → Q b
    only b m = let (a, n, e) = Memᴰ.of_map f R m in subst Q e (into a (l.only a n))

    every : (b : B) → Q b → b ∈ map f R
    every b q = let (a, p, e) = back b q in Memᴰ.cast (sym e) (Memᴰ.map f (l.every a p))

    apart : (S : List A) → Distinct S → ((a : A) → a ∈ S → P a) → Distinct (map f S)
    apart [] d h = tt
    apart (a ∷ S) d h = (λ m. (let (a', n, e) = Memᴰ.of_map f S m in d.0 (Memᴰ.cast (one a a' (h a (Memᴰ.head refl)) (h a' (Memᴰ.tail n)) (sym e)) n)), apart S d.1 (λ b k. h b (Memᴰ.tail k)))

-- sets with the same elements are held by the same lists
pub exactly_same : {A : Type 0} {P Q : A → Type 0} {R : List A} → Exactly P R → ((a : A) → P a → Q a) → ((a : A) → Q a → P a) → Exactly Q R
exactly_same l into back = record { distinct = l.distinct; only = λ a m. into a (l.only a m); every = λ a q. l.every a (back a q) }
