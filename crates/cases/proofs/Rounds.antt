-- Sets that are made in rounds: where nothing stands twice and a round adds nothing, the list holds the set.
use Rattle.std.proofs.Common.{◌≡◌, ℕ, zero, suc, Bool, true, false, cond, not, ◌&&◌, ◌||◌, List, [], ◌∷◌, ◌++◌, sym, refl, subst, ⊎_elim}
use mathlib.Core.List.Memᴰ
use Rattle.std.specs.Str.{bytes_eq}
use Rattle.std.proofs.lemmas.Slice.Eq.{bytes_eq-Decides}
use Rattle.std.proofs.lemmas.Bool.{and_parts, not-true, both_ways}
use Rattle.lists.specs.Members.{◌∈◌, Distinct}
use Rattle.lists.specs.Exactly.{Exactly}
use Rattle.lists.specs.Tallies.{any_of}
use Rattle.lists.proofs.Tallies.{any_at, any_from}

-- every member of the list has P
abbrev pub Every : {A : Type 0} → (A → Type 0) → List A → Type 0
Every {A} P l = (a : A) → a ∈ l → P a

every_nil : {A : Type 0} (P : A → Type 0) → Every P []
every_nil P a m = absurd (Memᴰ.not-nil m)

every_cons : {A : Type 0} (P : A → Type 0) {a : A} {l : List A} → P a → Every P l → Every P (a ∷ l)
every_cons P p h b m = ⊎_elim (λ e. subst P (sym e) p) (h b) (Memᴰ.cases_cons m)

pub every_append : {A : Type 0} (P : A → Type 0) (l : List A) {k : List A} → Every P l → Every P k → Every P (l ++ k)
every_append P l h i b m = ⊎_elim (h b) (i b) (Memᴰ.append_cases l m)

-- every member passes the test
abbrev pub all : {A : Type 0} → (A → Bool) → List A → Bool
all f [] = true
all f (a ∷ l) = f a && all f l

pub all_every : {A : Type 0} (f : A → Bool) (P : A → Type 0) → ((a : A) → f a ≡ true → P a) → (l : List A) → all f l ≡ true → Every P l
all_every f P h [] e = every_nil P
all_every f P h (a ∷ l) e = let (i, k) = and_parts (f a) (all f l) e in every_cons P (h a i) (all_every f P h l k)

-- tests on lists whose elements are told apart by a code: a list of numbers
module _ {A : Type 0} (code : A → List ℕ) where
  abbrev pub has : List A → A → Bool
  has l a = any_of (λ b. bytes_eq (code a) (code b)) l

  -- nothing stands twice
  abbrev pub once : List A → Bool
  once [] = true
  once (a ∷ l) = not (has l a) && once l

  -- those of a list that neither R nor N has, each once, before N
  abbrev pub unseen : List A → List A → List A → List A
  unseen R N [] = N
  unseen R N (a ∷ l) = unseen R (cond (has R a || has N a) N (a ∷ N)) l

  -- at most n rounds, from R with N new, until nothing is new
  abbrev pub settle : (List A → List A) → ℕ → List A → List A → List A
  settle made n R [] = R
  settle made zero R (a ∷ N) = R
  settle made (suc n) R (a ∷ N) = settle made n ((a ∷ N) ++ R) (unseen ((a ∷ N) ++ R) [] (made ((a ∷ N) ++ R)))

  -- what is made from nothing
  abbrev pub settled : (List A → List A) → List A
  settled made = settle made 64 [] (unseen [] [] (made []))

  -- nothing stands twice, and a round adds nothing
  abbrev pub full : (List A → List A) → List A → Bool
  full made R = once R && all (has R) (made R)

-- rounds that make only what has P from what has P; a list that has all that a round makes of it has all that has P
pub record Makes {A : Type 0} (P : A → Type 0) (made : List A → List A) : Type 0 where
  pub sound : (R : List A) → Every P R → Every P (made R)
  pub whole : (R : List A) → Every (λ a. a ∈ R) (made R) → (a : A) → P a → a ∈ R

module _ {A : Type 0} (code : A → List ℕ) (P : A → Type 0) where
  unseen_every : (R N l : List A) → Every P N → Every P l → Every P (unseen code R N l)
  unseen_every R N [] h k = h
  unseen_every R N (a ∷ l) h k = unseen_every R (cond (has code R a || has code N a) N (a ∷ N)) l (by (has code R a || has code N a)) (λ b m. k b (Memᴰ.tail m))
    where
      by : (t : Bool) → Every P (cond t N (a ∷ N))
      by true = h
      by false = every_cons P (k a (Memᴰ.head refl)) h

  settle_every : (made : List A → List A) → ((R : List A) → Every P R → Every P (made R)) → (n : ℕ) (R N : List A) → Every P R → Every P N → Every P (settle code made n R N)
  settle_every made s n R [] h k = h
  settle_every made s zero R (a ∷ N) h k = h
  settle_every made s (suc n) R (a ∷ N) h k =
      let j : Every P ((a ∷ N) ++ R) = every_append P (a ∷ N) k h in
      settle_every made s n ((a ∷ N) ++ R) (unseen code ((a ∷ N) ++ R) [] (made ((a ∷ N) ++ R))) j (unseen_every ((a ∷ N) ++ R) [] (made ((a ∷ N) ++ R)) (every_nil P) (s ((a ∷ N) ++ R) j))

  pub settled_every : (made : List A → List A) → ((R : List A) → Every P R → Every P (made R)) → Every P (settled code made)
  settled_every made s = settle_every made s 64 [] (unseen code [] [] (made [])) (every_nil P) (unseen_every [] [] (made []) (every_nil P) (s [] (every_nil P)))

module _ {A : Type 0} (code : A → List ℕ) (one : (a b : A) → code a ≡ code b → a ≡ b) where
  has_true : (l : List A) (a : A) → has code l a ≡ true → a ∈ l
  has_true l a e =
      let (c, m, k) = any_at (λ b. bytes_eq (code a) (code b)) l e in
      Memᴰ.cast (one a c ((bytes_eq-Decides (code a) (code c)).0 k)) m

  has_from : {a : A} {l : List A} → a ∈ l → has code l a ≡ true
  has_from {a} m = any_from (λ b. bytes_eq (code a) (code b)) m ((bytes_eq-Decides (code a) (code a)).1 refl)

  pub has_every : (R l : List A) → all (has code R) l ≡ true → Every (λ a. a ∈ R) l
  has_every R l e = all_every (has code R) (λ a. a ∈ R) (has_true R) l e

  pub once_distinct : (l : List A) → once code l ≡ true → Distinct l
  once_distinct [] e = tt
  once_distinct (a ∷ l) e =
      let (h, k) = and_parts (not (has code l a)) (once code l) e in
      ((λ m. both_ways (has code l a) (not-true (has code l a) h) (has_from m)), once_distinct l k)

  -- a list made in rounds that passes the tests holds the set
  pub settled_exactly : {P : A → Type 0} {made : List A → List A} → Makes P made → full code made (settled code made) ≡ true → Exactly P (settled code made)
  settled_exactly {P} {made} w e =
      let (h, k) = and_parts (once code (settled code made)) (all (has code (settled code made)) (made (settled code made))) e in
      record { distinct = once_distinct (settled code made) h; only = settled_every code P made w.sound; every = w.whole (settled code made) (has_every (settled code made) (made (settled code made)) k) }
