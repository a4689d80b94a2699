-- The readings among all trees, their order, and those that begin with a prefix.
use Rattle.std.proofs.Common.{◌≡◌, ℕ, ◌<◌, Bool, true, false, ◌&&◌, ◌||◌, eqb, ltb, ◌⊎◌, List, [], ◌∷◌, ◌++◌, length, sym, refl, subst, inl, inr, true≢false, arith}
use mathlib.Core.Path.{subst₃}
use mathlib.Core.List.Memᴰ
use Rattle.std.proofs.lemmas.Bool.{and_parts, and_from, or_cases, eqb-true, eq-eqb, ltb-true}
use Rattle.tokens.specs.declared.token.Token.{Token}
use Rattle.lists.specs.Members.{◌∈◌, Distinct}
use Rattle.lists.specs.Begins.{Begins}
use Rattle.lists.specs.Exactly.{Exactly}
use Rattle.lists.proofs.Choosing.{choose, choose_exactly}
use Rattle.grammar.specs.Grammar.{Grammar}
use Rattle.readings.specs.Reading.{Reading, Tree}
use Rattle.readings.specs.Order.{Before}
use Rattle.readings.proofs.Adequacy.{reading_spec}
use Rattle.readings.proofs.Ordering.{before_irreflexive}
use Rattle.cases.specs.Case.{Rising}
use Rattle.cases.proofs.Gathering.{gather, gather_in, gather_of, when, when_in, when_of}
use Rattle.cases.proofs.Rounds.{Every, all, all_every, has, has_every}
use Rattle.cases.proofs.Growing.{Grown, Grows}

-- the list of a tree of the start symbol over all tokens
abbrev whole : Grammar → List Token → Grown → List (List ℕ)
whole g ts t = when ((eqb t.symbol g.start && eqb t.from 0) && eqb t.to (length ts)) (t.list ∷ [])

abbrev pub wholes : Grammar → List Token → List Grown → List (List ℕ)
wholes g ts T = gather (whole g ts) T

wholes_sound : (g : Grammar) (ts : List Token) (T : List Grown) → Every (Grows g ts) T → Every (Reading g ts) (wholes g ts T)
wholes_sound g ts T h xs m =
    let (t, i, n) = gather_of (whole g ts) T m in
    let (b, o) = when_of ((eqb t.symbol g.start && eqb t.from 0) && eqb t.to (length ts)) (t.list ∷ []) n in
    let (c, d) = and_parts (eqb t.symbol g.start && eqb t.from 0) (eqb t.to (length ts)) b in
    let (u, v) = and_parts (eqb t.symbol g.start) (eqb t.from 0) c in
    let w : Tree g ts g.start 0 (length ts) t.summary t.list = subst₃ (λ (a s e : ℕ). Tree g ts a s e t.summary t.list) (eqb-true t.symbol g.start u) (eqb-true t.from 0 v) (eqb-true t.to (length ts) d) (h t i).tree in
    subst (Reading g ts) (sym (Memᴰ.eq_of_singleton o)) ((reading_spec g ts t.list).1 (t.summary, w))

wholes_in : (g : Grammar) (ts : List Token) (T : List Grown) → ((t : Grown) → Grows g ts t → t ∈ T) → (xs : List ℕ) → Reading g ts xs → xs ∈ wholes g ts T
wholes_in g ts T f xs r =
    let (σ, d) = (reading_spec g ts xs).0 r in
    gather_in (whole g ts) (f (record { symbol = g.start; from = 0; to = length ts; summary = σ; list = xs }) (record { starts = omega arith; tree = d })) (when_in ((eqb g.start g.start && eqb 0 0) && eqb (length ts) (length ts)) tests (Memᴰ.head refl))
  where
    tests : ((eqb g.start g.start && eqb 0 0) && eqb (length ts) (length ts)) ≡ true
    tests = and_from (eqb g.start g.start && eqb 0 0) (eqb (length ts) (length ts)) (and_from (eqb g.start g.start) (eqb 0 0) (eq-eqb g.start g.start refl) refl) (eq-eqb (length ts) (length ts) refl)

-- the order of lists, tested
abbrev before : List ℕ → List ℕ → Bool
before [] [] = false
before [] (y ∷ ys) = true
before (x ∷ xs) [] = false
before (x ∷ xs) (y ∷ ys) = ltb x y || (eqb x y && before xs ys)

before_true : (xs ys : List ℕ) → before xs ys ≡ true → Before xs ys
before_true [] [] e = absurd (true≢false (sym e))
before_true [] (y ∷ ys) e = tt
before_true (x ∷ xs) [] e = absurd (true≢false (sym e))
before_true (x ∷ xs) (y ∷ ys) e = go (or_cases (ltb x y) (eqb x y && before xs ys) e) (λ k. before_true xs ys k)
  where
    go : (ltb x y ≡ true) ⊎ ((eqb x y && before xs ys) ≡ true) → (before xs ys ≡ true → Before xs ys) → (x < y) ⊎ ((x ≡ y) × Before xs ys)
    go (inl h) f = inl (ltb-true x y h)
    go (inr h) f = let (a, b) = and_parts (eqb x y) (before xs ys) h in inr (eqb-true x y a, f b)

abbrev pub rises : List (List ℕ) → Bool
rises [] = true
rises (xs ∷ R) = all (before xs) R && rises R

pub rises_true : (R : List (List ℕ)) → rises R ≡ true → Rising R
rises_true [] e = tt
rises_true (xs ∷ R) e = let (h, k) = and_parts (all (before xs) R) (rises R) e in (all_every (before xs) (Before xs) (before_true xs) R h, rises_true R k)

rising_distinct : (R : List (List ℕ)) → Rising R → Distinct R
rising_distinct [] h = tt
rising_distinct (xs ∷ R) h = ((λ m. before_irreflexive xs (h.0 xs m)), rising_distinct R h.1)

-- a list is its own code
abbrev pub itself : List ℕ → List ℕ
itself xs = xs

-- the lists R rise, and have the same members as W
abbrev pub lists_all : List (List ℕ) → List (List ℕ) → Bool
lists_all W R = rises R && (all (has itself W) R && all (has itself R) W)

-- a rising list of the same members as the whole trees is the list of the readings
pub lists_exactly : (g : Grammar) (ts : List Token) (T : List Grown) (R : List (List ℕ)) → Exactly (Grows g ts) T → lists_all (wholes g ts T) R ≡ true → Exactly (Reading g ts) R × Rising R
lists_exactly g ts T R x e =
    let (h, k) = and_parts (rises R) (all (has itself (wholes g ts T)) R && all (has itself R) (wholes g ts T)) e in
    let (i, j) = and_parts (all (has itself (wholes g ts T)) R) (all (has itself R) (wholes g ts T)) k in
    let r : Rising R = rises_true R h in (
      record {
        distinct = rising_distinct R r;
        only = λ xs m. wholes_sound g ts T x.only xs (has_every itself (λ a b f. f) (wholes g ts T) R i xs m);
        every = λ xs d. has_every itself (λ a b f. f) R (wholes g ts T) j xs (wholes_in g ts T x.every xs d);
      },
      r,
    )

-- a list begins with a prefix, tested
abbrev begins : List ℕ → List ℕ → Bool
begins [] xs = true
begins (x ∷ p) [] = false
begins (x ∷ p) (y ∷ ys) = eqb x y && begins p ys

pub begins_true : (p xs : List ℕ) → begins p xs ≡ true → Begins p xs
begins_true [] xs e = (xs, refl)
begins_true (x ∷ p) [] e = absurd (true≢false (sym e))
begins_true (x ∷ p) (y ∷ ys) e =
    let (a, b) = and_parts (eqb x y) (begins p ys) e in
    let (zs, f) = begins_true p ys b in
    (zs, cc (eqb-true x y a, f))

pub begins_from : (p xs : List ℕ) → Begins p xs → begins p xs ≡ true
begins_from [] xs h = refl
begins_from (x ∷ p) [] h = let e = h.1 in let z : ◌≡◌ {A = ℕ} 0 1 = cc in absurd (omega arith)
begins_from (x ∷ p) (y ∷ ys) h =
    let e = h.1 in
    let a : x ≡ y = cc in
    let b : ys ≡ p ++ h.0 = cc in
    and_from (eqb x y) (begins p ys) (eq-eqb x y a) (begins_from p ys (h.0, b))

abbrev decided : {Q : Type 0} (t : Bool) → (t ≡ true → Q) → (Q → t ≡ true) → Dec Q
decided true f h = yes (f refl)
decided false f h = no (λ q. true≢false (sym (h q)))

abbrev begins_decided : (p xs : List ℕ) → Dec (Begins p xs)
begins_decided p xs = decided (begins p xs) (begins_true p xs) (begins_from p xs)

-- those that begin with the prefix
abbrev pub begun : List ℕ → List (List ℕ) → List (List ℕ)
begun p R = choose {Q = Begins p} (begins_decided p) R

pub begun_exactly : (g : Grammar) (ts : List Token) (p : List ℕ) (R : List (List ℕ)) → Exactly (Reading g ts) R → Exactly (λ xs. Reading g ts xs × Begins p xs) (begun p R)
begun_exactly g ts p R x = choose_exactly {Q = Begins p} (begins_decided p) R x
