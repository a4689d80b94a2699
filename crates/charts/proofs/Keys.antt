-- Every item comes after the items that it is made from, by span, then by what bars it, by rank and by dot.
use Rattle.std.proofs.Common.{◌≡◌, ℕ, zero, suc, ◌<◌, ◌≤◌, Bool, true, false, cond, List, [], ◌∷◌, length, Some, sym, refl, subst, inl, inr, arith}
use native.Mathlib.Decide.{ℕ_discrete, dec_lt}
use Rattle.indent.specs.declared.summary.Summary.{Summary}
use Rattle.tokens.specs.declared.token.Token.{Token}
use Rattle.lists.specs.Entries.{nth}
use Rattle.lists.proofs.Entries.{nth_below}
use Rattle.grammar.specs.Grammar.{Grammar, Rule, Place}
use Rattle.grammar.specs.Steps.{Nullable, empty, Steps, GetsTo, one, further}
use Rattle.readings.proofs.Nulls.{one_more}
use Rattle.charts.specs.Chart.{Item, Awaits, Finished, advanced, InChart, begin, predict, scan, complete}
use Rattle.charts.specs.Links.{Child, sub, Linked, scanned, completed, Uses, back, down}
use Rattle.charts.specs.Room.{Places}
use Rattle.charts.specs.Key.{Ranks, blocked, places_of, left_of, key, Less, number}
use Rattle.charts.proofs.Stable.{within}
use Rattle.charts.proofs.Links.{used_in}
use Rattle.charts.proofs.Room.{rule_of_lem}
use Rattle.charts.proofs.KeyOrder.{number_less}

-- the places that an item over no token has passed are nullable
pub empty_item : {g : Grammar} {ts : List Token} {x : Item} → InChart g ts x → x.from ≡ x.to → (p : Rule) → nth g.rules x.rule ≡ Some p → (j : ℕ) (q : Place) → nth p.places j ≡ Some q → j < x.dot → Nullable g q.symbol
empty_item (begin r p h e) z p' i j q l b = absurd (omega arith)
empty_item (predict q' d a r p h e) z p' i j q l b = absurd (omega arith)
empty_item (scan q' d a t h e k) z p i j q l b = absurd (omega (arith, within d))
empty_item {g = g} (complete {x = x} {y = y} q' d a c f e k) z p i j q l b =
    let m = within d in
    let n = within c in
    let w : a.of ≡ p = cc in
    let h : nth p.places x.dot ≡ Some q' = cc a.there in
    one_more p.places (ℕ_discrete j x.dot) l b h
    (subst (λ (s : ℕ). Nullable g s) f.left (empty y.rule f.of f.is (λ j' q'' l'. empty_item c (omega arith) f.of f.is j' q'' l' (omega (arith, f.all, nth_below f.of.places j' l')))))
    (λ u. empty_item d (omega arith) p i j q l u)

-- a finished item over no token makes its symbol nullable
pub empty_finished : {g : Grammar} {ts : List Token} {y : Item} {s : ℕ} → InChart g ts y → Finished g y s → y.from ≡ y.to → Nullable g s
empty_finished {g} {y = y} c f z = subst (λ (s : ℕ). Nullable g s) f.left (empty y.rule f.of f.is (λ j q l. empty_item c z f.of f.is j q l (omega (arith, f.all, nth_below f.of.places j l))))

-- what bars a dot
pub blocked_end : (f : ℕ → Bool) (ps : List Place) (k : ℕ) → k ≡ length ps → blocked f ps k ≡ 0
blocked_end f [] k e = refl
blocked_end f (q ∷ ps) zero e = absurd (omega arith)
blocked_end f (q ∷ ps) (suc k) e = blocked_end f ps k (omega arith)

pub blocked_past : (f : ℕ → Bool) (ps : List Place) (k : ℕ) (q : Place) → nth ps k ≡ Some q → f q.symbol ≡ true → blocked f ps k ≡ blocked f ps (suc k)
blocked_past f [] k q h e = let z : ◌≡◌ {A = ℕ} 0 1 = cc in absurd (omega arith)
blocked_past f (q' ∷ ps) zero q h e = let w : q' ≡ q = cc in let v : f q'.symbol ≡ true = cc in rw v
blocked_past f (q' ∷ ps) (suc k) q h e = blocked_past f ps k q h e

open_all : (b : Bool) (n : ℕ) → cond b n 1 ≡ 0 → (b ≡ true) × (n ≡ 0)
open_all true n e = (refl, e)
open_all false n e = absurd (omega arith)

pub blocked_none : (f : ℕ → Bool) (ps : List Place) (k j : ℕ) (q : Place) → blocked f ps k ≡ 0 → k ≤ j → nth ps j ≡ Some q → f q.symbol ≡ true
blocked_none f [] k j q e b h = let z : ◌≡◌ {A = ℕ} 0 1 = cc in absurd (omega arith)
blocked_none f (q' ∷ ps) zero zero q e b h = let w : q' ≡ q = cc in let v = (open_all (f q'.symbol) (blocked f ps zero) e).0 in cc
blocked_none f (q' ∷ ps) zero (suc j) q e b h = blocked_none f ps zero j q (open_all (f q'.symbol) (blocked f ps zero) e).1 (omega arith) h
blocked_none f (q' ∷ ps) (suc k) zero q e b h = absurd (omega arith)
blocked_none f (q' ∷ ps) (suc k) (suc j) q e b h = blocked_none f ps k j q e (omega arith) h

pub blocked_low : (f : ℕ → Bool) (ps : List Place) (k : ℕ) → blocked f ps k < 2
blocked_low f [] k = omega arith
blocked_low f (q ∷ ps) zero = go (f q.symbol) (blocked_low f ps zero)
  where
    go : (b : Bool) → blocked f ps zero < 2 → cond b (blocked f ps zero) 1 < 2
    go true h = h
    go false h = omega arith
blocked_low f (q ∷ ps) (suc k) = blocked_low f ps k

-- the key of a grammar whose nullable symbols and ranks are given
module _ (g : Grammar) (f : ℕ → Bool) (rank : ℕ → ℕ) (ranks : Ranks g f rank) where
  pub gets_lower : {a b : ℕ} → GetsTo g a b → rank b < rank a
  gets_lower {a} {b} (one s) = ranks.falls a b s
  gets_lower {a} (further {b = b} s t) = omega (arith, ranks.falls a b s, gets_lower t)

  -- so no symbol gets to itself
  pub no_circle : {a : ℕ} → GetsTo g a a → ⊥
  no_circle s = omega (arith, gets_lower s)

  after_earlier : (ts : List Token) (y z : Item) (σ : Summary) (q : Place) → Dec (z.from < z.to) → InChart g ts y → Awaits g y q → InChart g ts z → Finished g z q.symbol → z.from ≡ y.to → Less (key g f rank y) (key g f rank (advanced y z.to σ))
  after_earlier ts y z σ q (yes b) d a c l e = let m = within d in let n = within c in inl (omega arith)
  after_earlier ts y z σ q (no b) d a c l e =
      let m = within d in
      let n = within c in
      let u : f q.symbol ≡ true = (ranks.nullable q.symbol).1 (empty_finished c l (omega arith)) in
      let v : nth (places_of (nth g.rules y.rule)) y.dot ≡ Some q = rw a.is a.there in
      inr (omega arith, inr (blocked_past f (places_of (nth g.rules y.rule)) y.dot q v u, inr (refl, omega arith)))

  -- the step from the symbol of an item over no token to that of its last place
  step_to : (ts : List Token) (y : Item) (q : Place) (b : ℕ) (d : InChart g ts y) → y.from ≡ y.to → (a : Awaits g y q) → q.symbol ≡ b → blocked f a.of.places (suc y.dot) ≡ 0 → Steps g a.of.left b
  step_to ts y q b d z a e k = record { at = y.rule; of = a.of; is = a.is; left = refl; place = y.dot; what = q; there = a.there; symbol = e; others = λ j q' l n. go j q' l n (dec_lt j y.dot) }
    where
      go : (j : ℕ) (q' : Place) → nth a.of.places j ≡ Some q' → (j ≡ y.dot → ⊥) → Dec (j < y.dot) → Nullable g q'.symbol
      go j q' l n (yes u) = empty_item d z a.of a.is j q' l u
      go j q' l n (no u) = (ranks.nullable q'.symbol).0 (blocked_none f a.of.places (suc y.dot) j q' k (omega arith) l)

  after_child : (ts : List Token) (y z : Item) (σ : Summary) (q : Place) → Dec (y.from < y.to) → InChart g ts y → (a : Awaits g y q) → InChart g ts z → Finished g z q.symbol → z.from ≡ y.to → Dec (0 < blocked f (places_of (nth g.rules y.rule)) (suc y.dot)) → Less (key g f rank z) (key g f rank (advanced y z.to σ))
  after_child ts y z σ q (yes b) d a c l e o = let m = within d in let n = within c in inl (omega arith)
  after_child ts y z σ q (no b) d a c l e (yes w) =
      let m = within d in
      let n = within c in
      let u : blocked f (places_of (nth g.rules z.rule)) z.dot ≡ 0 = rw l.is (blocked_end f l.of.places z.dot l.all) in
      inr (omega arith, inl (omega arith))
  after_child ts y z σ q (no b) d a c l e (no w) =
      let m = within d in
      let n = within c in
      let u : blocked f (places_of (nth g.rules z.rule)) z.dot ≡ 0 = rw l.is (blocked_end f l.of.places z.dot l.all) in
      let k : blocked f (places_of (nth g.rules y.rule)) (suc y.dot) ≡ 0 = omega arith in
      let v : rank (left_of (nth g.rules z.rule)) < rank (left_of (nth g.rules y.rule)) = rw (l.is, a.is) (ranks.falls a.of.left l.of.left (step_to ts y q l.of.left d (omega arith) a (sym l.left) (rw a.is at k))) in
      inr (omega arith, inr (omega arith, inl v))

  -- the key falls from an item to the one before it, and to its child
  pub before_falls : {ts : List Token} {x y : Item} {c : Child} → Linked g ts x y c → Less (key g f rank y) (key g f rank x)
  before_falls (scanned q d a t h e k) = let b = within d in inl (omega arith)
  before_falls {ts = ts} (completed {y = y} {z = z} {σ = σ} q d a c l e k) = after_earlier ts y z σ q (dec_lt z.from z.to) d a c l e

  pub child_falls : {ts : List Token} {x y z : Item} → Linked g ts x y (sub z) → Less (key g f rank z) (key g f rank x)
  child_falls {ts = ts} (completed {y = y} {z = z} {σ = σ} q d a c l e k) = after_child ts y z σ q (dec_lt y.from y.to) d a c l e (dec_lt 0 (blocked f (places_of (nth g.rules y.rule)) (suc y.dot)))

  pub uses_falls : {ts : List Token} {x y : Item} → Uses g ts x y → Less (key g f rank y) (key g f rank x)
  uses_falls (back l) = before_falls l
  uses_falls (down l) = child_falls l

  -- the key as one number falls too, where every rank is below m and every rule has fewer than n places
  pub number_falls : (m n : ℕ) → ((a : ℕ) → rank a < m) → Places n g → {ts : List Token} {x y : Item} → Uses g ts x y → number m n (key g f rank y) < number m n (key g f rank x)
  number_falls m n low few {x = x} {y = y} u =
      let (p, h, k) = rule_of_lem (used_in u) in
      number_less m n (key g f rank y) (key g f rank x) (blocked_low f (places_of (nth g.rules y.rule)) y.dot) (low (left_of (nth g.rules y.rule))) (omega (arith, few y.rule p h)) (uses_falls u)
