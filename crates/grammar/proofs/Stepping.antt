-- The computed steps are those of the definition.
use Rattle.std.proofs.Common.{◌≡◌, ℕ, zero, suc, Bool, true, ◌&&◌, eqb, ◌⊎◌, List, [], ◌∷◌, Some, Decides, refl, ap, subst, inl, inr, arith}
use mathlib.Core.List.Memᴰ
use Rattle.std.proofs.lemmas.Bool.{and_parts, or_cases, or_right}
use Rattle.std.proofs.lemmas.Bool.Decides.{Decides-eqb}
use Rattle.lists.specs.Entries.{nth}
use Rattle.lists.specs.Members.{◌∈◌}
use Rattle.grammar.specs.Grammar.{Grammar, Rule, Place}
use Rattle.grammar.specs.Steps.{Steps}
use Rattle.grammar.specs.Nulling.{every, nullable, lefts}
use Rattle.grammar.specs.Reaching.{lets, stepped, steps, symbols, rights}
use Rattle.grammar.proofs.Nulling.{every_at, every_from, lefts_has, nullable_decides}

-- a place with the symbol b, every other place of the list passing
abbrev Lets : (ℕ → Bool) → List Place → ℕ → Type 0
Lets f ps b = (k : ℕ) × (q : Place) × (nth ps k ≡ Some q) × (q.symbol ≡ b) × ((j : ℕ) (o : Place) → nth ps j ≡ Some o → (j ≡ k → ⊥) → f o.symbol ≡ true)

lets_here : (f : ℕ → Bool) (p : Place) (ps : List Place) (b : ℕ) → p.symbol ≡ b → every f ps ≡ true → Lets f (p ∷ ps) b
lets_here f p ps b e h = (0, p, refl, e, go)
  where
    go : (j : ℕ) (o : Place) → nth (p ∷ ps) j ≡ Some o → (j ≡ 0 → ⊥) → f o.symbol ≡ true
    go zero o i n = absurd (n refl)
    go (suc j) o i n = every_at f ps h j o i

lets_there : (f : ℕ → Bool) (p : Place) (ps : List Place) (b : ℕ) → f p.symbol ≡ true → Lets f ps b → Lets f (p ∷ ps) b
lets_there f p ps b e (k, q, h, l, m) = (suc k, q, h, l, go)
  where
    go : (j : ℕ) (o : Place) → nth (p ∷ ps) j ≡ Some o → (j ≡ suc k → ⊥) → f o.symbol ≡ true
    go zero o i n = let w : p ≡ o = cc in cc
    go (suc j) o i n = m j o i (λ x. n (ap suc x))

lets_at : (f : ℕ → Bool) (ps : List Place) (b : ℕ) → lets f ps b ≡ true → Lets f ps b
lets_at f [] b e = let z : ◌≡◌ {A = ℕ} 0 1 = cc in absurd (omega arith)
lets_at f (p ∷ ps) b e = go (or_cases (eqb p.symbol b && every f ps) (f p.symbol && lets f ps b) e) (λ k. lets_at f ps b k)
  where
    go : ((eqb p.symbol b && every f ps) ≡ true) ⊎ ((f p.symbol && lets f ps b) ≡ true) → (lets f ps b ≡ true → Lets f ps b) → Lets f (p ∷ ps) b
    go (inl k) ih = let (x, y) = and_parts (eqb p.symbol b) (every f ps) k in lets_here f p ps b ((Decides-eqb p.symbol b).0 x) y
    go (inr k) ih = let (x, y) = and_parts (f p.symbol) (lets f ps b) k in lets_there f p ps b x (ih y)

lets_from : (f : ℕ → Bool) (ps : List Place) (b : ℕ) (k : ℕ) (q : Place) → nth ps k ≡ Some q → q.symbol ≡ b → ((j : ℕ) (o : Place) → nth ps j ≡ Some o → (j ≡ k → ⊥) → f o.symbol ≡ true) → lets f ps b ≡ true
lets_from f [] b k q h l m = let z : ◌≡◌ {A = ℕ} 0 1 = cc in absurd (omega arith)
lets_from f (p ∷ ps) b zero q h l m =
    let w : p ≡ q = cc in
    let u : eqb p.symbol b ≡ true = (Decides-eqb p.symbol b).1 (cc) in
    let v : every f ps ≡ true = every_from f ps (λ j o i. m (suc j) o i (λ x. omega arith)) in
    rw (u, v)
lets_from f (p ∷ ps) b (suc k) q h l m =
    let u : f p.symbol ≡ true = m 0 p refl (λ x. omega arith) in
    let v : lets f ps b ≡ true = lets_from f ps b k q h l (λ j o i n. m (suc j) o i (λ x. n (omega arith))) in
    or_right (eqb p.symbol b && every f ps) (f p.symbol && lets f ps b) (rw (u, v))

stepped_at : (f : ℕ → Bool) (ps : List Rule) (a b : ℕ) → stepped f ps a b ≡ true → (r : ℕ) × (p : Rule) × (nth ps r ≡ Some p) × (p.left ≡ a) × (lets f p.places b ≡ true)
stepped_at f [] a b e = let z : ◌≡◌ {A = ℕ} 0 1 = cc in absurd (omega arith)
stepped_at f (p ∷ ps) a b e = go (or_cases (eqb p.left a && lets f p.places b) (stepped f ps a b) e) (λ k. stepped_at f ps a b k)
  where
    go : ((eqb p.left a && lets f p.places b) ≡ true) ⊎ (stepped f ps a b ≡ true)
        → (stepped f ps a b ≡ true → (r : ℕ) × (o : Rule) × (nth ps r ≡ Some o) × (o.left ≡ a) × (lets f o.places b ≡ true))
        → (r : ℕ) × (o : Rule) × (nth (p ∷ ps) r ≡ Some o) × (o.left ≡ a) × (lets f o.places b ≡ true)
    go (inl k) ih = let (x, y) = and_parts (eqb p.left a) (lets f p.places b) k in (0, p, refl, (Decides-eqb p.left a).0 x, y)
    go (inr k) ih = let (r, o, h, l, m) = ih k in (suc r, o, h, l, m)

stepped_from : (f : ℕ → Bool) (ps : List Rule) (a b : ℕ) (r : ℕ) (p : Rule) → nth ps r ≡ Some p → p.left ≡ a → lets f p.places b ≡ true → stepped f ps a b ≡ true
stepped_from f [] a b r p h l m = let z : ◌≡◌ {A = ℕ} 0 1 = cc in absurd (omega arith)
stepped_from f (o ∷ ps) a b zero p h l m =
    let w : o ≡ p = cc in
    let u : eqb o.left a ≡ true = (Decides-eqb o.left a).1 (cc) in
    let v : lets f o.places b ≡ true = cc in
    rw (u, v)
stepped_from f (o ∷ ps) a b (suc r) p h l m = or_right (eqb o.left a && lets f o.places b) (stepped f ps a b) (stepped_from f ps a b r p h l m)

pub steps_decides : (g : Grammar) (a b : ℕ) → Decides (steps g a b) (Steps g a b)
steps_decides g a b = (
  (λ e. let (r, p, h, l, m) = stepped_at (nullable g) g.rules a b e in
      let (k, q, i, s, o) = lets_at (nullable g) p.places b m in
      record { at = r; of = p; is = h; left = l; place = k; what = q; there = i; symbol = s; others = λ j q' u n. (nullable_decides g q'.symbol).0 (o j q' u n) }),
  λ s. stepped_from (nullable g) g.rules a b s.at s.of s.is s.left
      (lets_from (nullable g) s.of.places b s.place s.what s.there s.symbol (λ j q u n. (nullable_decides g q.symbol).1 (s.others j q u n))),
)

symbols_has : (ps : List Place) (k : ℕ) (q : Place) (b : ℕ) → nth ps k ≡ Some q → q.symbol ≡ b → b ∈ symbols ps
symbols_has [] k q b h e = let z : ◌≡◌ {A = ℕ} 0 1 = cc in absurd (omega arith)
symbols_has (p ∷ ps) zero q b h e = Memᴰ.head (cc)
symbols_has (p ∷ ps) (suc k) q b h e = Memᴰ.tail (symbols_has ps k q b h e)

rights_has : (ps : List Rule) (r : ℕ) (p : Rule) (b : ℕ) → nth ps r ≡ Some p → b ∈ symbols p.places → b ∈ rights ps
rights_has [] r p b h m = let z : ◌≡◌ {A = ℕ} 0 1 = cc in absurd (omega arith)
rights_has (o ∷ ps) zero p b h m = let w : p ≡ o = cc in Memᴰ.append_left (rights ps) (subst (λ (x : Rule). b ∈ symbols x.places) w m)
rights_has (o ∷ ps) (suc r) p b h m = Memᴰ.append_right (symbols o.places) (rights_has ps r p b h m)

pub step_right : {g : Grammar} {a b : ℕ} → Steps g a b → b ∈ rights g.rules
step_right {g} {b = b} s = rights_has g.rules s.at s.of b s.is (symbols_has s.of.places s.place s.what b s.there s.symbol)

pub step_left : {g : Grammar} {a b : ℕ} → Steps g a b → a ∈ lefts g.rules
step_left {g} {a = a} s = lefts_has g.rules s.at a s.of s.is s.left
