-- The rounds find the nullable symbols, and so does any set of nullable symbols to which no rule adds one.
use Rattle.std.proofs.Common.{◌≡◌, ℕ, zero, suc, Bool, true, ◌&&◌, eqb, ◌⊎◌, List, [], ◌∷◌, length, Some, Decides, refl, ap, subst, inl, inr, arith}
use mathlib.Core.List.Memᴰ
use Rattle.std.proofs.lemmas.Bool.{and_parts, or_cases, or_right}
use Rattle.std.proofs.lemmas.Bool.Decides.{Decides-eqb}
use Rattle.lists.specs.Entries.{nth}
use Rattle.lists.specs.Members.{◌∈◌}
use Rattle.lists.specs.Tallies.{Under}
use Rattle.grammar.specs.Grammar.{Grammar, Rule, Place}
use Rattle.grammar.specs.Steps.{Nullable, empty}
use Rattle.grammar.specs.Rounds.{turns}
use Rattle.grammar.specs.Nulling.{every, some_rule, nulled, nullable, Settled, lefts}
use Rattle.grammar.proofs.Rounds.{turns_settled}

pub every_at : (f : ℕ → Bool) (ps : List Place) → every f ps ≡ true → (j : ℕ) (q : Place) → nth ps j ≡ Some q → f q.symbol ≡ true
every_at f [] e j q h = let z : ◌≡◌ {A = ℕ} 0 1 = cc in absurd (omega arith)
every_at f (p ∷ ps) e zero q h = let w : p ≡ q = cc in let b = (and_parts (f p.symbol) (every f ps) e).0 in cc
every_at f (p ∷ ps) e (suc j) q h = every_at f ps (and_parts (f p.symbol) (every f ps) e).1 j q h

pub every_from : (f : ℕ → Bool) (ps : List Place) → ((j : ℕ) (q : Place) → nth ps j ≡ Some q → f q.symbol ≡ true) → every f ps ≡ true
every_from f [] k = refl
every_from f (p ∷ ps) k = rw (k 0 p refl) (every_from f ps (λ j q h. k (suc j) q h))

pub some_at : (f : ℕ → Bool) (ps : List Rule) (a : ℕ) → some_rule f ps a ≡ true → (r : ℕ) × (p : Rule) × (nth ps r ≡ Some p) × (p.left ≡ a) × (every f p.places ≡ true)
some_at f [] a e = let z : ◌≡◌ {A = ℕ} 0 1 = cc in absurd (omega arith)
some_at f (p ∷ ps) a e = go (or_cases (eqb p.left a && every f p.places) (some_rule f ps a) e) (λ k. some_at f ps a k)
  where
    go : ((eqb p.left a && every f p.places) ≡ true) ⊎ (some_rule f ps a ≡ true)
        → (some_rule f ps a ≡ true → (r : ℕ) × (o : Rule) × (nth ps r ≡ Some o) × (o.left ≡ a) × (every f o.places ≡ true))
        → (r : ℕ) × (o : Rule) × (nth (p ∷ ps) r ≡ Some o) × (o.left ≡ a) × (every f o.places ≡ true)
    go (inl k) ih = let b = and_parts (eqb p.left a) (every f p.places) k in (0, p, refl, (Decides-eqb p.left a).0 b.0, b.1)
    go (inr k) ih = let (r, o, h, l, m) = ih k in (suc r, o, h, l, m)

pub some_from : (f : ℕ → Bool) (ps : List Rule) (a : ℕ) (r : ℕ) (p : Rule) → nth ps r ≡ Some p → p.left ≡ a → every f p.places ≡ true → some_rule f ps a ≡ true
some_from f [] a r p h l m = let z : ◌≡◌ {A = ℕ} 0 1 = cc in absurd (omega arith)
some_from f (o ∷ ps) a zero p h l m =
    let w : o ≡ p = cc in
    let u : eqb o.left a ≡ true = (Decides-eqb o.left a).1 (cc) in
    let v : every f o.places ≡ true = cc in
    rw (u, v)
some_from f (o ∷ ps) a (suc r) p h l m = or_right (eqb o.left a && every f o.places) (some_rule f ps a) (some_from f ps a r p h l m)

-- a set of symbols that no rule adds to has every nullable symbol
pub settled_holds : {g : Grammar} (f : ℕ → Bool) → Settled g f → {a : ℕ} → Nullable g a → f a ≡ true
settled_holds f s (empty r p h k) = s r p h (every_from f p.places (λ j q l. settled_holds f s (k j q l)))

-- so any such set of nullable symbols decides: what a loop that runs until nothing changes can cite
pub settled_decides : (g : Grammar) (f : ℕ → Bool) → Settled g f → ((a : ℕ) → f a ≡ true → Nullable g a) → (a : ℕ) → Decides (f a) (Nullable g a)
settled_decides g f s k a = (λ e. k a e, λ n. settled_holds f s n)

-- to mark one more symbol, when a rule of it has marked symbols alone, keeps to nullable symbols: the step of such a loop
pub mark_sound : (g : Grammar) (f : ℕ → Bool) → ((a : ℕ) → f a ≡ true → Nullable g a) → (r : ℕ) (p : Rule) → nth g.rules r ≡ Some p → every f p.places ≡ true → Nullable g p.left
mark_sound g f k r p h m = empty r p h (λ j q u. k q.symbol (every_at f p.places m j q u))

-- one round keeps to nullable symbols
pub round_sound : (g : Grammar) (f : ℕ → Bool) → ((a : ℕ) → f a ≡ true → Nullable g a) → (a : ℕ) → some_rule f g.rules a ≡ true → Nullable g a
round_sound g f k a e = let (r, p, h, l, m) = some_at f g.rules a e in subst (λ (s : ℕ). Nullable g s) l (mark_sound g f k r p h m)

turns_sound : (g : Grammar) (n a : ℕ) → turns (nulled g) n a ≡ true → Nullable g a
turns_sound g zero a e = let z : ◌≡◌ {A = ℕ} 0 1 = cc in absurd (omega arith)
turns_sound g (suc n) a e = round_sound g (turns (nulled g) n) (turns_sound g n) a e

pub nulled_under : (g : Grammar) (f h : ℕ → Bool) → Under f h → Under (nulled g f) (nulled g h)
nulled_under g f h u a e = let (r, p, i, l, m) = some_at f g.rules a e in some_from h g.rules a r p i l (every_from h p.places (λ j q k. u q.symbol (every_at f p.places m j q k)))

pub lefts_length : (ps : List Rule) → length (lefts ps) ≡ length ps
lefts_length [] = refl
lefts_length (p ∷ ps) = ap suc (lefts_length ps)

pub lefts_has : (ps : List Rule) (r a : ℕ) (p : Rule) → nth ps r ≡ Some p → p.left ≡ a → a ∈ lefts ps
lefts_has [] r a p h e = let z : ◌≡◌ {A = ℕ} 0 1 = cc in absurd (omega arith)
lefts_has (o ∷ ps) zero a p h e = Memᴰ.head (cc)
lefts_has (o ∷ ps) (suc r) a p h e = Memᴰ.tail (lefts_has ps r a p h e)

pub nullable_settled : (g : Grammar) → Settled g (nullable g)
nullable_settled g r p h e = turns_settled (nulled g) (nulled_under g) (lefts g.rules)
    (λ f a k. let (r, p, i, l, m) = some_at f g.rules a k in lefts_has g.rules r a p i l)
    (length g.rules) (omega (arith, lefts_length g.rules)) p.left (some_from (nullable g) g.rules p.left r p h refl e)

pub nullable_decides : (g : Grammar) (a : ℕ) → Decides (nullable g a) (Nullable g a)
nullable_decides g = settled_decides g (nullable g) (nullable_settled g) (turns_sound g (length g.rules))
