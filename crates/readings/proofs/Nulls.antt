-- The nullable symbols are those with a tree over no token.
use Rattle.std.proofs.Common.{◌≡◌, ℕ, zero, suc, ◌<◌, ◌≤◌, ◌↔◌, List, [], ◌∷◌, ◌++◌, length, Some, refl, subst, arith}
use native.Mathlib.Decide.{ℕ_discrete}
use Rattle.indent.specs.declared.relation.Relation.{Relation}
use Rattle.indent.specs.declared.relation.Relation.TheVariants.{Equal, Greater, AtLeast, Any}
use Rattle.indent.specs.declared.summary.Summary.{Summary}
use Rattle.indent.specs.declared.summary.Summary.TheVariants.{Free}
use Rattle.indent.specs.Summaries.{passed}
use Rattle.tokens.specs.declared.token.Token.{Token}
use Rattle.lists.specs.Entries.{nth}
use Rattle.lists.proofs.Entries.{nth_below, nth_there}
use Rattle.grammar.specs.Grammar.{Grammar, Place}
use Rattle.grammar.specs.Steps.{Nullable, empty}
use Rattle.readings.specs.Reading.{Tree, token, rule, Trees, start, pass}
use Rattle.readings.proofs.Spans.{span, span_row}

-- one place more that is nullable
pub one_more : {g : Grammar} (ps : List Place) {j k : ℕ} {q q' : Place} → Dec (j ≡ k) → nth ps j ≡ Some q → j < suc k → nth ps k ≡ Some q' → Nullable g q'.symbol → (j < k → Nullable g q.symbol) → Nullable g q.symbol
one_more {g} ps {q = q} {q' = q'} (yes u) l b h n f = let w : q' ≡ q = cc in subst (λ (z : Place). Nullable g z.symbol) w n
one_more ps (no u) l b h n f = f (omega arith)

-- a tree over no token is one of a nullable symbol
mutual
  pub empty_tree : {g : Grammar} {ts : List Token} {a s e : ℕ} {σ : Summary} {xs : List ℕ} → Tree g ts a s e σ xs → s ≡ e → Nullable g a
  empty_tree (token t h) k = absurd (omega arith)
  empty_tree (rule r p h d) k = empty r p h (λ j q l. empty_row d k j q l (nth_below p.places j l))

  pub empty_row : {g : Grammar} {ts : List Token} {ps : List Place} {k s e : ℕ} {σ : Summary} {xs : List ℕ} → Trees g ts ps k s e σ xs → s ≡ e → (j : ℕ) (q : Place) → nth ps j ≡ Some q → j < k → Nullable g q.symbol
  empty_row start z j q l b = absurd (omega arith)
  empty_row {ps = ps} (pass {k = k} q' h d c e) z j q l b = one_more ps (ℕ_discrete j k) l b h (empty_tree c (omega (arith, span c, span_row d))) (λ u. empty_row d (omega (arith, span c, span_row d)) j q l u)

passed_free : (r : Relation) → passed Free r Free ≡ Some Free
passed_free Equal = refl
passed_free Greater = refl
passed_free AtLeast = refl
passed_free Any = refl

empty_places : {g : Grammar} {ts : List Token} (s : ℕ) (ps : List Place) → ((j : ℕ) (q : Place) → nth ps j ≡ Some q → (xs : List ℕ) × Tree g ts q.symbol s s Free xs) → (k : ℕ) → k ≤ length ps → (xs : List ℕ) × Trees g ts ps k s s Free xs
empty_places s ps f zero b = ([], start)
empty_places s ps f (suc k) b =
    let (xs, d) = empty_places s ps f k (omega arith) in
    let (q, h) = nth_there ps k (omega arith) in
    let (ys, c) = f k q h in
    (xs ++ ys, pass q h d c (passed_free q.relation))

-- a nullable symbol has a tree over no token, at every position
pub nullable_tree : {g : Grammar} {a : ℕ} → Nullable g a → (ts : List Token) (s : ℕ) → (xs : List ℕ) × Tree g ts a s s Free xs
nullable_tree (empty r p h f) ts s =
    let (xs, d) = empty_places s p.places (λ j q e. nullable_tree (f j q e) ts s) (length p.places) (omega arith) in
    (r ∷ xs, rule r p h d)

pub nullable_spec : (g : Grammar) (ts : List Token) (a s : ℕ) → Nullable g a ↔ ((σ : Summary) × (xs : List ℕ) × Tree g ts a s s σ xs)
nullable_spec g ts a s = ((λ n. let (xs, d) = nullable_tree n ts s in (Free, xs, d)), λ t. empty_tree t.2 refl)
