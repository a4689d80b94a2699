-- A list of rules shows the part of an item that it is written for, and so the link that gives it, where no token is
-- of a symbol that has rules.
use Rattle.std.proofs.Common.{◌≡◌, ℕ, List, [], ◌∷◌, ◌++◌, sym, refl, ap, ◌∙◌, append-nil, arith}
use mathlib.Core.List.{append_cancel_left}
use Rattle.tokens.specs.declared.token.Token.{Token}
use Rattle.grammar.specs.Grammar.{Grammar}
use Rattle.readings.specs.Reading.{Trees, Separate}
use Rattle.readings.proofs.Unique.{unique_row}
use Rattle.charts.specs.Chart.{Item}
use Rattle.charts.specs.Links.{Derives, Child, sub, Linked, Gives, past, join, Unique}
use Rattle.charts.proofs.Links.{shape, passes, one_dot}

pub readable : (g : Grammar) (ts : List Token) → Separate g ts → Unique g ts
readable g ts separate y y' us us' vs vs' d d' er ed ef h =
    let ep : d'.of.places ≡ d.of.places = cc (d.is, d'.is, er) in
    let t : Trees g ts d.of.places y.dot y.from y'.to y'.summary us' = rw (ep, ← ed, ← ef) at d'.trees in
    let (lists, ends, summaries, rests) = unique_row separate vs vs' d.trees t h in
    (λ i. record { rule = er i; dot = ed i; from = ef i; to = ends i; summary = summaries i }, lists)

-- a list that a token's link gives cannot end in a rule as well
no_rest : {us xs : List ℕ} (r : ℕ) (vs : List ℕ) → xs ≡ us → xs ≡ us ++ (r ∷ vs) → ⊥
no_rest {us} r vs p q =
    let e = append_cancel_left us [] (r ∷ vs) (append-nil us ∙ sym p ∙ q) in
    let z : ◌≡◌ {A = ℕ} 0 1 = cc in
    omega arith

module _ {g : Grammar} {ts : List Token} (unique : Unique g ts) where
  firsts : {x y y' : Item} {c c' : Child} {us us' : List ℕ} → Linked g ts x y c → Linked g ts x y' c' → Derives g ts y us → Derives g ts y' us' → (vs vs' : List ℕ) → us ++ vs ≡ us' ++ vs' → (y ≡ y') × (us ≡ us')
  firsts {x} {y} {y'} {us} {us'} l l' d d' vs vs' e =
      let a = shape l in
      let b = shape l' in
      unique y y' us us' vs vs' d d' (cc) (omega arith) (cc) e

  -- a list shows the link that gives it
  pub same_way : {x y y' : Item} {c c' : Child} {xs : List ℕ} → Linked g ts x y c → Linked g ts x y' c' → Gives g ts y c xs → Gives g ts y' c' xs → (y ≡ y') × (c ≡ c')
  same_way l l' (past d) (past d') = ((firsts l l' d d' [] [] refl).0, refl)
  same_way {xs} l l' (past d) (join {z} {vs} d' b' e') = absurd (no_rest z.rule vs (firsts l l' d d' [] (z.rule ∷ vs) (append-nil xs ∙ e')).1 e')
  same_way {xs} l l' (join {z} {vs} d b e) (past d') = absurd (no_rest z.rule vs (firsts l' l d' d [] (z.rule ∷ vs) (append-nil xs ∙ e)).1 e)
  same_way {y} {y'} l l' (join {z} {us} {vs} d b e) (join {z = z'} {us = us'} {vs = vs'} d' b' e') =
      let (p, q) = firsts l l' d d' (z.rule ∷ vs) (z'.rule ∷ vs') (sym e ∙ e') in
      let h : us ++ (z.rule ∷ vs) ≡ us ++ (z'.rule ∷ vs') = cc (e, e', q) in
      let t = append_cancel_left us (z.rule ∷ vs) (z'.rule ∷ vs') h in
      let r : z.rule ≡ z'.rule = cc in
      let v : vs ≡ vs' = cc in
      let i = passes l in
      let j = passes l' in
      (p, ap sub (unique z z' vs vs' [] [] b b' r (one_dot i.finished j.finished r) (cc) (cc)).0)
