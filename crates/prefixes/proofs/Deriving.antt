-- What follows the first rule of a list by which an open item goes on.
use Rattle.std.proofs.Common.{◌≡◌, ℕ, ◌↔◌, List, [], ◌∷◌, ◌++◌, sym, refl, ap, ◌∙◌, subst, inl, inr}
use Rattle.tokens.specs.declared.token.Token.{Token}
use Rattle.grammar.specs.Grammar.{Grammar}
use Rattle.charts.specs.Chart.{Item}
use Rattle.charts.specs.Links.{Derives, Linked, leaf, sub}
use Rattle.charts.proofs.Links.{passes}
use Rattle.prefixes.specs.Onward.{Onward, hand, past, join, Closing, Begun, Derivative}

module _ {g : Grammar} {ts : List Token} {x : Item} {H : Item → List ℕ → Type 0} (r : ℕ) where
  past_one : {w y : Item} {us : List ℕ} → Linked g ts w y leaf → Derivative g ts x H r y us → Derivative g ts x H r w us
  past_one l (inl o) = inl (past l o)
  past_one l (inr t) = inr (t.0, t.1, past l t.2)

  join_one : {w y z : Item} {us vs xs : List ℕ} → Linked g ts w y (sub z) → Derives g ts z vs → xs ≡ us ++ (z.rule ∷ vs) → Derivative g ts x H r y us → Derivative g ts x H r w xs
  join_one l d e (inl o) = inl (join l o d e)
  join_one l d e (inr t) = inr (t.0, t.1, join l t.2 d e)

  -- the first rule comes from within, or begins a child of an item that x gets to without a rule
  pub derive : {w : Item} {xs : List ℕ} → Onward g ts x H w xs → (us : List ℕ) → xs ≡ r ∷ us → Derivative g ts x H r w us
  derive (hand {z} l h) us e = inl (hand l (subst (H z) e h))
  derive (past l o) us e = past_one l (derive o us e)
  derive (join {y} {z} {us = []} {vs} l o d n) us e =
      let h : z.rule ∷ vs ≡ r ∷ us = sym n ∙ e in
      let a : z.rule ≡ r = cc in
      let b : vs ≡ us = cc in
      inr (y, o, hand l (record { symbol = (passes l).place.symbol; finished = (passes l).finished; list = record { list = subst (Derives g ts z) b d; rule = a; from = (passes l).from } }))
  derive (join {z} {us = u ∷ ws} {vs} l o d n) us e =
      let h : u ∷ (ws ++ (z.rule ∷ vs)) ≡ r ∷ us = sym n ∙ e in
      let a : u ≡ r = cc in
      let b : ws ++ (z.rule ∷ vs) ≡ us = cc in
      join_one l d (sym b) (derive o ws (ap (λ (v : ℕ). v ∷ ws) a))

  pub within : {w : Item} {us : List ℕ} → Onward g ts x (λ z us. H z (r ∷ us)) w us → Onward g ts x H w (r ∷ us)
  within (hand l h) = hand l h
  within (past l o) = past l (within o)
  within (join l o d e) = join l (within o) d (ap (λ (v : List ℕ). r ∷ v) e)

  pub begun : {y : Item} → Onward g ts x H y [] → {w : Item} {us : List ℕ} → Onward g ts y (Closing g (Begun g ts r y.to)) w us → Onward g ts x H w (r ∷ us)
  begun o (hand {z} {us} l h) = join l o h.list.list (ap (λ (v : ℕ). v ∷ us) (sym h.list.rule))
  begun o (past l t) = past l (begun o t)
  begun o (join l t d e) = join l (begun o t) d (ap (λ (v : List ℕ). r ∷ v) e)

  pub derivative : (w : Item) (us : List ℕ) → Onward g ts x H w (r ∷ us) ↔ Derivative g ts x H r w us
  derivative w us = (λ o. derive o us refl, again)
    where
      again : Derivative g ts x H r w us → Onward g ts x H w (r ∷ us)
      again (inl o) = within o
      again (inr t) = begun t.1 t.2
