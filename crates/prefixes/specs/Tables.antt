-- The sums over what completes a stack, as tables that are filled level by level, innermost first.
use Rattle.std.specs.Prelude.{◌≡◌, ℕ, suc, ◌<◌, List, [], ◌∷◌}
use Rattle.tokens.specs.declared.token.Token.{Token}
use Rattle.grammar.specs.Grammar.{Grammar}
use Rattle.charts.specs.Chart.{Item, InChart}
use Rattle.charts.specs.Links.{Way}
use Rattle.semiring.specs.Laws.{Ops}
use Rattle.semiring.specs.Values.{total}
use Rattle.sums.specs.Sums.{joined}

-- w has the rule and start of y, and a higher dot
pub record Later (y w : Item) : Type 0 where
  pub rule : w.rule ≡ y.rule
  pub from : w.from ≡ y.from
  pub dot : y.dot < w.dot

-- the innermost table: the values of the items of the rule r from s, and none elsewhere
pub record Innermost {V : Type 0} (k : Ops V) (g : Grammar) (ts : List Token) (r s : ℕ) (v table : Item → V) : Type 0 where
  pub here : (z : Item) → InChart g ts z → z.rule ≡ r → z.from ≡ s → table z ≡ v z
  pub none : (z : Item) → InChart g ts z → ((z.rule ≡ r) × (z.from ≡ s) → ⊥) → table z ≡ k.none

-- the next table outwards, at the open item y: `hand` is the table of the level inwards, `ups y w` lists the finished
-- items with which y is made into w, `links` the ways of an item, and v has the values of the items
pub record Outwards {V : Type 0} (k : Ops V) (cost : ℕ → ℕ) (g : Grammar) (ts : List Token) (links : Item → List Way) (ups : Item → Item → List Item) (v : Item → V) (y : Item) (hand table : Item → V) : Type 0 where
  pub handed : (w : Item) → InChart g ts w → Later y w → w.dot ≡ suc y.dot → table w ≡ total k hand (ups y w)
  pub further : (w : Item) → InChart g ts w → Later y w → suc y.dot < w.dot → table w ≡ total k (λ (a : Way). joined k cost v (table a.before) a.child) (links w)
  pub none : (w : Item) → InChart g ts w → (Later y w → ⊥) → table w ≡ k.none

-- the tables of a stack from the innermost outwards, the last of which is `table`
abbrev pub Tables : {V : Type 0} → Ops V → (ℕ → ℕ) → Grammar → List Token → (Item → List Way) → (Item → Item → List Item) → (Item → V) → (Item → V) → List Item → (Item → V) → Type 0
Tables k cost g ts links ups v hand [] table = (z : Item) → InChart g ts z → table z ≡ hand z
Tables {V} k cost g ts links ups v hand (y ∷ us) table = (next : Item → V) × Outwards k cost g ts links ups v y hand next × Tables k cost g ts links ups v next us table
