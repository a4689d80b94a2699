-- Sums over sets of lists in a semiring, and the values of items computed along links.
use Rattle.std.specs.Prelude.{◌≡◌, ℕ, ◌<◌, List, Some, None, Option}
use Rattle.tokens.specs.declared.token.Token.{Token}
use Rattle.lists.specs.Entries.{nth}
use Rattle.lists.specs.Exactly.{Exactly}
use Rattle.grammar.specs.Grammar.{Grammar, Rule}
use Rattle.charts.specs.Chart.{Item, InChart}
use Rattle.charts.specs.Links.{Child, leaf, sub, Way, Into, Uses}
use Rattle.semiring.specs.Laws.{Ops}
use Rattle.semiring.specs.Values.{value, total}

-- the cost of a rule that may be missing
abbrev pub cost_in : Option Rule → ℕ
cost_in None = 0
cost_in (Some p) = p.cost

-- the cost of each rule of a grammar, by its number
abbrev pub cost_of : Grammar → ℕ → ℕ
cost_of g r = cost_in (nth g.rules r)

-- the lists with P are finitely many, and their values have the sum v
pub record Sums {V : Type 0} (k : Ops V) (cost : ℕ → ℕ) (P : List ℕ → Type 0) (v : V) : Type 0 where
  pub lists : List (List ℕ)
  pub exactly : Exactly P lists
  pub is : total k (value k cost) lists ≡ v

-- v followed by the child's rule and what the child derives; a token adds nothing
abbrev pub joined : {V : Type 0} → Ops V → (ℕ → ℕ) → (Item → V) → V → Child → V
joined k cost inside v leaf = v
joined k cost inside v (sub z) = k.product v (k.product (k.weight z.rule (cost z.rule)) (inside z))

-- a set of items of the chart that has all that its items are made from, as the whole chart has
pub record Kept (g : Grammar) (ts : List Token) (K : Item → Type 0) : Type 0 where
  pub inside : (x : Item) → K x → InChart g ts x
  pub down : (x y : Item) → K x → Uses g ts x y → K y

-- the items with R, and what they are made from
pub data Under (g : Grammar) (ts : List Token) (R : Item → Type 0) : Item → Type 0 where
  at : {x : Item} → R x → Under g ts R x
  below : {x y : Item} → Under g ts R x → Uses g ts x y → Under g ts R y

-- v has at each item of K what its links, listed by `links`, add up to; unit where the dot is 0
pub record Valued {V : Type 0} (k : Ops V) (cost : ℕ → ℕ) (g : Grammar) (ts : List Token) (K : Item → Type 0) (links : Item → List Way) (v : Item → V) : Type 0 where
  pub ways : (x : Item) → K x → Exactly (Into g ts x) (links x)
  pub first : (x : Item) → K x → x.dot ≡ 0 → v x ≡ k.unit
  pub later : (x : Item) → K x → 0 < x.dot → v x ≡ total k (λ (w : Way). joined k cost v (v w.before) w.child) (links x)
