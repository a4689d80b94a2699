-- What is proved of sums, as statements that contracts name; those over a semiring by its operations.
use Rattle.std.specs.Prelude.{◌≡◌, ℕ, ◌<◌, ◌↔◌, List, length}
use Rattle.tokens.specs.declared.token.Token.{Token}
use Rattle.lists.specs.Members.{◌∈◌, Distinct}
use Rattle.lists.specs.Exactly.{Exactly}
use Rattle.grammar.specs.Grammar.{Grammar}
use Rattle.readings.specs.Reading.{Reading, Separate, Headed}
use Rattle.charts.specs.Chart.{Item, InChart, Root}
use Rattle.charts.specs.Links.{Link, Linked, sub, InForest, Derives, Way, Into, Uses}
use Rattle.semiring.specs.Laws.{Ops}
use Rattle.semiring.specs.Values.{value, total}
use Rattle.sums.specs.Sums.{Sums, joined, Valued}

-- the sum over a set of lists does not depend on the order in which a list holds it
abbrev pub OrderFree : {V : Type 0} → Ops V → Type 0
OrderFree k = (cost : ℕ → ℕ) (R S : List (List ℕ)) → Distinct R → Distinct S → ((xs : List ℕ) → xs ∈ R ↔ xs ∈ S) → total k (value k cost) R ≡ total k (value k cost) S

-- the lists of an item are the disjoint union over its links: its sum is the sum over them of what each gives
abbrev pub ItemSums : {V : Type 0} → Ops V → Type 0
ItemSums {V} k = (g : Grammar) (ts : List Token) (cost : ℕ → ℕ) (x : Item) (L : List Way) (v : Item → V)
    → Separate g ts
    → InChart g ts x
    → 0 < x.dot
    → Exactly (Into g ts x) L
    → ((w : Way) → Into g ts x w → Sums k cost (Derives g ts w.before) (v w.before))
    → ((y z : Item) → Linked g ts x y (sub z) → Sums k cost (Derives g ts z) (v z))
    → Sums k cost (Derives g ts x) (total k (λ (w : Way). joined k cost v (v w.before) w.child) L)

-- where some number falls along every link, values along the links exist
abbrev pub ValuesExist : {V : Type 0} → Ops V → Type 0
ValuesExist {V} k = (g : Grammar) (ts : List Token) (cost : ℕ → ℕ) (links : Item → List Way) (rank : Item → ℕ)
    → ((x : Item) → InChart g ts x → Exactly (Into g ts x) (links x))
    → ((x y : Item) → Uses g ts x y → rank y < rank x)
    → (v : Item → V) × Valued k cost g ts (InChart g ts) links v

-- and they are the sums over the lists of their items, so that there are no others
abbrev pub ValuesSum : {V : Type 0} → Ops V → Type 0
ValuesSum {V} k = (g : Grammar) (ts : List Token) (cost : ℕ → ℕ) (links : Item → List Way) (v : Item → V) (rank : Item → ℕ)
    → Separate g ts
    → Valued k cost g ts (InChart g ts) links v
    → ((x y : Item) → Uses g ts x y → rank y < rank x)
    → (x : Item)
    → InChart g ts x
    → Sums k cost (Derives g ts x) (v x)

-- a set of lists has one sum
abbrev pub OneSum : {V : Type 0} → Ops V → Type 0
OneSum {V} k = (g : Grammar) (ts : List Token) (cost : ℕ → ℕ) (x : Item) (v w : V) → Sums k cost (Derives g ts x) v → Sums k cost (Derives g ts x) w → v ≡ w

-- the sum over the readings is the sum over the roots of the weight of the rule times the value of the item
abbrev pub ReadingSums : {V : Type 0} → Ops V → Type 0
ReadingSums {V} k = (g : Grammar) (ts : List Token) (cost : ℕ → ℕ) (F : List Item) (v : Item → V)
    → Separate g ts
    → Headed g
    → Exactly (Root g ts (length ts)) F
    → ((z : Item) → Root g ts (length ts) z → Sums k cost (Derives g ts z) (v z))
    → Sums k cost (Reading g ts) (total k (λ (z : Item). k.product (k.weight z.rule (cost z.rule)) (v z)) F)

-- where some number falls along every link, the readings are finitely many
abbrev pub FiniteReadings : Type 0
FiniteReadings = (g : Grammar) (ts : List Token)
    → Separate g ts
    → Headed g
    → (rank : Item → ℕ)
    → ((x y : Item) → Uses g ts x y → rank y < rank x)
    → (R : List Item)
    → Exactly (InChart g ts) R
    → (L : List Link)
    → Exactly (InForest g ts) L
    → (lists : List (List ℕ)) × Exactly (Reading g ts) lists
