-- The links between the items of a chart, which with the items are the packed forest, and the lists of an item.
use Rattle.std.specs.Prelude.{◌≡◌, ℕ, suc, List, ◌∷◌, ◌++◌, Some}
use Rattle.indent.specs.declared.summary.Summary.{Summary}
use Rattle.indent.specs.declared.summary.Summary.TheVariants.{Exact}
use Rattle.indent.specs.Summaries.{passed}
use Rattle.tokens.specs.declared.token.Token.{Token}
use Rattle.lists.specs.Entries.{nth}
use Rattle.grammar.specs.Grammar.{Grammar, Rule, Place}
use Rattle.readings.specs.Reading.{Trees}
use Rattle.charts.specs.Chart.{Item, Awaits, Finished, advanced, InChart}

-- what an item's dot passed last: a token, or a finished item
pub data Child : Type 0 where
  leaf : Child
  sub : Item → Child

-- a link: an item, the item one dot earlier, and the child that it was made with
pub record Link : Type 0 where
  pub item : Item
  pub before : Item
  pub child : Child

-- the chart makes the first item from the second and the child
pub data Linked (g : Grammar) (ts : List Token) : Item → Item → Child → Type 0 where
  scanned : {y : Item} {σ : Summary} (q : Place) → InChart g ts y → Awaits g y q → (t : Token) → nth ts y.to ≡ Some t → t.kind ≡ q.symbol → passed y.summary q.relation (Exact t.column) ≡ Some σ → Linked g ts (advanced y (suc y.to) σ) y leaf
  completed : {y z : Item} {σ : Summary} (q : Place) → InChart g ts y → Awaits g y q → InChart g ts z → Finished g z q.symbol → z.from ≡ y.to → passed y.summary q.relation z.summary ≡ Some σ → Linked g ts (advanced y z.to σ) y (sub z)

-- the links of the chart
abbrev pub InForest : Grammar → List Token → Link → Type 0
InForest g ts l = Linked g ts l.item l.before l.child

-- where a link leads from its item
pub record Way : Type 0 where
  pub before : Item
  pub child : Child

-- the ways that the links of x lead
abbrev pub Into : Grammar → List Token → Item → Way → Type 0
Into g ts x w = Linked g ts x w.before w.child

-- xs is the list of trees for the places of x's rule before the dot, over the tokens of x
pub record Derives (g : Grammar) (ts : List Token) (x : Item) (xs : List ℕ) : Type 0 where
  pub of : Rule
  pub is : nth g.rules x.rule ≡ Some of
  pub trees : Trees g ts of.places x.dot x.from x.to x.summary xs

-- the lists that an item and a child give, one behind the other, with the child's rule between
pub data Gives (g : Grammar) (ts : List Token) : Item → Child → List ℕ → Type 0 where
  past : {y : Item} {xs : List ℕ} → Derives g ts y xs → Gives g ts y leaf xs
  join : {y z : Item} {us vs xs : List ℕ} → Derives g ts y us → Derives g ts z vs → xs ≡ us ++ (z.rule ∷ vs) → Gives g ts y (sub z) xs

-- xs is a list that a link of x gives
pub record Through (g : Grammar) (ts : List Token) (x : Item) (xs : List ℕ) : Type 0 where
  pub way : Way
  pub link : Linked g ts x way.before way.child
  pub gives : Gives g ts way.before way.child xs

-- the lists of the trees that a finished item stands for: its rule, and then what it derives
abbrev pub Written : Grammar → List Token → Item → List ℕ → Type 0
Written g ts z xs = (vs : List ℕ) × Derives g ts z vs × (xs ≡ z.rule ∷ vs)

-- a list shows where the part of an item with a given rule, dot and start ends
abbrev pub Unique : Grammar → List Token → Type 0
Unique g ts = (y y' : Item) (us us' vs vs' : List ℕ) → Derives g ts y us → Derives g ts y' us' → y.rule ≡ y'.rule → y.dot ≡ y'.dot → y.from ≡ y'.from → us ++ vs ≡ us' ++ vs' → (y ≡ y') × (us ≡ us')

-- x is made from y, by a link
pub data Uses (g : Grammar) (ts : List Token) : Item → Item → Type 0 where
  back : {x y : Item} {c : Child} → Linked g ts x y c → Uses g ts x y
  down : {x y z : Item} → Linked g ts x y (sub z) → Uses g ts x z

-- x is made from y, by one link or more
pub data Reaches (g : Grammar) (ts : List Token) : Item → Item → Type 0 where
  one : {x y : Item} → Uses g ts x y → Reaches g ts x y
  more : {x y z : Item} → Uses g ts x y → Reaches g ts y z → Reaches g ts x z
