-- What is proved of charts, as statements that contracts name.
use Rattle.std.specs.Prelude.{◌≡◌, ℕ, suc, ◌<◌, ◌≤◌, Bool, ◌↔◌, List, [], ◌∷◌, ◌++◌, length, take, Some}
use Rattle.tokens.specs.declared.token.Token.{Token}
use Rattle.lists.specs.Entries.{nth}
use Rattle.lists.specs.Members.{◌∈◌, Distinct}
use Rattle.lists.specs.Exactly.{Exactly}
use Rattle.grammar.specs.Grammar.{Grammar}
use Rattle.readings.specs.Reading.{Reading, Separate, Headed}
use Rattle.charts.specs.Chart.{Item, InChart, fresh, Root}
use Rattle.charts.specs.Links.{Child, Linked, Derives, Through, Written, Unique, Uses, Reaches}
use Rattle.charts.specs.Rows.{Closed, Rows}
use Rattle.charts.specs.Turns.{Agenda, Turn, Fed, First}
use Rattle.charts.specs.Room.{room, Columns, Places}
use Rattle.charts.specs.Key.{Ranks, key, Less, number}

-- every item of the chart derives a list
abbrev pub Sound : Type 0
Sound = (g : Grammar) (ts : List Token) (x : Item) → InChart g ts x → (xs : List ℕ) × Derives g ts x xs

-- an item that derives a list is in the chart, where the chart has its rule at its start
abbrev pub Complete : Type 0
Complete = (g : Grammar) (ts : List Token) (x : Item) (xs : List ℕ) → InChart g ts (fresh x.rule x.from) → Derives g ts x xs → InChart g ts x

-- the readings are the lists of the finished items of the start symbol over all tokens
abbrev pub Recognized : Type 0
Recognized = (g : Grammar) (ts : List Token) → Separate g ts → Headed g → (xs : List ℕ) → Reading g ts xs ↔ ((z : Item) × Root g ts (length ts) z × Written g ts z xs)

-- the lists of an item whose dot has passed a place are those that its links give
abbrev pub Decomposed : Type 0
Decomposed = (g : Grammar) (ts : List Token) (x : Item) (xs : List ℕ) → InChart g ts x → 0 < x.dot → Derives g ts x xs ↔ Through g ts x xs

-- a list shows where the part of an item with a given rule, dot and start ends
abbrev pub Unambiguous : Type 0
Unambiguous = (g : Grammar) (ts : List Token) → Separate g ts → Unique g ts

-- the items of the chart of the first k tokens are the items that end at k or before, and so are the links
pub record Stable : Type 0 where
  pub items : (g : Grammar) (ts : List Token) (k : ℕ) (x : Item) → InChart g (take k ts) x ↔ (InChart g ts x × (x.to ≤ k))
  pub links : (g : Grammar) (ts : List Token) (k : ℕ) (x y : Item) (c : Child) → Linked g (take k ts) x y c ↔ (Linked g ts x y c × (x.to ≤ k))

-- rows of items that hold all that they make, and nothing but items of the chart, are the chart
abbrev pub Charted : Type 0
Charted = (g : Grammar) (ts : List Token) (R : List Item) → Closed g ts R → ((x : Item) → x ∈ R → InChart g ts x) → Rows g ts R

-- a turn keeps the agenda; when every item has had its turn the rows are the chart, at first and with each token
pub record Turned : Type 0 where
  pub turn : (g : Grammar) (us : List Token) (e : ℕ) (R N M : List Item) (k : ℕ) (z : Item) → nth N k ≡ Some z → Agenda g us e R N k → Turn g us e R N k z M → Agenda g us e R (N ++ M) (suc k)
  pub first : (g : Grammar) (N : List Item) → First g N → Rows g [] N
  pub fed : (g : Grammar) (ts : List Token) (t : Token) (R N : List Item) → Rows g ts R → Fed g ts t R N → Rows g (ts ++ t ∷ []) (R ++ N)

-- a chart of tokens with columns below c, by rules of fewer than n places, has no more items than this room
abbrev pub Finite : Type 0
Finite = (g : Grammar) (ts : List Token) (n c : ℕ) → Places n g → Columns c ts → (R : List Item) → Distinct R → ((x : Item) → x ∈ R → InChart g ts x) → length R ≤ room (length g.rules) n (suc (length ts)) c (suc (length ts))

-- the key falls along every link, and so does its number where ranks are below m and rules have fewer than n places
pub record Falling : Type 0 where
  pub keys : (g : Grammar) (null : ℕ → Bool) (rank : ℕ → ℕ) → Ranks g null rank → (ts : List Token) (x y : Item) → Uses g ts x y → Less (key g null rank y) (key g null rank x)
  pub numbers : (g : Grammar) (null : ℕ → Bool) (rank : ℕ → ℕ) → Ranks g null rank → (m n : ℕ) → ((a : ℕ) → rank a < m) → Places n g → (ts : List Token) (x y : Item) → Uses g ts x y → number m n (key g null rank y) < number m n (key g null rank x)

-- where an item is made from itself, no list has all that the items made from it derive
abbrev pub Endless : Type 0
Endless = (g : Grammar) (ts : List Token) (x z : Item) (R : List (List ℕ)) → Reaches g ts z x → Reaches g ts x x → Exactly (Derives g ts z) R → ⊥
