-- Tables that hold the items and the links of a chart.
use Rattle.std.specs.Prelude.{◌≡◌, ℕ, ◌-◌, ◌<◌, ◌≤◌, List, map, length, take, drop, replicate}
use Rattle.tokens.specs.declared.token.Token.{Token}
use Rattle.lists.specs.Members.{◌∈◌, Distinct}
use Rattle.lists.specs.Exactly.{Exactly}
use Rattle.grammar.specs.Grammar.{Grammar}
use Rattle.charts.specs.Chart.{InChart}
use Rattle.charts.specs.Links.{InForest}
use Rattle.table.specs.declared.row.ItemRow.{ItemRow}
use Rattle.table.specs.declared.row.LinkRow.{LinkRow}
use Rattle.table.specs.Rows.{no_item, no_link, item_of, link_of}
use Rattle.table.specs.Order.{Rising}

-- the first n rows are the items of the chart of the tokens, each once, by rising end, and every row behind is unused
pub record ItemTable (g : Grammar) (ts : List Token) (xs : List ItemRow) (n : ℕ) : Type 0 where
  pub room : n ≤ length xs
  pub exact : Exactly (InChart g ts) (map item_of (take n xs))
  pub rising : Rising (λ x. x.end) (take n xs)
  pub unused : drop n xs ≡ replicate (length xs - n) no_item

-- the numbers of a link row are numbers of the first n item rows
pub record Numbered (n : ℕ) (l : LinkRow) : Type 0 where
  pub item : l.item < n
  pub earlier : l.earlier < n
  pub child : l.child ≤ n

-- the first p rows are the links of the chart of the tokens, whose items are the first n of xs: each once, by rising
-- number of the item's row, and so by rising end; and every row behind is unused
pub record LinkTable (g : Grammar) (ts : List Token) (xs : List ItemRow) (n : ℕ) (ks : List LinkRow) (p : ℕ) : Type 0 where
  pub room : p ≤ length ks
  pub numbered : (l : LinkRow) → l ∈ take p ks → Numbered n l
  pub exact : Exactly (InForest g ts) (map (link_of xs) (take p ks))
  pub rising : Rising (λ l. l.item) (take p ks)
  pub unused : drop p ks ≡ replicate (length ks - p) no_link

-- more than n elements have P
pub record More {A : Type 0} (n : ℕ) (P : A → Type 0) : Type 0 where
  pub some : List A
  pub many : n < length some
  pub distinct : Distinct some
  pub only : (x : A) → x ∈ some → P x
