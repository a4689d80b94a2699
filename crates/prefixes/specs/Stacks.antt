-- Stacks kept as rows that share what stands outwards of them.
use Rattle.std.specs.Prelude.{◌≡◌, ℕ, suc, ◌≤◌, List, [], ◌∷◌, Some}
use Rattle.lists.specs.Entries.{nth}
use Rattle.charts.specs.Chart.{Item}

-- a row for each rule of a prefix but the first: the item in which the rule was opened, and the number of the stack
-- outwards of that item
pub record Row : Type 0 where
  pub item : Item
  pub outer : ℕ

-- the stack with number n: 0 is empty, and the row i makes the one with number suc i
pub data Chain (rows : List Row) : ℕ → List Item → Type 0 where
  root : Chain rows 0 []
  up : {i : ℕ} {us : List Item} (w : Row) → nth rows i ≡ Some w → w.outer ≤ i → Chain rows w.outer us → Chain rows (suc i) (w.item ∷ us)
