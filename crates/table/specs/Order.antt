-- Rows that stand by a rising key.
use Rattle.std.specs.Prelude.{◌≡◌, ℕ, ◌<◌, ◌≤◌, List, [], ◌∷◌, ◌++◌, take, drop, slice_index_or}
use Rattle.std.specs.List.Sorted.{IsPermutation}
use Rattle.lists.specs.Members.{◌∈◌}
use Rattle.table.specs.declared.row.LinkRow.{LinkRow}

-- the rows from low up to high are some of n
abbrev pub IsPart : ℕ → ℕ → ℕ → Type 0
IsPart low high n = (low ≤ high) × (high ≤ n)

-- no element has a lower key than one before it
abbrev pub Rising : {A : Type 0} → (A → ℕ) → List A → Type 0
Rising key [] = Unit {0}
Rising {A} key (x ∷ xs) = ((y : A) → y ∈ xs → key x ≤ key y) × Rising key xs

-- the same of the first n elements, by number
abbrev pub Sorted : {A : Type 0} → (A → ℕ) → List A → ℕ → Type 0
Sorted {A} key xs n = (j k : ℕ) (d : A) → j ≤ k → k < n → key (slice_index_or xs j d) ≤ key (slice_index_or xs k d)

-- where the first n rows are sorted, those from a below lo have a key below e, and those from hi on have none below it
pub record Narrowed {A : Type 0} (key : A → ℕ) (xs : List A) (a n e lo hi : ℕ) : Type 0 where
  pub low : a ≤ lo
  pub order : lo ≤ hi
  pub high : hi ≤ n
  pub below : Sorted key xs n → (k : ℕ) (d : A) → a ≤ k → k < lo → key (slice_index_or xs k d) < e
  pub above : Sorted key xs n → (k : ℕ) (d : A) → hi ≤ k → k < n → e ≤ key (slice_index_or xs k d)

-- ys is xs with the rows from n up to m in rising order of their items' rows
pub record Sorts (xs ys : List LinkRow) (n m : ℕ) : Type 0 where
  pub part : List LinkRow
  pub front : take m ys ≡ take n xs ++ part
  pub rest : drop m ys ≡ drop m xs
  pub same : IsPermutation (drop n (take m xs)) part
  pub rising : Rising (λ l. l.item) part
