-- Tables that grow at their end.
use Rattle.std.specs.Prelude.{◌≡◌, ℕ, ◌+◌, ◌<◌, ◌≤◌, List, ◌++◌, map, length, take, drop, Some, None, Option}
use Rattle.lists.specs.Members.{◌∈◌, Distinct}
use Rattle.lists.specs.Exactly.{Exactly}
use Rattle.charts.specs.Chart.{Item}
use Rattle.table.specs.declared.row.ItemRow.{ItemRow}
use Rattle.table.specs.Rows.{item_of, row_at}

-- the items of the rows from base up to n
abbrev pub since : ℕ → ℕ → List ItemRow → List Item
since base n xs = map item_of (drop base (take n xs))

-- ys is xs with the rows more put behind the first n, up to m
pub record Grown {A : Type 0} (xs ys : List A) (n m : ℕ) (more : List A) : Type 0 where
  pub long : length ys ≡ length xs
  pub sum : n + length more ≡ m
  pub high : m ≤ length ys
  pub front : take m ys ≡ take n xs ++ more
  pub rest : drop m ys ≡ drop m xs

-- the rows more are one too many to be put behind the first n of xs, which ys has too
pub record Spilt {A : Type 0} (xs ys : List A) (n : ℕ) (more : List A) : Type 0 where
  pub long : length ys ≡ length xs
  pub over : n + length more ≡ length xs + 1
  pub old : take n ys ≡ take n xs

-- the rows put behind the first n are those that P holds of, each once
pub record Puts {A : Type 0} (P : A → Type 0) (xs ys : List A) (n m : ℕ) : Type 0 where
  pub more : List A
  pub grown : Grown xs ys n m more
  pub exact : Exactly P more

-- P holds of more rows than there is room for behind the first n
pub record Overputs {A : Type 0} (P : A → Type 0) (xs ys : List A) (n : ℕ) : Type 0 where
  pub more : List A
  pub spilt : Spilt xs ys n more
  pub distinct : Distinct more
  pub only : (x : A) → x ∈ more → P x

-- what a function did that puts rows, by the number of rows that it answers; none where there is no room
abbrev pub PutsR : {A : Type 0} → (A → Type 0) → List A → List A → ℕ → Option ℕ → Type 0
PutsR P xs ys n (Some m) = Puts P xs ys n m
PutsR P xs ys n None = Overputs P xs ys n

-- the same where H holds; the old rows are as they were in any case
pub record PutsIf {A : Type 0} (H : Type 0) (P : A → Type 0) (xs ys : List A) (n m : ℕ) : Type 0 where
  pub long : length ys ≡ length xs
  pub low : n ≤ m
  pub high : m ≤ length ys
  pub old : take n ys ≡ take n xs
  pub puts : H → Puts P xs ys n m

pub record OverputsIf {A : Type 0} (H : Type 0) (P : A → Type 0) (xs ys : List A) (n : ℕ) : Type 0 where
  pub long : length ys ≡ length xs
  pub old : take n ys ≡ take n xs
  pub over : H → Overputs P xs ys n

abbrev pub PutsIfR : {A : Type 0} → Type 0 → (A → Type 0) → List A → List A → ℕ → Option ℕ → Type 0
PutsIfR H P xs ys n (Some m) = PutsIf H P xs ys n m
PutsIfR H P xs ys n None = OverputsIf H P xs ys n

-- the item of the row, if there is one
abbrev pub Is : Option ItemRow → Item → Type 0
Is None z = ⊥
Is (Some row) z = z ≡ item_of row

-- the row, if there is one, means the only item with P
abbrev pub OnlyR : (Item → Type 0) → Option ItemRow → Type 0
OnlyR P None = (z : Item) → P z → ⊥
OnlyR P (Some row) = P (item_of row) × ((z : Item) → P z → z ≡ item_of row)

-- the number of a row from low up to high that is the one wanted; none where its item does not stand there
abbrev pub Finds : List ItemRow → ℕ → ℕ → ItemRow → Option ℕ → Type 0
Finds xs low high row (Some k) = (low ≤ k) × (k < high) × (row_at xs k ≡ row)
Finds xs low high row None = item_of row ∈ since low high xs → ⊥

-- the items put behind the first n rows have P; every item with P stands in a row from base on, and none is there twice
pub record Adds (base : ℕ) (P : Item → Type 0) (xs ys : List ItemRow) (n m : ℕ) : Type 0 where
  pub more : List ItemRow
  pub low : base ≤ n
  pub grown : Grown xs ys n m more
  pub only : (x : Item) → x ∈ map item_of more → P x
  pub all : (x : Item) → P x → x ∈ (since base n xs ++ map item_of more)
  pub once : Distinct (since base n xs) → Distinct (since base n xs ++ map item_of more)

-- more items have P than there is room for
pub record Overfull (base : ℕ) (P : Item → Type 0) (xs ys : List ItemRow) (n : ℕ) : Type 0 where
  pub more : List ItemRow
  pub low : base ≤ n
  pub spilt : Spilt xs ys n more
  pub only : (x : Item) → x ∈ map item_of more → P x
  pub once : Distinct (since base n xs) → Distinct (since base n xs ++ map item_of more)

abbrev pub AddsR : ℕ → (Item → Type 0) → List ItemRow → List ItemRow → ℕ → Option ℕ → Type 0
AddsR base P xs ys n (Some m) = Adds base P xs ys n m
AddsR base P xs ys n None = Overfull base P xs ys n

-- F at some number from lo up to hi
pub record Range {A : Type 0} (F : ℕ → A → Type 0) (lo hi : ℕ) (x : A) : Type 0 where
  pub number : ℕ
  pub from : lo ≤ number
  pub below : number < hi
  pub is : F number x
