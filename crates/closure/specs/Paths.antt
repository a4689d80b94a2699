-- Paths through a table of 64 sets, whose entry for a number is the set of the numbers that follow it.
use Rattle.std.specs.Prelude.{◌≡◌, ℕ, ◌<◌, true, ◌&&◌, ◌||◌, List, Decides, slice_index}
use Rattle.closure.specs.Sets.{has}

-- a path of one entry or more
pub data Path (table : List ℕ) : ℕ → ℕ → Type 0 where
  direct : {a b : ℕ} → a < 64 → b < 64 → has (slice_index table a) b ≡ true → Path table a b
  join : {a m b : ℕ} → Path table a m → Path table m b → Path table a b

-- the entries of the table r are the ends of the paths through the table
abbrev pub Closure : List ℕ → List ℕ → Type 0
Closure table r = (a b : ℕ) → a < 64 → b < 64 → Decides (has (slice_index r a) b) (Path table a b)

-- the table r is the table with the paths through k joined in
abbrev pub Passed : List ℕ → ℕ → List ℕ → Type 0
Passed table k r = (a j : ℕ) → a < 64 → has (slice_index r a) j ≡ (has (slice_index table a) j || (has (slice_index table a) k && has (slice_index table k) j))
