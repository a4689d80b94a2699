-- Columns: how far each byte of a script moves them.
-- They are counted from 0, at the start of the script and after each line feed. A tab moves to the next higher multiple
-- of 4, a carriage return counts 0 and ends no line, and every other byte counts 1, inside texts and comments too.
use Rattle.std.specs.Prelude.{ℕ, ◌+◌, ◌*◌, ◌/◌, cond, List, take, fold, ◌==◌}

-- the column behind the byte b that stands at the column c
abbrev pub past : ℕ → ℕ → ℕ
past c b = cond (b == 9) ((c / 4 + 1) * 4) (cond (b == 10) 0 (cond (b == 13) c (c + 1)))

-- the column of an offset
abbrev pub column_at : List ℕ → ℕ → ℕ
column_at xs at = fold past 0 (take at xs)
