-- How bytes move columns.
use Rattle.std.proofs.Common.{◌≡◌, ℕ, ◌+◌, ◌-◌, ◌*◌, ◌<◌, ◌≤◌, List, [], ◌∷◌, length, get_or, take, drop, fold, sym, ap, ◌∙◌, arith, take-add}
use Rattle.std.proofs.lemmas.Bool.Decides.{nat_tests}
use Rattle.std.proofs.lemmas.List.Sums.{fold-append, fold_more}
use Rattle.std.proofs.lemmas.List.{length-take}
use Rattle.cutting.specs.Columns.{past, column_at}

-- one byte moves them by at most 4
pub past_le : (c b : ℕ) → past c b ≤ c + 4
past_le c b = grind (arith, nat_tests)

pub column_more : (xs : List ℕ) (at : ℕ) → at < length xs → column_at xs (at + 1) ≡ past (column_at xs at) (get_or xs at 0)
column_more xs at h = fold_more past 0 xs at 0 h

columns_le : (c : ℕ) (ys : List ℕ) → fold past c ys ≤ c + 4 * length ys
columns_le c [] = omega arith
columns_le c (y ∷ ys) = omega (arith, past_le c y, columns_le (past c y) ys)

-- columns stay small in a script that is not too long
pub column_le : (xs : List ℕ) (at : ℕ) → column_at xs at ≤ 4 * at
column_le xs at = omega (arith, columns_le 0 (take at xs), length-take at xs)

-- the column behind n bytes more
columns_part : (xs : List ℕ) (a n : ℕ) → fold past (column_at xs a) (take n (drop a xs)) ≡ column_at xs (a + n)
columns_part xs a n = sym (ap (fold past 0) (take-add a n xs) ∙ fold-append past 0 (take a xs) (take n (drop a xs)))

pub columns_to : (xs : List ℕ) (a e col : ℕ) → a ≤ e → col ≡ column_at xs a → fold past col (take (e - a) (drop a xs)) ≡ column_at xs e
columns_to xs a e col h q = ap (λ k. fold past k (take (e - a) (drop a xs))) q ∙ columns_part xs a (e - a) ∙ ap (column_at xs) (omega arith)
