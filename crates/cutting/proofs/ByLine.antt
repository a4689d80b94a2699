-- A token's column is a function of the bytes before it on its line alone.
use Rattle.std.proofs.Common.{◌≡◌, ℕ, List, [], ◌∷◌, ◌++◌, length, take, fold, sym, refl, ap, ◌∙◌, inl, inr, append_assoc}
use Rattle.std.proofs.lemmas.List.Sums.{fold-append}
use mathlib.Core.List.{Memᴰ}
use Rattle.std.proofs.lemmas.List.{take_at}
use Rattle.lists.specs.Members.{◌∈◌}
use Rattle.cutting.specs.Columns.{past, column_at}
use Rattle.cutting.specs.Cuts.{Span}
use Rattle.cutting.specs.Shapes.{AllSound}
use Rattle.cutting.specs.Laws.{StartsLine, ByLine}
use Rattle.cutting.proofs.Shaping.{sounds}

-- the columns are at 0 where a line starts
line_zero : (before : List ℕ) → StartsLine before → fold past 0 before ≡ 0
line_zero before (inl e) = ap (fold past 0) e
line_zero before (inr (front, e)) = ap (fold past 0) e ∙ fold-append past 0 front (10 ∷ [])

column_by_line : (before line behind : List ℕ) → StartsLine before → column_at (before ++ (line ++ behind)) (length (before ++ line)) ≡ fold past 0 line
column_by_line before line behind s =
    ap (λ ys. fold past 0 (take (length (before ++ line)) ys)) (sym (append_assoc before line behind))
    ∙ ap (fold past 0) (take_at (before ++ line) behind (length (before ++ line)) refl)
    ∙ fold-append past 0 before line
    ∙ ap (λ c. fold past c line) (line_zero before s)

member_column : (xs : List ℕ) {s : Span} {ss : List Span} → s ∈ ss → AllSound xs ss → s.column ≡ column_at xs s.place
member_column xs (Memᴰ.head e) a = cc a.0.column
member_column xs (Memᴰ.tail m) a = member_column xs m a.1

pub by_line : ByLine
by_line before line behind a ss e s starts c m at =
    member_column (before ++ (line ++ behind)) m (sounds (before ++ (line ++ behind)) a ss e c)
    ∙ ap (column_at (before ++ (line ++ behind))) at
    ∙ column_by_line before line behind starts
