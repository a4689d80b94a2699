-- The kind of a token: that of the first literal that is spelled like it, and else that of its class.
use Rattle.std.specs.Prelude.{◌≡◌, ℕ, ◌+◌, ◌<◌, ◌≤◌, Bool, cond, ◌&&◌, ◌⊎◌, List, [], ◌∷◌, length, take, nat_le, slice_index_or}
use Rattle.std.specs.Str.{bytes_eq}
use Rattle.rows.specs.declared.row.LiteralRow.{LiteralRow}
use Rattle.rows.specs.Rows.{no_literal}
use Rattle.cutting.specs.Starts.{TokenClass, word, number, text, mark}

-- the kinds of the classes
abbrev pub class_kind : TokenClass → ℕ
class_kind word = 1
class_kind number = 2
class_kind text = 3
class_kind mark = 4

-- whether a literal is spelled so
abbrev pub spells : LiteralRow → List ℕ → Bool
spells l xs = nat_le l.length 32 && bytes_eq xs (take l.length l.bytes)

-- the number of the first literal that is spelled so, where the first row has the number n, or else the given kind
abbrev pub numbered : ℕ → List LiteralRow → List ℕ → ℕ → ℕ
numbered n [] xs class = class
numbered n (l ∷ ls) xs class = cond (spells l xs) n (numbered (n + 1) ls xs class)

-- literal rows are numbered from 16
abbrev pub kind_of : List LiteralRow → List ℕ → ℕ → ℕ
kind_of ls xs class = numbered 16 ls xs class

-- the literal's counted bytes, at most 32, are these
pub record Spelled (l : LiteralRow) (xs : List ℕ) : Type 0 where
  pub few : l.length ≤ 32
  pub same : xs ≡ take l.length l.bytes

-- row i is the first that is spelled so
pub record FirstSpelled (ls : List LiteralRow) (xs : List ℕ) (i : ℕ) : Type 0 where
  pub row : i < length ls
  pub is : Spelled (slice_index_or ls i no_literal) xs
  pub first : (k : ℕ) → k < i → Spelled (slice_index_or ls k no_literal) xs → ⊥

-- the kind is 16 and the number of the first literal row that is spelled so; where there is none, that of the class
abbrev pub Kinded : List LiteralRow → List ℕ → ℕ → Type 0
Kinded ls xs class =
    ((i : ℕ) × FirstSpelled ls xs i × (kind_of ls xs class ≡ 16 + i))
    ⊎ (((k : ℕ) → k < length ls → Spelled (slice_index_or ls k no_literal) xs → ⊥) × (kind_of ls xs class ≡ class))

abbrev pub Kinds : Type 0
Kinds = (ls : List LiteralRow) (xs : List ℕ) (class : ℕ) → Kinded ls xs class
