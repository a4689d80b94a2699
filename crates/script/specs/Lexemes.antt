-- Parts of a script as the cutter holds them, and what it finds from an offset on.
use Rattle.std.specs.Prelude.{◌≡◌, ℕ, ◌+◌, ◌≤◌, cond, List, ◌∷◌, length, take, drop, Some, None, Ok, Err, Option, Result, nat_le}
use Rattle.tokens.specs.declared.token.Token.{Token}
use Rattle.rows.specs.declared.row.LiteralRow.{LiteralRow}
use Rattle.cutting.specs.declared.fault.Fault.{Fault}
use Rattle.cutting.specs.declared.fault.Fault.TheVariants.{FarColumn}
use Rattle.cutting.specs.Columns.{column_at}
use Rattle.cutting.specs.Starts.{TokenClass, word, number, text, mark}
use Rattle.cutting.specs.Cuts.{Span, end, fault}
use Rattle.cutting.specs.Meaning.{spans, ending_at, Last}
use Rattle.script.specs.declared.position.Position.{Position}
use Rattle.script.specs.declared.lexeme.Lexeme.{Lexeme}
use Rattle.script.specs.declared.lexeme.Lexeme.TheVariants.{Word, Number, Text, Mark}
use Rattle.script.specs.declared.lexeme.Piece.{Piece}
use Rattle.script.specs.Kinds.{class_kind, kind_of}

-- the bytes of a lexeme
abbrev pub held : Lexeme → List ℕ
held (Word p) = p.now
held (Number p) = p.now
held (Text p) = p.now
held (Mark p) = p.now

-- its class
abbrev pub class_of : Lexeme → TokenClass
class_of (Word p) = word
class_of (Number p) = number
class_of (Text p) = text
class_of (Mark p) = mark

-- a piece as a part of the script
abbrev pub span_of : Piece → Span
span_of p = record { class = class_of p.lexeme; place = p.place; column = p.column; size = length (held p.lexeme) }

-- a piece as a token
abbrev pub token_of : List LiteralRow → Piece → Token
token_of ls p = record { kind = kind_of ls (held p.lexeme) (class_kind (class_of p.lexeme)); column = p.column; place = p.place; length = length (held p.lexeme) }

-- a piece is the first token, its bytes are those of the script, no more than a script may have, and the position stands
-- behind it
pub record First (xs : List ℕ) (from : ℕ) (p : Piece) (behind : Position) : Type 0 where
  pub tokens : spans xs from ≡ span_of p ∷ spans xs behind.place
  pub ending : ending_at xs from ≡ ending_at xs behind.place
  pub bytes : held p.lexeme ≡ take (length (held p.lexeme)) (drop p.place xs)
  pub short : length (held p.lexeme) ≤ 65536
  pub ends : behind.place ≡ p.place + length (held p.lexeme)
  pub lies : behind.place ≤ length xs
  pub column : behind.column ≡ column_at xs behind.place

-- what the cutter answers: a piece and the position behind it, none at the end of the script, or a fault
abbrev pub Found : Type 0
Found = Result (Option (Piece × Position)) Fault

-- what it answers from an offset on
abbrev pub NextPost : List ℕ → ℕ → Found → Type 0
NextPost xs from (Ok (Some p)) = First xs from p.0 p.1
NextPost xs from (Ok None) = Last xs from end
NextPost xs from (Err f) = Last xs from (fault f)

-- the lexeme from one position to another, unless its column is above 255
abbrev pub pieced : Lexeme → Position → Position → Found
pieced lexeme start behind = cond (nat_le start.column 255) (Ok (Some (record { lexeme = lexeme; column = start.column; place = start.place }, behind))) (Err (FarColumn start.place))
