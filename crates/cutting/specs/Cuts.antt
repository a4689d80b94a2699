-- How a script is cut into tokens, and how the tokens end. The order of the faults stands here and nowhere else.
use Rattle.std.specs.Prelude.{◌≡◌, ℕ, ◌+◌, cond, List, [], ◌∷◌, length, drop, nat_le, nat_lt}
use Rattle.cutting.specs.declared.fault.Fault.{Fault}
use Rattle.cutting.specs.declared.fault.Fault.TheVariants.{StrayByte, UnclosedText, FarColumn, LongScript}
use Rattle.cutting.specs.Columns.{column_at}
use Rattle.cutting.specs.Starts.{TokenClass, Start, nothing, gap, token, unclosed, stray, start_of}

-- what happens at an offset: the script ends, n bytes are skipped, a token of n bytes is cut, or there is a fault
pub data Step : Type 0 where
  stops : Step
  skips : ℕ → Step
  takes : TokenClass → ℕ → Step
  fails : Fault → Step

-- a token or an open text above column 255 is a far column, before the text is found to be unclosed; a byte that starts
-- no token is a stray byte at any column
abbrev pub placed : ℕ → ℕ → Start → Step
placed c at nothing = stops
placed c at (gap n) = skips n
placed c at (token s n) = cond (nat_le c 255) (takes s n) (fails (FarColumn at))
placed c at unclosed = cond (nat_le c 255) (fails (UnclosedText at)) (fails (FarColumn at))
placed c at stray = fails (StrayByte at)

-- a script of more than 65,536 bytes is at fault before any token
abbrev pub step : List ℕ → ℕ → Step
step xs at = cond (nat_lt 65536 (length xs)) (fails LongScript) (placed (column_at xs at) at (start_of (drop at xs)))

-- a token as a part of the script: its class, the offset of its first byte, its column and its number of bytes
pub record Span : Type 0 where
  pub class : TokenClass
  pub place : ℕ
  pub column : ℕ
  pub size : ℕ

-- how the tokens end: with the script, or by a fault
pub data Stop : Type 0 where
  end : Stop
  fault : Fault → Stop

-- the tokens of a script from an offset on, and how they end
pub data Cuts (xs : List ℕ) : ℕ → List Span → Stop → Type 0 where
  ends : {at : ℕ} → step xs at ≡ stops → Cuts xs at [] end
  breaks : {at : ℕ} {f : Fault} → step xs at ≡ fails f → Cuts xs at [] (fault f)
  skip : {at n : ℕ} {ss : List Span} {e : Stop} → step xs at ≡ skips n → Cuts xs (at + n) ss e → Cuts xs at ss e
  cut : {at n : ℕ} {c : TokenClass} {ss : List Span} {e : Stop} → step xs at ≡ takes c n → Cuts xs (at + n) ss e → Cuts xs at (record { class = c; place = at; column = column_at xs at; size = n } ∷ ss) e
