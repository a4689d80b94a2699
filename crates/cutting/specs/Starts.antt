-- What the bytes from an offset on begin with.
use Rattle.std.specs.Prelude.{ℕ, ◌+◌, Bool, cond, not, ◌&&◌, List, [], ◌∷◌, Some, None, Option, ◌==◌, slice_index}
use Rattle.std.specs.List.{prefix_len}
use Rattle.cutting.specs.declared.class.Class.{Class}
use Rattle.cutting.specs.declared.class.Class.TheVariants.{Blank, Line, Hash, Letter, Digit, Quote, Sign, Other}
use Rattle.cutting.specs.Classes.{classed, wordy, digital, on_line}

-- the classes of tokens
pub data TokenClass : Type 0 where
  word : TokenClass
  number : TokenClass
  text : TokenClass
  mark : TokenClass

-- nothing is left; n bytes that are skipped; a token of n bytes; a text that its line does not close; a byte that
-- starts no token
pub data Start : Type 0 where
  nothing : Start
  gap : ℕ → Start
  token : TokenClass → ℕ → Start
  unclosed : Start
  stray : Start

-- a byte that neither closes a text nor ends its line
abbrev pub plain : ℕ → Bool
plain b = not (b == 34) && not (b == 10)

-- how many bytes stand before the closing quote, if it is on this line
abbrev pub closed : List ℕ → Option ℕ
closed xs = cond (slice_index xs (prefix_len plain xs) == 34) (Some (prefix_len plain xs)) None

-- a text, by the bytes between its quotes
abbrev pub text_of : Option ℕ → Start
text_of None = unclosed
text_of (Some n) = token text (n + 2)

-- by the class of the first byte, and the bytes behind it: a comment goes on to before the line feed, a word over all
-- letters, digits and _ that follow, a number over all digits that follow, a text to the next quote on its line, and a
-- mark is one byte; since no word or number has a #, one right behind them starts a comment too
abbrev pub begins : Class → List ℕ → Start
begins Blank xs = gap 1
begins Line xs = gap 1
begins Hash xs = gap (1 + prefix_len (λ b. on_line (classed b)) xs)
begins Letter xs = token word (1 + prefix_len (λ b. wordy (classed b)) xs)
begins Digit xs = token number (1 + prefix_len (λ b. digital (classed b)) xs)
begins Quote xs = text_of (closed xs)
begins Sign xs = token mark 1
begins Other xs = stray

abbrev pub start_of : List ℕ → Start
start_of [] = nothing
start_of (b ∷ xs) = begins (classed b) xs
