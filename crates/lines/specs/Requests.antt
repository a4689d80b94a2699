-- What a line asks for.
use Rattle.std.specs.Prelude.{◌≡◌, ℕ, ◌-◌, cond, List, [], ◌∷◌, length, take, Some, None, Ok, Err, vec_items, Option, Result, ◌==◌, slice_index}
use Rattle.std.specs.declared.alloc.AllocError.{AllocError}
use Rattle.rows.specs.declared.row.LiteralRow.{LiteralRow}
use Rattle.rows.specs.declared.row.PlaceRow.{PlaceRow}
use Rattle.rows.specs.declared.row.RuleRow.{RuleRow}
use Rattle.lines.specs.declared.verb.Verb.{Verb}
use Rattle.lines.specs.declared.verb.Verb.TheVariants as verb
use Rattle.lines.specs.declared.request.Request.{Request}
use Rattle.lines.specs.declared.request.Request.TheVariants as request
use Rattle.lines.specs.Words.{words}
use Rattle.lines.specs.Numbers.{numeral}
use Rattle.lines.specs.Hex.{bytes}
use Rattle.rows.specs.Rows.{no_places, placed}
use Rattle.lines.specs.Rows.{literal_row, place_at}
use Rattle.lines.specs.Verbs.{verb_at}

-- what a line may ask for, with the contents of what it holds
pub data Asks : Type 0 where
  blank : Asks
  literal : LiteralRow → Asks
  rule : RuleRow → Asks
  start : ℕ → Asks
  load : Asks
  script : List ℕ → Asks
  tokens : Asks

abbrev pub meaning : Request → Asks
meaning request.Blank = blank
meaning (request.Literal row) = literal row
meaning (request.Rule row) = rule row
meaning (request.Start n) = start n
meaning request.Load = load
meaning (request.Script v) = script (vec_items v)
meaning request.Tokens = tokens

-- a carriage return at the end of a line is dropped
abbrev pub unended : List ℕ → List ℕ
unended line = cond (slice_index line (length line - 1) == 13) (take (length line - 1) line) line

-- `literal HEX`, `script HEX`: one word, or none for no bytes
abbrev pub hex_words : List (List ℕ) → Option (List ℕ)
hex_words [] = Some []
hex_words (w ∷ []) = bytes w
hex_words (w ∷ v ∷ ws) = None

abbrev pub as_literal : Option (List ℕ) → Option Asks
as_literal None = None
as_literal (Some b) = Some (literal (literal_row b))

abbrev pub as_script : Option (List ℕ) → Option Asks
as_script None = None
as_script (Some b) = Some (script b)

-- `start SYMBOL`
abbrev pub as_start : Option ℕ → Option Asks
as_start None = None
as_start (Some n) = Some (start n)

abbrev pub start_words : List (List ℕ) → Option Asks
start_words [] = None
start_words (w ∷ []) = as_start (numeral 65535 w)
start_words (w ∷ v ∷ ws) = None

-- a command of one word
abbrev pub plain_words : Asks → List (List ℕ) → Option Asks
plain_words a [] = Some a
plain_words a (w ∷ ws) = None

-- a rule with a further place, if the word is one
abbrev pub further : Option RuleRow → Option PlaceRow → Option RuleRow
further None p = None
further (Some row) None = None
further (Some row) (Some p) = Some (placed row p)

-- a rule with the places that the words are
abbrev pub with_places : Option RuleRow → List (List ℕ) → Option RuleRow
with_places row [] = row
with_places row (w ∷ ws) = with_places (further row (place_at w)) ws

abbrev pub bare_rule : Option ℕ → Option ℕ → Option RuleRow
bare_rule None c = None
bare_rule (Some l) None = None
bare_rule (Some l) (Some c) = Some (no_places l c)

-- `rule LEFT COST PLACE…`
abbrev pub rule_row : List (List ℕ) → Option RuleRow
rule_row [] = None
rule_row (l ∷ []) = None
rule_row (l ∷ c ∷ ws) = with_places (bare_rule (numeral 65535 l) (numeral 4294967295 c)) ws

abbrev pub as_rule : Option RuleRow → Option Asks
as_rule None = None
as_rule (Some row) = Some (rule row)

abbrev pub by_verb : Option Verb → List (List ℕ) → Option Asks
by_verb None ws = None
by_verb (Some verb.Literal) ws = as_literal (hex_words ws)
by_verb (Some verb.Rule) ws = as_rule (rule_row ws)
by_verb (Some verb.Start) ws = start_words ws
by_verb (Some verb.Load) ws = plain_words load ws
by_verb (Some verb.Script) ws = as_script (hex_words ws)
by_verb (Some verb.Tokens) ws = plain_words tokens ws

-- no word: blank; a first word that begins with # (35): a comment
abbrev pub by_words : List (List ℕ) → Option Asks
by_words [] = Some blank
by_words (w ∷ ws) = cond (slice_index w 0 == 35) (Some blank) (by_verb (verb_at w) ws)

-- what a line, without its line feed, asks for; nothing where it is not understood
abbrev pub read : List ℕ → Option Asks
read line = by_words (words (unended line))

-- the answer of reading: the request means what the line asks for, or it asks for nothing that is understood, unless
-- there is no memory for the request
abbrev pub Answers : Option Asks → Result (Option Request) AllocError → Type 0
Answers a (Ok None) = a ≡ None
Answers a (Ok (Some r)) = a ≡ Some (meaning r)
Answers a (Err e) = Unit {0}
