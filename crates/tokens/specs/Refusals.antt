-- The number, place, source and token of every refusal.
use Rattle.std.specs.Prelude.{ℕ, ◌+◌, Some, None}
use Rattle.tokens.specs.declared.token.Token.{Token}
use Rattle.tokens.specs.declared.refusal.Refusal.{Refusal}
use Rattle.tokens.specs.declared.refusal.Refusal.TheVariants.{TooManyRows, BadLiteral, BadRule, NoRule, Cyclic, StrayByte, UnclosedText, FarColumn, LongScript, BadTable, NoRoomToOpen, NoRoom, BadToken, TooManyTokens, CutBeyond, LongList, NoMemory}
use Rattle.tokens.specs.declared.refusal.Report.{Report}

-- of a dialect or of a call: no source, no token
abbrev pub plain : ℕ → ℕ → Report
plain number place = record { number = number; place = place; source = 0; token = None }

-- a fault that arose in the source of this number
abbrev pub fault : ℕ → ℕ → ℕ → Report
fault number place source = record { number = number; place = place; source = source; token = None }

-- a token that was not fed, whole, with its own place
abbrev pub unfed : ℕ → Token → Report
unfed number token = record { number = number; place = token.place; source = 0; token = Some token }

-- literal rows are numbered from 16 and rule rows from 0; the start is the row after the last rule
abbrev pub report : Refusal → Report
report TooManyRows = plain 11 0
report (BadLiteral row) = plain 12 (16 + row)
report (BadRule row) = plain 13 row
report (NoRule row) = plain 14 row
report (Cyclic row) = plain 15 row
report (StrayByte place source) = fault 21 place source
report (UnclosedText place source) = fault 22 place source
report (FarColumn place source) = fault 23 place source
report (LongScript source) = fault 24 65536 source
report BadTable = plain 31 0
report NoRoomToOpen = plain 32 0
report (NoRoom token) = unfed 32 token
report (BadToken token) = unfed 33 token
report (TooManyTokens token) = unfed 34 token
report CutBeyond = plain 35 0
report LongList = plain 36 0
report NoMemory = plain 99 0
