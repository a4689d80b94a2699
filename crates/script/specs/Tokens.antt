-- What a script means as a source of tokens.
use Rattle.std.specs.Prelude.{ℕ, List, map, take, drop}
use Rattle.tokens.specs.declared.token.Token.{Token}
use Rattle.tokens.specs.declared.refusal.Refusal.{Refusal}
use Rattle.tokens.specs.declared.refusal.Refusal.TheVariants as refusal
use Rattle.tokens.specs.Sources.{Ending}
use Rattle.tokens.specs.Sources as sources
use Rattle.rows.specs.declared.row.LiteralRow.{LiteralRow}
use Rattle.cutting.specs.declared.fault.Fault.{Fault}
use Rattle.cutting.specs.declared.fault.Fault.TheVariants.{StrayByte, UnclosedText, FarColumn, LongScript}
use Rattle.cutting.specs.Cuts.{Span, Stop, end, fault}
use Rattle.cutting.specs.Meaning.{spans, ending_at}
use Rattle.script.specs.Kinds.{class_kind, kind_of}

-- the bytes of a part of the script
abbrev pub part_of : List ℕ → Span → List ℕ
part_of xs s = take s.size (drop s.place xs)

-- a part of the script as a token
abbrev pub token_at : List LiteralRow → List ℕ → Span → Token
token_at ls xs s = record { kind = kind_of ls (part_of xs s) (class_kind s.class); column = s.column; place = s.place; length = s.size }

-- a fault of a script as a refusal, with the number of the source
abbrev pub refusal_of : ℕ → Fault → Refusal
refusal_of source (StrayByte place) = refusal.StrayByte place source
refusal_of source (UnclosedText place) = refusal.UnclosedText place source
refusal_of source (FarColumn place) = refusal.FarColumn place source
refusal_of source LongScript = refusal.LongScript source

abbrev pub ending_of : ℕ → Stop → Ending
ending_of source end = sources.end
ending_of source (fault f) = sources.fault (refusal_of source f)

-- the tokens of a script from an offset on, with these literals
abbrev pub text_tokens : List LiteralRow → List ℕ → ℕ → List Token
text_tokens ls xs at = map (token_at ls xs) (spans xs at)

-- and how they end: the text source has the number 1
abbrev pub text_ending : List ℕ → ℕ → Ending
text_ending xs at = ending_of 1 (ending_at xs at)

-- what a text source means: the tokens still to come, and what comes behind them
pub record Meant : Type 0 where
  pub tokens : List Token
  pub ending : Ending

abbrev pub meant_from : List LiteralRow → List ℕ → ℕ → Meant
meant_from ls xs at = record { tokens = text_tokens ls xs at; ending = text_ending xs at }
