-- What the tests of the rows answer: the tables of good rows, or why the rows are refused.
use Rattle.std.specs.Prelude.{ℕ, List, Ok, Err, Result}
use Rattle.tokens.specs.declared.refusal.Refusal.{Refusal}
use Rattle.rows.specs.declared.row.LiteralRow.{LiteralRow}
use Rattle.rows.specs.declared.row.RuleRow.{RuleRow}
use Rattle.closure.specs.Nulls.{NullableSet}
use Rattle.closure.specs.Ranks.{RankTable}
use Rattle.dialect.specs.declared.examine.Tables.{Tables}
use Rattle.dialect.specs.Faults.{Good, Why}

pub record Tabled (literals : List LiteralRow) (rules : List RuleRow) (start : ℕ) (t : Tables) : Type 0 where
  pub good : Good literals rules start
  pub nullable : NullableSet rules t.nullable
  pub ranks : RankTable rules t.ranks

abbrev pub Examined : List LiteralRow → List RuleRow → ℕ → Result Tables Refusal → Type 0
Examined literals rules start (Ok t) = Tabled literals rules start t
Examined literals rules start (Err e) = Why literals rules start e
