-- What a dialect carries of its rows and tables, in forms that a struct may carry.
use Rattle.std.specs.Prelude.{◌≡◌, ℕ, ◌<◌, List}
use Rattle.grammar.specs.Nulling.{nullable}
use Rattle.rows.specs.declared.row.RuleRow.{RuleRow}
use Rattle.rows.specs.Meaning.{grammar_of_rows}
use Rattle.closure.specs.Sets.{in_set}

-- no row of n is at fault
abbrev pub Faultless : (ℕ → Type 0) → ℕ → Type 0
Faultless Ok n = (i : ℕ) → i < n → (Ok i → ⊥) → ⊥

-- the set is that of the nullable nonterminals
abbrev pub Nulls : List RuleRow → ℕ → ℕ → Type 0
Nulls rules start set = (a : ℕ) → in_set set a ≡ nullable (grammar_of_rows rules start) a
