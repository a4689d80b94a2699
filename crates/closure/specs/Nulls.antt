-- A set of nonterminals that grows to that of the nullable ones.
use Rattle.std.specs.Prelude.{◌≡◌, ℕ, ◌<◌, ◌≤◌, true, List, length, get_or, Decides, slice_index_or}
use Rattle.grammar.specs.Steps.{Nullable}
use Rattle.grammar.specs.Nulling.{every}
use Rattle.rows.specs.declared.row.RuleRow.{RuleRow}
use Rattle.rows.specs.Meaning.{rule_of, grammar_of_rows}
use Rattle.rows.specs.Rows.{no_rule, Nonterminal}
use Rattle.closure.specs.Sets.{in_set}

-- rules whose left symbols are nonterminals and whose counts are at most 6
abbrev pub Formed : List RuleRow → Type 0
Formed rules = (i : ℕ) → i < length rules → Nonterminal (get_or rules i no_rule).left × ((get_or rules i no_rule).count ≤ 6)

-- only nullable symbols are in the set, whatever the start
abbrev pub Sound : List RuleRow → ℕ → Type 0
Sound rules set = (start a : ℕ) → in_set set a ≡ true → Nullable (grammar_of_rows rules start) a

-- the first n rules add no symbol to the set
abbrev pub Quiet : List RuleRow → ℕ → ℕ → Type 0
Quiet rules set n = (i : ℕ) → i < n → every (in_set set) (rule_of (slice_index_or rules i no_rule)).places ≡ true → in_set set (get_or rules i no_rule).left ≡ true

-- the set is that of the nullable symbols
abbrev pub NullableSet : List RuleRow → ℕ → Type 0
NullableSet rules set = (start a : ℕ) → Decides (in_set set a) (Nullable (grammar_of_rows rules start) a)
