-- What may be wrong with the rows of a dialect, in the order of the tests.
use Rattle.std.specs.Prelude.{◌≡◌, ℕ, ◌+◌, ◌<◌, ◌≤◌, List, length, get_or, Some, slice_index_or}
use Rattle.tokens.specs.declared.refusal.Refusal.{Refusal}
use Rattle.tokens.specs.declared.refusal.Refusal.TheVariants.{TooManyRows, BadLiteral, BadRule, NoRule, Cyclic}
use Rattle.grammar.specs.Steps.{GetsTo, Acyclic}
use Rattle.rows.specs.declared.row.LiteralRow.{LiteralRow}
use Rattle.rows.specs.declared.row.RuleRow.{RuleRow}
use Rattle.rows.specs.Meaning.{grammar_of_rows}
use Rattle.rows.specs.Rows.{no_place, no_rule, Nonterminal, LiteralOk, RowOk, Finds}

abbrev pub Few : List LiteralRow → List RuleRow → Type 0
Few literals rules = (length literals ≤ 64) × (length rules ≤ 256)

-- one of the first n rules is of the symbol
abbrev pub RuledBy : List RuleRow → ℕ → ℕ → Type 0
RuledBy rules n a = (k : ℕ) × (k < n) × ((get_or rules k no_rule).left ≡ a)

-- the symbol has a rule
abbrev pub Ruled : List RuleRow → ℕ → Type 0
Ruled rules a = RuledBy rules (length rules) a

-- each nonterminal at a counted place of the row has a rule
abbrev pub NamesRuled : List RuleRow → RuleRow → Type 0
NamesRuled rules row = (k : ℕ) → k < row.count → Nonterminal (get_or row.places k no_place).symbol → Ruled rules (get_or row.places k no_place).symbol

-- row i names no nonterminal without a rule; the start is the row after the last
pub record NamesOk (rules : List RuleRow) (start i : ℕ) : Type 0 where
  pub rule : i < length rules → NamesRuled rules (slice_index_or rules i no_rule)
  pub last : i ≡ length rules → Ruled rules start

-- the left symbol of row i gets back to itself
abbrev pub OnCycle : List RuleRow → ℕ → ℕ → Type 0
OnCycle rules start i = GetsTo (grammar_of_rows rules start) (get_or rules i no_rule).left (get_or rules i no_rule).left

-- no literal row is at fault
abbrev pub Spelled : List LiteralRow → Type 0
Spelled literals = (i : ℕ) → i < length literals → LiteralOk literals i

-- no rule row is at fault, nor the start
abbrev pub Allowed : List LiteralRow → List RuleRow → ℕ → Type 0
Allowed literals rules start = (i : ℕ) → i < length rules + 1 → RowOk (length literals) rules start i

-- every nonterminal that a row names has a rule
abbrev pub Named : List RuleRow → ℕ → Type 0
Named rules start = (i : ℕ) → i < length rules + 1 → NamesOk rules start i

-- rows that may be loaded
pub record Good (literals : List LiteralRow) (rules : List RuleRow) (start : ℕ) : Type 0 where
  pub few : Few literals rules
  pub spelled : Spelled literals
  pub allowed : Allowed literals rules start
  pub named : Named rules start
  pub acyclic : Acyclic (grammar_of_rows rules start)

-- what a refusal says of the rows: its own fault at the first such row, and none of the faults that are tested before
pub data Why (literals : List LiteralRow) (rules : List RuleRow) (start : ℕ) : Refusal → Type 0 where
  many : (Few literals rules → ⊥) → Why literals rules start TooManyRows
  literal : (i : ℕ) → Few literals rules → Finds (LiteralOk literals) (length literals) (Some i) → Why literals rules start (BadLiteral i)
  rule : (i : ℕ) → Few literals rules → Spelled literals → Finds (RowOk (length literals) rules start) (length rules + 1) (Some i) → Why literals rules start (BadRule i)
  unruled : (i : ℕ) → Few literals rules → Spelled literals → Allowed literals rules start → Finds (NamesOk rules start) (length rules + 1) (Some i) → Why literals rules start (NoRule i)
  cyclic : (i : ℕ) → Few literals rules → Spelled literals → Allowed literals rules start → Named rules start → OnCycle rules start i → Finds (λ k. OnCycle rules start k → ⊥) (length rules) (Some i) → Why literals rules start (Cyclic i)
