-- Tables of the nonterminals that each nonterminal steps to, and gets to.
use Rattle.std.specs.Prelude.{◌≡◌, ℕ, ◌-◌, ◌<◌, true, List, length, get_or, Decides, ◌≢◌, slice_index, slice_index_or}
use Rattle.grammar.specs.Steps.{GetsTo}
use Rattle.rows.specs.declared.row.RuleRow.{RuleRow}
use Rattle.rows.specs.Meaning.{grammar_of_rows}
use Rattle.rows.specs.Rows.{no_place, no_rule, Nonterminal}
use Rattle.closure.specs.Sets.{in_set}

-- the symbol of every counted place of the row but j is in the set
abbrev pub OthersIn : ℕ → RuleRow → ℕ → Type 0
OthersIn set row j = (k : ℕ) → k < row.count → k < length row.places → (k ≢ j) → in_set set (get_or row.places k no_place).symbol ≡ true

-- one of the first n places has the symbol b, and every other counted place of the row is in the set
abbrev pub StepsBy : ℕ → RuleRow → ℕ → ℕ → Type 0
StepsBy set row n b = (j : ℕ) × (j < n) × (j < length row.places) × ((get_or row.places j no_place).symbol ≡ b) × OthersIn set row j

-- one of the first n rules steps from a to b
abbrev pub RowSteps : List RuleRow → ℕ → ℕ → ℕ → ℕ → Type 0
RowSteps rules set n a b = (i : ℕ) × (i < n) × ((get_or rules i no_rule).left ≡ a) × StepsBy set (slice_index_or rules i no_rule) (get_or rules i no_rule).count b

-- the entry of the nonterminal a is the set of the nonterminals that it steps to by the first n rules
abbrev pub StepTable : List RuleRow → ℕ → ℕ → List ℕ → Type 0
StepTable rules set n table = (a b : ℕ) → Nonterminal a → Decides (in_set (slice_index table (a - 256)) b) (Nonterminal b × RowSteps rules set n a b)

-- the entry of the nonterminal a is the set of the nonterminals that it gets to, whatever the start
abbrev pub ReachTable : List RuleRow → List ℕ → Type 0
ReachTable rules table = (start a b : ℕ) → Nonterminal a → Decides (in_set (slice_index table (a - 256)) b) (Nonterminal b × GetsTo (grammar_of_rows rules start) a b)
