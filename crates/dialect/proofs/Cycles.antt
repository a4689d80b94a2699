-- Rules whose left symbols get back to themselves.
use Rattle.std.proofs.Common.{ℕ, ◌<◌, Bool, List, length, get_or, Decides, sym, subst}
use Rattle.grammar.specs.Steps.{GetsTo, Acyclic}
use Rattle.grammar.specs.Reaching.{reaches}
use Rattle.grammar.proofs.Reaching.{reaches_decides}
use Rattle.rows.specs.declared.row.RuleRow.{RuleRow}
use Rattle.rows.specs.Meaning.{grammar_of_rows}
use Rattle.rows.specs.Rows.{no_rule}
use Rattle.rows.proofs.Deciding.{stable}
use Rattle.closure.proofs.Reaching.{gets_row}
use Rattle.dialect.specs.Faults.{OnCycle}

-- whether a rule's left symbol gets back to itself is computed
abbrev pub cycle_test : List RuleRow → ℕ → ℕ → Bool
cycle_test rules start i = reaches (grammar_of_rows rules start) (get_or rules i no_rule).left (get_or rules i no_rule).left

pub decides_cycle : (rules : List RuleRow) (start i : ℕ) → Decides (cycle_test rules start i) (OnCycle rules start i)
decides_cycle rules start i = reaches_decides (grammar_of_rows rules start) (get_or rules i no_rule).left (get_or rules i no_rule).left

-- so a cycle that cannot be missing is there
pub cycle_stable : (rules : List RuleRow) (start i : ℕ) → ((OnCycle rules start i → ⊥) → ⊥) → OnCycle rules start i
cycle_stable rules start i = stable (cycle_test rules start i) (decides_cycle rules start i)

-- where no rule's left symbol gets back to itself, no symbol does
pub cycle_none : (rules : List RuleRow) (start : ℕ) → ((i : ℕ) → i < length rules → OnCycle rules start i → ⊥) → Acyclic (grammar_of_rows rules start)
cycle_none rules start n a t = let (i, l, e) = gets_row rules start t in n i l (subst (λ (x : ℕ). GetsTo (grammar_of_rows rules start) x x) (sym e) t)
