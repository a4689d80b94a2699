-- Laws over all loads.
use Rattle.std.specs.Prelude.{◌≡◌, ℕ, List, [], ◌∷◌, Some, None, Decides, Option}
use Rattle.tokens.specs.declared.refusal.Refusal.{Refusal}
use Rattle.tokens.specs.declared.refusal.Refusal.TheVariants.{Cyclic}
use Rattle.grammar.specs.Grammar.{Grammar}
use Rattle.grammar.specs.Steps.{GetsTo}
use Rattle.grammar.specs.Reaching.{reaches}
use Rattle.rows.specs.declared.row.LiteralRow.{LiteralRow}
use Rattle.rows.specs.declared.row.RuleRow.{RuleRow}
use Rattle.dialect.specs.Faults.{Good, Why}
use Rattle.dialect.specs.Loose.{on, one_place, two_places}

-- an answer of the tests: the rows are good, or have this fault
abbrev pub Verdict : List LiteralRow → List RuleRow → ℕ → Option Refusal → Type 0
Verdict literals rules start None = Good literals rules start
Verdict literals rules start (Some e) = Why literals rules start e

-- the tests have exactly one answer for all rows
abbrev pub Determined : Type 0
Determined = (literals : List LiteralRow) (rules : List RuleRow) (start : ℕ) → (r : Option Refusal) × Verdict literals rules start r × ((q : Option Refusal) → Verdict literals rules start q → q ≡ r)

-- rows that are refused are not good
abbrev pub Refused : Type 0
Refused = (literals : List LiteralRow) (rules : List RuleRow) (start : ℕ) (e : Refusal) → Why literals rules start e → Good literals rules start → ⊥

-- with A = 256, A → =A beside A → =word is cyclic at its first row
abbrev pub CycleRefused : Type 0
CycleRefused = Why [] (one_place 256 0 (on 61 256) ∷ one_place 256 0 (on 61 1) ∷ []) 256 (Cyclic 0)

-- A → =A =word is good
abbrev pub LeftLoads : Type 0
LeftLoads = Good [] (two_places 256 0 (on 61 256) (on 61 1) ∷ []) 256

-- the computed paths by which ranks are counted are the paths of steps
abbrev pub ReachesExact : Type 0
ReachesExact = (g : Grammar) (a b : ℕ) → Decides (reaches g a b) (GetsTo g a b)
