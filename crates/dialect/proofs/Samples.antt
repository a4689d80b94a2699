-- The rows of the dialect at first are good; and two small sets of rows.
use Rattle.std.proofs.Common.{List, [], ◌∷◌, refl, arith}
use Rattle.grammar.proofs.Reaching.{reaches_decides}
use Rattle.rows.specs.declared.row.RuleRow.{RuleRow}
use Rattle.rows.specs.Meaning.{grammar_of_rows}
use Rattle.dialect.specs.Faults.{OnCycle, Good, cyclic}
use Rattle.dialect.specs.Loose.{on, one_place, two_places, loose}
use Rattle.dialect.specs.Laws.{CycleRefused, LeftLoads}
use Rattle.dialect.proofs.Goodness.{computed_allowed, computed_named, computed_good}

pub loose_good : Good [] loose 256
loose_good = computed_good loose 256 (omega arith) refl refl refl

pub left_loads : LeftLoads
left_loads = computed_good (two_places 256 0 (on 61 256) (on 61 1) ∷ []) 256 (omega arith) refl refl refl

abbrev cycle : List RuleRow
cycle = one_place 256 0 (on 61 256) ∷ one_place 256 0 (on 61 1) ∷ []

pub cycle_refused : CycleRefused
cycle_refused =
    cyclic 0 (omega arith, omega arith) (λ i h. absurd (omega arith))
    (computed_allowed cycle 256 refl)
    (computed_named cycle 256 refl)
    back
    (omega arith, (λ n. n back), λ k h. absurd (omega arith))
  where
    back : OnCycle cycle 256 0
    back = (reaches_decides (grammar_of_rows cycle 256) 256 256).0 refl
