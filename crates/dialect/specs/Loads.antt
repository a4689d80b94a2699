-- What loading leaves.
use Rattle.std.specs.Prelude.{◌≡◌, ℕ, ◌⊎◌, List, [], Ok, Err, Result}
use Rattle.tokens.specs.declared.refusal.Refusal.{Refusal}
use Rattle.tokens.specs.declared.refusal.Refusal.TheVariants.{NoMemory}
use Rattle.rows.specs.declared.row.LiteralRow.{LiteralRow}
use Rattle.rows.specs.declared.row.RuleRow.{RuleRow}
use Rattle.dialect.specs.declared.dialect.Dialect.{Dialect}
use Rattle.dialect.specs.Faults.{Good, Why}
use Rattle.dialect.specs.Loose.{loose}
use Rattle.dialect.specs.Views.{literals_of, rules_of}

-- the dialect holds exactly these rows, which are good
pub record Holds (d : Dialect) (ls : List LiteralRow) (rs : List RuleRow) (s : ℕ) : Type 0 where
  pub literals : literals_of d ≡ ls
  pub rules : rules_of d ≡ rs
  pub start : d.start ≡ s
  pub good : Good ls rs s

-- the rows have this fault, or they are good and there is no memory for them
abbrev pub Refuses : List LiteralRow → List RuleRow → ℕ → Refusal → Type 0
Refuses literals rules start e = Why literals rules start e ⊎ (Good literals rules start × (e ≡ NoMemory))

-- a dialect is made of exactly the rows given, or the refusal says why not
abbrev pub Made : List LiteralRow → List RuleRow → ℕ → Result Dialect Refusal → Type 0
Made literals rules start (Ok d) = Holds d literals rules start
Made literals rules start (Err e) = Refuses literals rules start e

-- a good load makes it exactly the rows given; a refusal leaves it as it was, and says why
abbrev pub Loaded : Dialect → Dialect → List LiteralRow → List RuleRow → ℕ → Result (Unit {0}) Refusal → Type 0
Loaded was now literals rules start (Ok u) = Holds now literals rules start
Loaded was now literals rules start (Err e) = (now ≡ was) × Refuses literals rules start e

-- the dialect at first, unless there is no memory for it
abbrev pub Builtin : Result Dialect Refusal → Type 0
Builtin (Ok d) = Holds d [] loose 256
Builtin (Err e) = e ≡ NoMemory
