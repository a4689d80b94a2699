-- The relations between the number of a child and that of its parent.
use Rattle.std.specs.Prelude.{◌≡◌, ℕ, ◌<◌, ◌≤◌, cond, Some, None, Option, Result, MatchResult, ◌==◌}
use Rattle.indent.specs.declared.relation.Relation.{Relation}
use Rattle.indent.specs.declared.relation.UnknownRelation.{UnknownRelation}
use Rattle.indent.specs.declared.relation.Relation.TheVariants.{Equal, Greater, AtLeast, Any}

-- the numbers of a child and its parent that a relation allows
abbrev pub Holds : Relation → ℕ → ℕ → Type 0
Holds Equal child parent = child ≡ parent
Holds Greater child parent = parent < child
Holds AtLeast child parent = parent ≤ child
Holds Any child parent = Unit {0}

-- the relation whose character is the byte: = is 61, > is 62, ~ is 126, * is 42
abbrev pub relation_at : ℕ → Option Relation
relation_at b = cond (b == 61) (Some Equal) (cond (b == 62) (Some Greater) (cond (b == 126) (Some AtLeast) (cond (b == 42) (Some Any) None)))

-- the relation whose character is the byte, or the byte where there is none
abbrev pub Reads : ℕ → Result Relation UnknownRelation → Type 0
Reads b r = MatchResult r (λ x. relation_at b ≡ Some x) (λ e. (relation_at b ≡ None) × (e.0 ≡ b))
