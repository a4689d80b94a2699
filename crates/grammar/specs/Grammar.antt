-- A grammar with indentation relations: rules, numbered from 0 in their order, and a start symbol.
use Rattle.std.specs.Prelude.{ℕ, List}
use Rattle.indent.specs.declared.relation.Relation.{Relation}

-- a place: one symbol on the right side of a rule, with the relation between the child's number and the parent's
pub record Place : Type 0 where
  pub relation : Relation
  pub symbol : ℕ

pub record Rule : Type 0 where
  pub left : ℕ
  pub cost : ℕ
  pub places : List Place

pub record Grammar : Type 0 where
  pub rules : List Rule
  pub start : ℕ
