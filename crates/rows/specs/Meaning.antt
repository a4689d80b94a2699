-- The rows of a dialect as a grammar.
use Rattle.std.specs.Prelude.{ℕ, List, map, take, Some, None, Option}
use Rattle.indent.specs.declared.relation.Relation.{Relation}
use Rattle.indent.specs.declared.relation.Relation.TheVariants.{Any}
use Rattle.indent.specs.Relations.{relation_at}
use Rattle.grammar.specs.Grammar.{Place, Rule, Grammar}
use Rattle.rows.specs.declared.row.PlaceRow.{PlaceRow}
use Rattle.rows.specs.declared.row.RuleRow.{RuleRow}

-- a byte that is no relation's character is refused, so what stands for it here plays no part
abbrev pub or_any : Option Relation → Relation
or_any (Some r) = r
or_any None = Any

abbrev pub place_of : PlaceRow → Place
place_of p = record { relation = or_any (relation_at p.relation); symbol = p.symbol }

-- only the counted places are looked at
abbrev pub rule_of : RuleRow → Rule
rule_of r = record { left = r.left; cost = r.cost; places = map place_of (take r.count r.places) }

abbrev pub grammar_of_rows : List RuleRow → ℕ → Grammar
grammar_of_rows rules start = record { rules = map rule_of rules; start = start }
