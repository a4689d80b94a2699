-- What a dialect holds: literal rows, rule rows, a start, and so a grammar.
use Rattle.std.specs.Prelude.{List, vec_items}
use Rattle.grammar.specs.Grammar.{Grammar}
use Rattle.rows.specs.declared.row.LiteralRow.{LiteralRow}
use Rattle.rows.specs.declared.row.RuleRow.{RuleRow}
use Rattle.rows.specs.Meaning.{grammar_of_rows}
use Rattle.dialect.specs.declared.dialect.Dialect.{Dialect}
use Rattle.dialect.specs.Faults.{Good}

abbrev pub literals_of : Dialect → List LiteralRow
literals_of d = vec_items d.literals

abbrev pub rules_of : Dialect → List RuleRow
rules_of d = vec_items d.rules

abbrev pub grammar_of : Dialect → Grammar
grammar_of d = grammar_of_rows (rules_of d) d.start

-- known symbols, a rule for each nonterminal that is named, no cycle
abbrev pub WellFormed : Dialect → Type 0
WellFormed d = Good (literals_of d) (rules_of d) d.start
