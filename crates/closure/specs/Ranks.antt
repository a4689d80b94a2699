-- The rank of a symbol: what falls along every step of a grammar without a cycle.
use Rattle.std.specs.Prelude.{◌≡◌, ℕ, suc, ◌-◌, cond, ◌&&◌, List, nat_le, slice_index}
use Rattle.lists.specs.Tallies.{tally, up_from}
use Rattle.grammar.specs.Grammar.{Grammar}
use Rattle.grammar.specs.Reaching.{reaches}
use Rattle.rows.specs.declared.row.RuleRow.{RuleRow}
use Rattle.rows.specs.Meaning.{grammar_of_rows}
use Rattle.rows.specs.Rows.{Nonterminal}

-- how many nonterminals, 256 to 319, a symbol gets to in one step or more
unfoldable pub reached : Grammar → ℕ → ℕ
reached g a = tally (reaches g a) (up_from 256 64)

-- that and one more for a nonterminal; a terminal has the rank 0
abbrev pub rank : Grammar → ℕ → ℕ
rank g a = cond (nat_le 256 a && nat_le a 319) (suc (reached g a)) 0

-- the table has how many nonterminals each nonterminal gets to, whatever the start
abbrev pub RankTable : List RuleRow → List ℕ → Type 0
RankTable rules table = (start a : ℕ) → Nonterminal a → slice_index table (a - 256) ≡ reached (grammar_of_rows rules start) a
