-- What a row of a dialect may hold.
use Rattle.std.specs.Prelude.{◌≡◌, ℕ, ◌+◌, ◌<◌, ◌≤◌, min, true, cond, ◌⊎◌, List, [], length, get_or, take, replicate, is_some, Some, None, Option, nat_lt, slice_index_or, slice_set}
use Rattle.indent.specs.Relations.{relation_at}
use Rattle.rows.specs.declared.row.LiteralRow.{LiteralRow}
use Rattle.rows.specs.declared.row.PlaceRow.{PlaceRow}
use Rattle.rows.specs.declared.row.RuleRow.{RuleRow}

-- what stands beyond the last row
abbrev pub no_literal : LiteralRow
no_literal = record { length = 0; bytes = [] }

abbrev pub no_place : PlaceRow
no_place = record { relation = 0; symbol = 0 }

abbrev pub no_rule : RuleRow
no_rule = record { left = 0; cost = 0; count = 0; places = [] }

-- a literal without bytes
abbrev pub no_spelling : LiteralRow
no_spelling = record { length = 0; bytes = replicate 32 0 }

-- one byte more of a spelling: 32 are stored, and up to 255 are counted
abbrev pub spelled : LiteralRow → ℕ → LiteralRow
spelled row b = record { length = min (row.length + 1) 255; bytes = cond (nat_lt row.length 32) (slice_set row.bytes row.length b) row.bytes }

-- a rule without places
abbrev pub no_places : ℕ → ℕ → RuleRow
no_places left cost = record { left = left; cost = cost; count = 0; places = replicate 6 no_place }

-- a rule with one place more: six are stored, and up to 255 are counted
abbrev pub placed : RuleRow → PlaceRow → RuleRow
placed row p = record { left = row.left; cost = row.cost; count = min (row.count + 1) 255; places = cond (nat_lt row.count 6) (slice_set row.places row.count p) row.places }

abbrev pub Nonterminal : ℕ → Type 0
Nonterminal s = (256 ≤ s) × (s ≤ 319)

-- a symbol of a dialect of n literals: word, number, text or mark, a literal that has its row, or a nonterminal
abbrev pub Known : ℕ → ℕ → Type 0
Known n s = ((1 ≤ s) × (s ≤ 4)) ⊎ (((16 ≤ s) × (s ≤ 79) × (s < 16 + n)) ⊎ Nonterminal s)

-- a place of a dialect of n literals: its byte is the character of a relation, and its symbol is known
pub record PlaceOk (n : ℕ) (p : PlaceRow) : Type 0 where
  pub relation : is_some (relation_at p.relation) ≡ true
  pub symbol : Known n p.symbol

-- a rule of a dialect of n literals
pub record RuleOk (n : ℕ) (r : RuleRow) : Type 0 where
  pub left : Nonterminal r.left
  pub cost : r.cost ≤ 10000
  pub count : r.count ≤ 6
  pub places : (k : ℕ) → k < r.count → PlaceOk n (slice_index_or r.places k no_place)

-- spelled alike: the counted bytes are the same
abbrev pub Alike : LiteralRow → LiteralRow → Type 0
Alike a b = (a.length ≡ b.length) × (take a.length a.bytes ≡ take a.length b.bytes)

-- the literal of row i has an allowed length, and no earlier one is spelled like it
pub record LiteralOk (literals : List LiteralRow) (i : ℕ) : Type 0 where
  pub some : 1 ≤ (get_or literals i no_literal).length
  pub few : (get_or literals i no_literal).length ≤ 32
  pub new : (j : ℕ) → j < i → Alike (slice_index_or literals i no_literal) (slice_index_or literals j no_literal) → ⊥

-- row i of the rules may stand in a dialect of n literals; the start is the row after the last
pub record RowOk (n : ℕ) (rules : List RuleRow) (start i : ℕ) : Type 0 where
  pub rule : i < length rules → RuleOk n (slice_index_or rules i no_rule)
  pub last : i ≡ length rules → Nonterminal start

-- the answer is the first row of n that is not as it should be, or all are
abbrev pub Finds : (ℕ → Type 0) → ℕ → Option ℕ → Type 0
Finds Ok n None = (i : ℕ) → i < n → Ok i
Finds Ok n (Some i) = (i < n) × (Ok i → ⊥) × ((k : ℕ) → k < i → Ok k)
