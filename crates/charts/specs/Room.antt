-- How many items a chart can have.
use Rattle.std.specs.Prelude.{◌≡◌, ℕ, suc, ◌*◌, ◌<◌, List, length, Some}
use Rattle.tokens.specs.declared.token.Token.{Token}
use Rattle.lists.specs.Entries.{nth}
use Rattle.grammar.specs.Grammar.{Grammar, Rule}

-- the room for items: so many rules, dots, beginnings and ends, and summaries of numbers below c
abbrev pub room : ℕ → ℕ → ℕ → ℕ → ℕ → ℕ
room rules dots starts c ends = rules * (dots * (starts * (ends * suc (c * 2))))

-- every column of the tokens is below c
abbrev pub Columns : ℕ → List Token → Type 0
Columns c ts = (i : ℕ) (t : Token) → nth ts i ≡ Some t → t.column < c

-- every rule has fewer than n places
abbrev pub Places : ℕ → Grammar → Type 0
Places n g = (r : ℕ) (p : Rule) → nth g.rules r ≡ Some p → length p.places < n
