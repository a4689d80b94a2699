-- A machine word as a set of the numbers 0 to 63, and so as a set of nonterminals.
use Rattle.std.specs.Prelude.{ℕ, ◌-◌, ◌/◌, ◌%◌, ◌^◌, Bool, ◌&&◌, ◌==◌, nat_le}

-- k is a member when its bit is 1
unfoldable pub has : ℕ → ℕ → Bool
has w k = w / 2 ^ k % 2 == 1

-- the symbol is a nonterminal of the set
abbrev pub in_set : ℕ → ℕ → Bool
in_set set a = (nat_le 256 a && nat_le a 319) && has set (a - 256)
