-- Numbers in a line: decimal digits without a sign, of any length.
use Rattle.std.specs.Prelude.{ℕ, ◌+◌, ◌-◌, ◌*◌, Bool, true, cond, ◌&&◌, List, [], ◌∷◌, length, Some, None, fold, Option, nat_le, nat_lt}

abbrev pub digit : ℕ → Bool
digit b = nat_le 48 b && nat_le b 57

abbrev pub digits : List ℕ → Bool
digits [] = true
digits (b ∷ xs) = digit b && digits xs

-- the value of digits behind a number n
abbrev pub grown : ℕ → ℕ → ℕ
grown n b = n * 10 + (b - 48)

-- the same, where the byte is a digit and the number is at most `most`
abbrev pub longer : ℕ → ℕ → ℕ → Option ℕ
longer most n b = cond (digit b && nat_le (grown n b) most) (Some (grown n b)) None

abbrev pub value : List ℕ → ℕ
value xs = fold grown 0 xs

-- the number that a word is, where it is one and at most `most`
abbrev pub numeral : ℕ → List ℕ → Option ℕ
numeral most xs = cond (nat_lt 0 (length xs) && (digits xs && nat_le (value xs) most)) (Some (value xs)) None
