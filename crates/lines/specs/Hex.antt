-- Bytes in a line: an even number of hexadecimal digits of either case.
use Rattle.std.specs.Prelude.{◌≡◌, ℕ, ◌+◌, ◌-◌, ◌*◌, Bool, cond, ◌&&◌, List, [], ◌∷◌, Some, None, Ok, Err, vec_items, Option, Result, Vec, nat_le}
use Rattle.std.specs.declared.alloc.Global.{Global}
use Rattle.std.specs.declared.alloc.AllocError.{AllocError}

abbrev pub between : ℕ → ℕ → ℕ → Bool
between a z b = nat_le a b && nat_le b z

-- the value of one digit: 0 to 9, a to f, A to F
abbrev pub nibble : ℕ → Option ℕ
nibble b = cond (between 48 57 b) (Some (b - 48)) (cond (between 97 102 b) (Some (b - 97 + 10)) (cond (between 65 70 b) (Some (b - 65 + 10)) None))

abbrev pub low : ℕ → Option ℕ → Option ℕ
low h None = None
low h (Some l) = Some (h * 16 + l)

abbrev pub high : Option ℕ → Option ℕ → Option ℕ
high None l = None
high (Some h) l = low h l

-- the byte that two digits are
abbrev pub pair : ℕ → ℕ → Option ℕ
pair a b = high (nibble a) (nibble b)

abbrev pub behind : Option ℕ → Option (List ℕ) → Option (List ℕ)
behind None xs = None
behind (Some b) None = None
behind (Some b) (Some xs) = Some (b ∷ xs)

-- the bytes of a word, if it is an even number of digits
abbrev pub bytes : List ℕ → Option (List ℕ)
bytes [] = Some []
bytes (a ∷ []) = None
bytes (a ∷ b ∷ xs) = behind (pair a b) (bytes xs)

-- the answer of reading bytes: these bytes, or none where there are none, unless there is no memory for them
abbrev pub HexAnswers : Option (List ℕ) → Result (Option (Vec ℕ Global)) AllocError → Type 0
HexAnswers a (Ok None) = a ≡ None
HexAnswers a (Ok (Some v)) = a ≡ Some (vec_items v)
HexAnswers a (Err e) = Unit {0}
