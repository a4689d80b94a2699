-- The classes of bytes, and which classes go on in a word, in a number and in a comment.
use Rattle.std.specs.Prelude.{ℕ, Bool, true, false, cond, ◌&&◌, ◌||◌, ◌==◌, nat_le}
use Rattle.cutting.specs.declared.class.Class.{Class}
use Rattle.cutting.specs.declared.class.Class.TheVariants.{Blank, Line, Hash, Letter, Digit, Quote, Sign, Other}

abbrev pub within : ℕ → ℕ → ℕ → Bool
within a z b = nat_le a b && nat_le b z

-- A to Z, a to z, or _
abbrev pub letter : ℕ → Bool
letter b = within 65 90 b || (within 97 122 b || b == 95)

-- 0 to 9
abbrev pub digit : ℕ → Bool
digit b = within 48 57 b

-- the class of a byte: space, tab and carriage return are blanks, 10 is the line feed, 35 is #, 34 is the quote
abbrev pub classed : ℕ → Class
classed b =
    cond (b == 32 || (b == 9 || b == 13)) Blank
    (cond (b == 10) Line
    (cond (b == 35) Hash
    (cond (letter b) Letter
    (cond (digit b) Digit
    (cond (b == 34) Quote
    (cond (within 33 126 b) Sign Other))))))

-- what divides tokens: blanks and line feeds
abbrev pub divides : Class → Bool
divides Blank = true
divides Line = true
divides Hash = false
divides Letter = false
divides Digit = false
divides Quote = false
divides Sign = false
divides Other = false

-- what goes on in a word
abbrev pub wordy : Class → Bool
wordy Blank = false
wordy Line = false
wordy Hash = false
wordy Letter = true
wordy Digit = true
wordy Quote = false
wordy Sign = false
wordy Other = false

-- what goes on in a number
abbrev pub digital : Class → Bool
digital Blank = false
digital Line = false
digital Hash = false
digital Letter = false
digital Digit = true
digital Quote = false
digital Sign = false
digital Other = false

-- what goes on in a comment: all but a line feed
abbrev pub on_line : Class → Bool
on_line Blank = true
on_line Line = false
on_line Hash = true
on_line Letter = true
on_line Digit = true
on_line Quote = true
on_line Sign = true
on_line Other = true
