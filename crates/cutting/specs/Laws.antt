-- Laws of the tokens of a script.
use Rattle.std.specs.Prelude.{◌≡◌, ℕ, ◌+◌, ◌<◌, ◌≤◌, false, ◌⊎◌, List, [], ◌∷◌, ◌++◌, length, fold, ◌≢◌, slice_index}
use Rattle.lists.specs.Members.{◌∈◌}
use Rattle.cutting.specs.declared.fault.Fault.{Fault}
use Rattle.cutting.specs.declared.fault.Fault.TheVariants.{StrayByte, UnclosedText, FarColumn, LongScript}
use Rattle.cutting.specs.Columns.{past, column_at}
use Rattle.cutting.specs.Classes.{within}
use Rattle.cutting.specs.Cuts.{Span, Stop, end, fault, Cuts}
use Rattle.cutting.specs.Whole.{Whole}
use Rattle.cutting.specs.Meaning.{spans, ending_at}
use Rattle.cutting.specs.Shapes.{BlankByte, TokenByte, AllSound}

-- the same tokens and the same ending
abbrev pub Alike : List Span → List Span → Stop → Stop → Type 0
Alike ss us e f = (ss ≡ us) × (e ≡ f)

-- a script has exactly one list of tokens and one ending from each offset on
abbrev pub ExactlyOne : Type 0
ExactlyOne = (xs : List ℕ) (at : ℕ) → Whole xs at × ((ss us : List Span) (e f : Stop) → Cuts xs at ss e → Cuts xs at us f → Alike ss us e f)

-- and they are those that it means
abbrev pub Means : Type 0
Means = (xs : List ℕ) (at : ℕ) → Cuts xs at (spans xs at) (ending_at xs at)

-- only blanks and comments stand from a up to b; a comment runs from # to before the next line feed, or to the end
pub data Between (xs : List ℕ) : ℕ → ℕ → Type 0 where
  none : {a b : ℕ} → a ≡ b → Between xs a b
  blank : {a b : ℕ} → a < length xs → BlankByte (slice_index xs a) → Between xs (a + 1) b → Between xs a b
  comment : {a b : ℕ} (n : ℕ) → a + n < length xs → slice_index xs a ≡ 35 → ((k : ℕ) → k < n → slice_index xs (a + 1 + k) ≢ 10) → (a + 1 + n < length xs → slice_index xs (a + 1 + n) ≡ 10) → Between xs (a + 1 + n) b → Between xs a b

-- behind the last token only blanks and comments stand, up to the end or the fault
abbrev pub Reaches : List ℕ → ℕ → Stop → Type 0
Reaches xs a end = Between xs a (length xs)
Reaches xs a (fault (StrayByte p)) = Between xs a p
Reaches xs a (fault (UnclosedText p)) = Between xs a p
Reaches xs a (fault (FarColumn p)) = Between xs a p
Reaches xs a (fault LongScript) = Unit {0}

-- the tokens lie in the script one behind the other, and only blanks and comments stand between them and before the first
abbrev pub Laid : List ℕ → ℕ → List Span → Stop → Type 0
Laid xs a [] e = Reaches xs a e
Laid xs a (s ∷ ss) e = Between xs a s.place × (0 < s.size) × (s.place + s.size ≤ length xs) × Laid xs (s.place + s.size) ss e

abbrev pub Lays : Type 0
Lays = (xs : List ℕ) (a : ℕ) (ss : List Span) (e : Stop) → a ≤ length xs → Cuts xs a ss e → Laid xs a ss e

-- the tokens rise, and none lies over another
abbrev pub Rising : ℕ → List Span → Type 0
Rising a [] = Unit {0}
Rising a (s ∷ ss) = (a ≤ s.place) × Rising (s.place + s.size) ss

abbrev pub Rises : Type 0
Rises = (xs : List ℕ) (a : ℕ) (ss : List Span) (e : Stop) → Cuts xs a ss e → Rising a ss

-- each token has the shape of its class
abbrev pub Sounds : Type 0
Sounds = (xs : List ℕ) (a : ℕ) (ss : List Span) (e : Stop) → Cuts xs a ss e → AllSound xs ss

-- each quote behind p stands behind a line feed that is behind p too
abbrev pub Unclosed : List ℕ → ℕ → Type 0
Unclosed xs p = (k : ℕ) → p < k → k < length xs → slice_index xs k ≡ 34 → (j : ℕ) × (p < j) × (j < k) × (slice_index xs j ≡ 10)

-- what each fault says of the script
abbrev pub Faulty : List ℕ → Fault → Type 0
Faulty xs (StrayByte p) = (length xs ≤ 65536) × (p < length xs) × (within 33 126 (slice_index xs p) ≡ false) × (BlankByte (slice_index xs p) → ⊥)
Faulty xs (UnclosedText p) = (length xs ≤ 65536) × (p < length xs) × (column_at xs p ≤ 255) × (slice_index xs p ≡ 34) × Unclosed xs p
Faulty xs (FarColumn p) = (length xs ≤ 65536) × (p < length xs) × (255 < column_at xs p) × TokenByte (slice_index xs p)
Faulty xs LongScript = 65536 < length xs

-- and the end
abbrev pub Ended : List ℕ → Stop → Type 0
Ended xs end = length xs ≤ 65536
Ended xs (fault f) = Faulty xs f

-- each fault is true
abbrev pub Faults : Type 0
Faults = (xs : List ℕ) (a : ℕ) (ss : List Span) (e : Stop) → Cuts xs a ss e → Ended xs e

-- the laws of tokens from an offset on
pub record Lawful (xs : List ℕ) (a : ℕ) (ss : List Span) (e : Stop) : Type 0 where
  pub laid : Laid xs a ss e
  pub sound : AllSound xs ss
  pub ended : Ended xs e

-- they leave no choice: what obeys them is the list and the ending
abbrev pub Determined : Type 0
Determined = (xs : List ℕ) (a : ℕ) (ss : List Span) (e : Stop) → Lawful xs a ss e → Cuts xs a ss e

-- a line starts behind these bytes: they are none, or the last is a line feed
abbrev pub StartsLine : List ℕ → Type 0
StartsLine before = (before ≡ []) ⊎ ((front : List ℕ) × (before ≡ front ++ (10 ∷ [])))

-- a token's column is a function of the bytes before it on its line alone
abbrev pub ByLine : Type 0
ByLine = (before line behind : List ℕ) (a : ℕ) (ss : List Span) (e : Stop) (s : Span) → StartsLine before → Cuts (before ++ (line ++ behind)) a ss e → s ∈ ss → s.place ≡ length (before ++ line) → s.column ≡ fold past 0 line
