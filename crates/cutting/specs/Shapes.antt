-- The shape that a token of each class has, in plain words.
use Rattle.std.specs.Prelude.{◌≡◌, ℕ, ◌+◌, ◌-◌, ◌<◌, ◌≤◌, true, false, ◌||◌, ◌⊎◌, List, [], ◌∷◌, length, ◌≢◌, slice_index, slice_index_or}
use Rattle.cutting.specs.Columns.{column_at}
use Rattle.cutting.specs.Classes.{within, letter, digit}
use Rattle.cutting.specs.Cuts.{Span}
use Rattle.cutting.specs.Starts.{TokenClass, word, number, text, mark}

-- the bytes that divide tokens: space, tab, line feed, carriage return
abbrev pub BlankByte : ℕ → Type 0
BlankByte b = (b ≡ 32) ⊎ ((b ≡ 9) ⊎ ((b ≡ 10) ⊎ (b ≡ 13)))

-- the bytes that start a token: 33 to 126, but not #
abbrev pub TokenByte : ℕ → Type 0
TokenByte b = (within 33 126 b ≡ true) × (b ≢ 35)

-- a word of n bytes at a: a letter or _, and all letters, digits and _ that follow
pub record IsWord (xs : List ℕ) (a n : ℕ) : Type 0 where
  pub first : letter (slice_index xs a) ≡ true
  pub all : (k : ℕ) → k < n → (letter (slice_index xs (a + k)) || digit (slice_index xs (a + k))) ≡ true
  pub whole : a + n < length xs → (letter (slice_index xs (a + n)) || digit (slice_index xs (a + n))) ≡ false

-- a number: a run of digits that no digit follows
pub record IsNumber (xs : List ℕ) (a n : ℕ) : Type 0 where
  pub all : (k : ℕ) → k < n → digit (slice_index xs (a + k)) ≡ true
  pub whole : a + n < length xs → digit (slice_index xs (a + n)) ≡ false

-- a text: from a quote to the next one on its line, both included
pub record IsText (xs : List ℕ) (a n : ℕ) : Type 0 where
  pub two : 2 ≤ n
  pub opens : slice_index_or xs a 0 ≡ 34
  pub closes : slice_index_or xs (a + (n - 1)) 0 ≡ 34
  pub inside : (k : ℕ) → 0 < k → k < n - 1 → (slice_index xs (a + k) ≢ 34) × (slice_index xs (a + k) ≢ 10)

-- a mark: one byte from 33 to 126 that starts none of these, nor a comment
pub record IsMark (xs : List ℕ) (a n : ℕ) : Type 0 where
  pub one : n ≡ 1
  pub seen : within 33 126 (slice_index xs a) ≡ true
  pub no_letter : letter (slice_index xs a) ≡ false
  pub no_digit : digit (slice_index xs a) ≡ false
  pub no_quote : slice_index_or xs a 0 ≡ 34 → ⊥
  pub no_hash : slice_index_or xs a 0 ≡ 35 → ⊥

abbrev pub Shaped : List ℕ → TokenClass → ℕ → ℕ → Type 0
Shaped xs word a n = IsWord xs a n
Shaped xs number a n = IsNumber xs a n
Shaped xs text a n = IsText xs a n
Shaped xs mark a n = IsMark xs a n

-- a token has the shape of its class and stands at its own column, which is at most 255, in a script of at most
-- 65,536 bytes
pub record Sound (xs : List ℕ) (s : Span) : Type 0 where
  pub short : length xs ≤ 65536
  pub shape : Shaped xs s.class s.place s.size
  pub column : s.column ≡ column_at xs s.place
  pub low : s.column ≤ 255

abbrev pub AllSound : List ℕ → List Span → Type 0
AllSound xs [] = Unit {0}
AllSound xs (s ∷ ss) = Sound xs s × AllSound xs ss
