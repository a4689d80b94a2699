-- What next answers: the least reading after a list, or that there is none, or a refusal.
use Rattle.std.specs.Prelude.{◌≡◌, ℕ, ◌-◌, ◌<◌, ◌≤◌, ◌⊎◌, List, length, take, drop, replicate, Some, None, Ok, Err, Option, Result}
use Rattle.tokens.specs.declared.refusal.Refusal.{Refusal}
use Rattle.tokens.specs.declared.refusal.Refusal.TheVariants.{LongList}
use Rattle.lister.specs.Least.{Last, Least}

-- all zeros
abbrev pub Blank : List ℕ → Type 0
Blank buffer = buffer ≡ replicate (length buffer) 0

-- the first n of the buffer are the least reading after L, and zeros are behind them
pub record Found (R : List ℕ → Type 0) (L buffer : List ℕ) (n : ℕ) : Type 0 where
  pub fits : length L ≤ length buffer
  pub room : n ≤ length buffer
  pub least : Least R L (take n buffer)
  pub zeros : drop n buffer ≡ replicate (length buffer - n) 0

-- no reading is after L
pub record Ended (R : List ℕ → Type 0) (L buffer : List ℕ) : Type 0 where
  pub fits : length L ≤ length buffer
  pub none : Last R L
  pub blank : Blank buffer

-- L, or the least reading after it, is longer than the buffer
pub record TooLong (R : List ℕ → Type 0) (L buffer : List ℕ) (e : Refusal) : Type 0 where
  pub refusal : e ≡ LongList
  pub why : (length buffer < length L) ⊎ ((r : List ℕ) × Least R L r × (length buffer < length r))
  pub blank : Blank buffer

abbrev pub Answered : (List ℕ → Type 0) → List ℕ → List ℕ → Result (Option ℕ) Refusal → Type 0
Answered R L buffer (Ok (Some n)) = Found R L buffer n
Answered R L buffer (Ok None) = Ended R L buffer
Answered R L buffer (Err e) = TooLong R L buffer e

-- the buffer with zeros in it where nothing is answered
abbrev pub cleared : Result (Option ℕ) Refusal → List ℕ → List ℕ
cleared (Ok (Some n)) buffer = buffer
cleared (Ok None) buffer = replicate (length buffer) 0
cleared (Err e) buffer = replicate (length buffer) 0

-- a length that is answered is at most the buffer's
abbrev pub Within : ℕ → Result (Option ℕ) Refusal → Type 0
Within size (Ok (Some n)) = n ≤ size
Within size (Ok None) = Unit {0}
Within size (Err e) = Unit {0}

-- for each list and length of the buffer there is at most one answer, and one content of the buffer
abbrev pub Determined : (List ℕ → Type 0) → Type 0
Determined R = (L buffer buffer' : List ℕ) (r r' : Result (Option ℕ) Refusal) → length buffer ≡ length buffer' → Answered R L buffer r → Answered R L buffer' r' → (r ≡ r') × (buffer ≡ buffer')
