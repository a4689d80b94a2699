-- Listings: next is called, and each answer is handed back, until it says that there is no more.
use Rattle.std.specs.Prelude.{◌≡◌, ℕ, ◌-◌, ◌<◌, ◌≤◌, ◌⊎◌, List, [], ◌∷◌, length, take, Some, None, Ok, slice_index_or}
use Rattle.tokens.specs.declared.refusal.Refusal.{Refusal}
use Rattle.tokens.specs.declared.refusal.Refusal.TheVariants.{LongList, NoMemory}
use Rattle.lists.specs.Members.{◌∈◌}
use Rattle.lists.specs.Exactly.{Exactly}
use Rattle.readings.specs.Order.{Before}
use Rattle.lister.specs.Next.{Answered}

-- the answers after L, then after each answer, and at last the end; each call may have a buffer of its own
pub data Listing (R : List ℕ → Type 0) : List ℕ → List (List ℕ) → Type 0 where
  ends : {L : List ℕ} (buffer : List ℕ) → Answered R L buffer (Ok None) → Listing R L []
  goes : {L r : List ℕ} {rs : List (List ℕ)} (buffer : List ℕ) (n : ℕ) → Answered R L buffer (Ok (Some n)) → r ≡ take n buffer → Listing R r rs → Listing R L (r ∷ rs)

-- each before all that follow
abbrev pub Rising : List (List ℕ) → Type 0
Rising [] = Unit {0}
Rising (r ∷ rs) = ((x : List ℕ) → x ∈ rs → Before r x) × Rising rs

-- rs are exactly the readings, each once, in rising order
pub record Lists (R : List ℕ → Type 0) (rs : List (List ℕ)) : Type 0 where
  pub exactly : Exactly R rs
  pub rising : Rising rs

-- what is listed from the empty list on: every listing is that of exactly the readings, there is only one, and there is one
pub record Law (R : List ℕ → Type 0) : Type 0 where
  pub exact : (rs : List (List ℕ)) → Listing R [] rs → Lists R rs
  pub single : (rs ss : List (List ℕ)) → Listing R [] rs → Listing R [] ss → rs ≡ ss
  pub exists : (rs : List (List ℕ)) × Listing R [] rs

-- the last of the lists, or the empty list
abbrev pub last : List (List ℕ) → List ℕ
last rs = slice_index_or rs (length rs - 1) []

-- rs is the list of the readings, none of which is longer than size
pub record Collects (R : List ℕ → Type 0) (size : ℕ) (rs : List (List ℕ)) : Type 0 where
  pub lists : Lists R rs
  pub short : (x : List ℕ) → x ∈ rs → length x ≤ size

-- why they were not collected: there is no memory, or some reading is longer than size
abbrev pub Uncollected : (List ℕ → Type 0) → ℕ → Refusal → Type 0
Uncollected R size e = (e ≡ NoMemory) ⊎ ((e ≡ LongList) × ((x : List ℕ) × R x × (size < length x)))
