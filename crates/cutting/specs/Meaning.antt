-- The tokens that a script means from an offset on, and how they end. That they are those of the relation of cutting,
-- and the only ones, is among the laws.
use Rattle.std.specs.Prelude.{◌≡◌, ℕ, List, []}
use Rattle.cutting.specs.Cuts.{Span, Stop, Cuts}
use Rattle.cutting.specs.Whole.{whole}

-- the tokens from an offset on
pub spans : List ℕ → ℕ → List Span
spans xs at = (whole xs at).all

-- how they end
pub ending_at : List ℕ → ℕ → Stop
ending_at xs at = (whole xs at).stop

-- they are cut from the script
pub meant : (xs : List ℕ) (at : ℕ) → Cuts xs at (spans xs at) (ending_at xs at)
unfolding spans ending_at
meant xs at = (whole xs at).cuts

-- no token comes from an offset on, only an ending
abbrev pub Last : List ℕ → ℕ → Stop → Type 0
Last xs from s = (spans xs from ≡ []) × (ending_at xs from ≡ s)

-- two offsets from which the same tokens and the same ending come
pub record Same (xs : List ℕ) (a b : ℕ) : Type 0 where
  pub tokens : spans xs a ≡ spans xs b
  pub ending : ending_at xs a ≡ ending_at xs b
