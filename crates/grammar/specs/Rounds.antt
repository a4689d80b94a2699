-- A set of numbers, made in rounds: each round has what the one before allows.
use Rattle.std.specs.Prelude.{ℕ, zero, suc, Bool, false}

abbrev pub turns : ((ℕ → Bool) → ℕ → Bool) → ℕ → ℕ → Bool
turns F zero a = false
turns F (suc n) a = F (turns F n) a
