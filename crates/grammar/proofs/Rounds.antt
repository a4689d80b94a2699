-- Rounds that only ever add numbers of one list settle after as many rounds as the list is long.
use Rattle.std.proofs.Common.{◌≡◌, ℕ, zero, suc, ◌<◌, ◌≤◌, Bool, true, ◌⊎◌, List, length, inl, inr, arith}
use native.Mathlib.Decide.{dec_lt}
use Rattle.lists.specs.Members.{◌∈◌}
use Rattle.lists.specs.Tallies.{Under, tally}
use Rattle.lists.proofs.Tallies.{tally_all, tally_same}
use Rattle.grammar.specs.Rounds.{turns}

module _ (F : (ℕ → Bool) → ℕ → Bool) (mono : (f h : ℕ → Bool) → Under f h → Under (F f) (F h)) (ls : List ℕ) (held : (f : ℕ → Bool) (a : ℕ) → F f a ≡ true → a ∈ ls) where
  turns_grow : (n : ℕ) → Under (turns F n) (turns F (suc n))
  turns_grow zero a e = let z : ◌≡◌ {A = ℕ} 0 1 = cc in absurd (omega arith)
  turns_grow (suc n) a e = mono (turns F n) (turns F (suc n)) (turns_grow n) a e

  settles : (n : ℕ) → tally (turns F (suc n)) ls ≤ tally (turns F n) ls → Under (turns F (suc n)) (turns F n)
  settles n k a e = tally_same (turns F n) (turns F (suc n)) (held (turns F n) a e) (turns_grow n) k e

  turns_settle : (n : ℕ) → (n ≤ tally (turns F n) ls) ⊎ Under (turns F (suc n)) (turns F n)
  turns_settle zero = inl (omega arith)
  turns_settle (suc n) = go (turns_settle n) (dec_lt (tally (turns F n) ls) (tally (turns F (suc n)) ls))
    where
      go : (n ≤ tally (turns F n) ls) ⊎ Under (turns F (suc n)) (turns F n) → Dec (tally (turns F n) ls < tally (turns F (suc n)) ls) → (suc n ≤ tally (turns F (suc n)) ls) ⊎ Under (turns F (suc (suc n))) (turns F (suc n))
      go (inl k) (yes l) = inl (omega arith)
      go (inl k) (no l) = inr (mono (turns F (suc n)) (turns F n) (settles n (omega arith)))
      go (inr u) l = inr (mono (turns F (suc n)) (turns F n) u)

  -- after that many rounds, or more, a round adds nothing
  pub turns_settled : (n : ℕ) → length ls ≤ n → Under (F (turns F n)) (turns F n)
  turns_settled n b = go (turns_settle n)
    where
      go : (n ≤ tally (turns F n) ls) ⊎ Under (turns F (suc n)) (turns F n) → Under (turns F (suc n)) (turns F n)
      go (inl k) = settles n (omega (arith, tally_all (turns F (suc n)) ls))
      go (inr u) = u
