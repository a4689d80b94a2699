-- A list and the length of the buffer determine the answer of next and what the buffer holds.
use Rattle.std.proofs.Common.{◌≡◌, ℕ, ◌-◌, ◌<◌, ◌⊎◌, List, ◌++◌, length, take, drop, replicate, Some, None, Ok, Err, sym, refl, ap, ◌∙◌, inl, inr, arith}
use Rattle.std.proofs.lemmas.List.{take-append-drop, length-take-le}
use Rattle.tokens.specs.declared.refusal.Refusal.{Refusal}
use Rattle.readings.specs.Order.{Before}
use Rattle.readings.proofs.Ordering.{before_irreflexive, before_transitive}
use Rattle.lister.specs.Least.{Least}
use Rattle.lister.specs.Next.{Blank, Found, Ended, TooLong, Determined}

-- there is one least reading after a list
pub least_same : (R : List ℕ → Type 0) (L r s : List ℕ) → Least R L r → Least R L s → r ≡ s
least_same R L r s a b = go (a.least s b.reading b.after) (b.least r a.reading a.after)
  where
    go : (s ≡ r) ⊎ Before r s → (r ≡ s) ⊎ Before s r → r ≡ s
    go (inl e) q = sym e
    go (inr p) (inl e) = e
    go (inr p) (inr q) = absurd (before_irreflexive r (before_transitive r s r p q))

blank_same : (b b' : List ℕ) → length b ≡ length b' → Blank b → Blank b' → b ≡ b'
blank_same b b' e x y = x ∙ ap (λ (k : ℕ). replicate k 0) e ∙ sym y

module _ (R : List ℕ → Type 0) (L b b' : List ℕ) (e : length b ≡ length b') where
  found_found : (n n' : ℕ) → Found R L b n → Found R L b' n' → (n ≡ n') × (b ≡ b')
  found_found n n' f g =
      let t : take n b ≡ take n' b' = least_same R L (take n b) (take n' b') f.least g.least in
      let k : n ≡ n' = sym (length-take-le n b f.room) ∙ ap length t ∙ length-take-le n' b' g.room in
      let m : length b - n ≡ length b' - n' = omega arith in
      let d : drop n b ≡ drop n' b' = f.zeros ∙ ap (λ (j : ℕ). replicate j 0) m ∙ sym g.zeros in
      (k, sym (take-append-drop n b) ∙ ap (λ (x : List ℕ). x ++ drop n b) t ∙ ap (λ (x : List ℕ). take n' b' ++ x) d ∙ take-append-drop n' b')

  found_ended : (n : ℕ) → Found R L b n → Ended R L b' → ⊥
  found_ended n f o = o.none (take n b) f.least.reading f.least.after

  found_long : (n : ℕ) (r : Refusal) → Found R L b n → TooLong R L b' r → ⊥
  found_long n r f o = go o.why
    where
      go : (length b' < length L) ⊎ ((x : List ℕ) × Least R L x × (length b' < length x)) → ⊥
      go (inl h) = omega (arith, f.fits)
      go (inr h) = omega (arith, h.2, ap length (least_same R L (take n b) h.0 f.least h.1), length-take-le n b f.room, f.room)

  ended_long : (r : Refusal) → Ended R L b → TooLong R L b' r → ⊥
  ended_long r o l = go l.why
    where
      go : (length b' < length L) ⊎ ((x : List ℕ) × Least R L x × (length b' < length x)) → ⊥
      go (inl h) = omega (arith, o.fits)
      go (inr h) = o.none h.0 h.1.reading h.1.after

pub determined : (R : List ℕ → Type 0) → Determined R
determined R L b b' (Ok (Some n)) (Ok (Some n')) e f g = let p = found_found R L b b' e n n' f g in (ap (λ (k : ℕ). Ok (Some k)) p.0, p.1)
determined R L b b' (Ok (Some n)) (Ok None) e f g = absurd (found_ended R L b b' e n f g)
determined R L b b' (Ok (Some n)) (Err r) e f g = absurd (found_long R L b b' e n r f g)
determined R L b b' (Ok None) (Ok (Some n)) e f g = absurd (found_ended R L b' b (sym e) n g f)
determined R L b b' (Ok None) (Ok None) e f g = (refl, blank_same b b' e f.blank g.blank)
determined R L b b' (Ok None) (Err r) e f g = absurd (ended_long R L b b' e r f g)
determined R L b b' (Err r) (Ok (Some n)) e f g = absurd (found_long R L b' b (sym e) n r g f)
determined R L b b' (Err r) (Ok None) e f g = absurd (ended_long R L b' b (sym e) r g f)
determined R L b b' (Err r) (Err r') e f g = (ap Err (f.refusal ∙ sym g.refusal), blank_same b b' e f.blank g.blank)
