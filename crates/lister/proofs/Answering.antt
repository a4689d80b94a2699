-- The answer of next: the kept entries of the list, and behind them what the writer left in the rest.
use Rattle.std.proofs.Common.{◌≡◌, ℕ, ◌+◌, ◌<◌, ◌≤◌, List, [], ◌∷◌, ◌++◌, length, take, drop, replicate, sym, refl, ap, ◌∙◌, subst, inr, arith}
use lib.Seq.{take-append-add, drop-append-add}
use Rattle.std.proofs.lemmas.List.{length-append, length-take-le, length-replicate}
use Rattle.tokens.specs.declared.refusal.Refusal.TheVariants.{LongList}
use Rattle.lister.specs.Least.{Least, First}
use Rattle.lister.specs.Branches.{Leads, Completed}
use Rattle.lister.specs.Next.{Blank, Found, TooLong}

pub blank : (buffer : List ℕ) (n : ℕ) → buffer ≡ replicate n 0 → Blank buffer
blank buffer n e = e ∙ ap (λ (k : ℕ). replicate k 0) (sym (length-replicate n 0) ∙ ap length (sym e))

module _ (R : List ℕ → Type 0) (L : List ℕ) (at rule : ℕ) (inside : at ≤ length L) (leads : Leads R L (take at L ++ rule ∷ [])) where
  kept_length : length (take at L) ≡ at
  kept_length = length-take-le at L inside

  module _ (buffer part : List ℕ) (e : buffer ≡ take at L ++ part) where
    buffer_length : length buffer ≡ at + length part
    buffer_length = ap length e ∙ length-append (take at L) part ∙ ap (λ (k : ℕ). k + length part) kept_length

    pub answer_found : (n : ℕ) → length L ≤ at + length part → Completed R (take at L) rule part n → Found R L buffer (at + n)
    answer_found n fits s =
        let k : length (take at L) + n ≡ at + n = ap (λ (k : ℕ). k + n) kept_length in
        let t : take (at + n) buffer ≡ take at L ++ take n part =
        ap (take (at + n)) e ∙ ap (λ (m : ℕ). take m (take at L ++ part)) (sym k) ∙ take-append-add (take at L) part n in
        let d : drop (at + n) buffer ≡ drop n part =
        ap (drop (at + n)) e ∙ ap (λ (m : ℕ). drop m (take at L ++ part)) (sym k) ∙ drop-append-add (take at L) part n in
        record {
          fits = omega (arith, buffer_length);
          room = omega (arith, s.room, buffer_length);
          least = subst (λ (r : List ℕ). Least R L r) (sym t) (leads.least _ s.first);
          zeros = d ∙ s.zeros ∙ ap (λ (m : ℕ). replicate m 0) (omega (arith, buffer_length));
        }

    pub answer_long : (r : List ℕ) × First R (take at L ++ rule ∷ []) r × (length (take at L) + length part < length r) → TooLong R L (replicate (length buffer) 0) LongList
    answer_long f = record {
      refusal = refl;
      why = inr (f.0, leads.least f.0 f.1, omega (arith, kept_length, buffer_length, f.2, length-replicate {A = ℕ} (length buffer) 0));
      blank = blank _ _ refl;
    }
