-- The writer's turns: behind p, which was walked, the first n of rest are written, and the rule comes next.
use Rattle.std.proofs.Common.{◌≡◌, ℕ, ◌+◌, ◌-◌, ◌<◌, ◌≤◌, List, [], ◌∷◌, ◌++◌, length, take, drop, set, replicate, sym, ap, ◌∙◌, subst, arith}
use Rattle.std.proofs.lemmas.List.{append_assoc, append-nil, take_more_set, take_all, drop-set-lt, drop-drop, drop-replicate, length-append, length-set, length-replicate, length-take-le}
use Rattle.lister.specs.Least.{Lawful, Continues, First}
use Rattle.lister.specs.Cursors.{Lowest, Nowhere}
use Rattle.lister.specs.Branches.{Completed}
use Rattle.lister.proofs.Firsts.{Toward, toward_start, toward_more, toward_whole, toward_first, first_exists, never_stuck}

-- the cursor, at the prefixes of At, is behind what is written; first is the entry that was begun with
pub record Turn (R At : List ℕ → Type 0) (p : List ℕ) (first : ℕ) (rest : List ℕ) (n rule : ℕ) : Type 0 where
  pub there : At (p ++ take n rest)
  pub toward : Toward R (p ++ first ∷ []) ((p ++ take n rest) ++ rule ∷ [])
  pub zeros : drop n rest ≡ replicate (length rest - n) 0

-- what is written is shorter than the room
pub shorter : (p rest : List ℕ) (n room : ℕ) → n < length rest → length p + length rest ≤ room → length (p ++ take n rest) < room
shorter p rest n room h l = omega (arith, length-append p (take n rest), length-take-le n rest (omega arith))

module _ (R : List ℕ → Type 0) (p : List ℕ) (first : ℕ) where
  pub turn_start : (At : List ℕ → Type 0) (rest : List ℕ) (k : ℕ) → At p → rest ≡ replicate k 0 → Continues R (p ++ first ∷ []) → Turn R At p first rest 0 first
  turn_start At rest k a e y =
      let q : p ++ [] ≡ p = append-nil p in
      let l : length rest - 0 ≡ k = omega (arith, ap length e, length-replicate {A = ℕ} k 0) in
      record {
        there = subst At (sym q) a;
        toward = subst (λ (t : List ℕ). Toward R (p ++ first ∷ []) (t ++ first ∷ [])) (sym q) (toward_start R (p ++ first ∷ []) y);
        zeros = e ∙ ap (λ (m : ℕ). replicate m 0) (sym l);
      }

  -- what is written with the rule
  written : (rest : List ℕ) (n rule : ℕ) → n < length rest → p ++ take (n + 1) (set rest n rule) ≡ (p ++ take n rest) ++ rule ∷ []
  written rest n rule h = ap (λ (t : List ℕ). p ++ t) (take_more_set rest n rule h) ∙ sym (append_assoc p (take n rest) (rule ∷ []))

  zeros_more : (rest : List ℕ) (n rule : ℕ) → drop n rest ≡ replicate (length rest - n) 0 → drop (n + 1) (set rest n rule) ≡ replicate (length (set rest n rule) - (n + 1)) 0
  zeros_more rest n rule e =
      let l = length-set rest n rule in
      drop-set-lt (n + 1) rest n rule (omega arith) ∙ sym (drop-drop 1 n rest) ∙ ap (drop 1) e ∙ drop-replicate 1 (length rest - n) 0 ∙ ap (λ (k : ℕ). replicate k 0) (omega arith)

  pub turn_more : (At At' : List ℕ → Type 0) (rest : List ℕ) (n rule v : ℕ) → n < length rest → Turn R At p first rest n rule → At' ((p ++ take n rest) ++ rule ∷ []) → (R ((p ++ take n rest) ++ rule ∷ []) → ⊥) → Lowest R ((p ++ take n rest) ++ rule ∷ []) 0 v → Turn R At' p first (set rest n rule) (n + 1) v
  turn_more At At' rest n rule v h t a not w =
      let e = sym (written rest n rule h) in
      record {
        there = subst At' e a;
        toward = subst (λ (u : List ℕ). Toward R (p ++ first ∷ []) (u ++ v ∷ [])) e (toward_more R (p ++ first ∷ []) ((p ++ take n rest) ++ rule ∷ []) v t.toward not w);
        zeros = zeros_more rest n rule t.zeros;
      }

  pub turn_whole : (At : List ℕ → Type 0) (rest : List ℕ) (n rule : ℕ) → Lawful R → n < length rest → Turn R At p first rest n rule → R ((p ++ take n rest) ++ rule ∷ []) → Completed R p first (set rest n rule) (n + 1)
  turn_whole At rest n rule law h t r =
      let l = length-set rest n rule in
      record {
        room = omega arith;
        first = subst (λ (u : List ℕ). First R (p ++ first ∷ []) u) (sym (written rest n rule h)) (toward_whole R (p ++ first ∷ []) ((p ++ take n rest) ++ rule ∷ []) law t.toward r);
        zeros = zeros_more rest n rule t.zeros;
      }

  -- what was walked goes on, or is whole
  pub turn_goes_on : (At : List ℕ → Type 0) (rest : List ℕ) (n rule : ℕ) → Turn R At p first rest n rule → (R ((p ++ take n rest) ++ rule ∷ []) → ⊥) → Nowhere R ((p ++ take n rest) ++ rule ∷ []) 0 → ⊥
  turn_goes_on At rest n rule t not none = never_stuck R ((p ++ take n rest) ++ rule ∷ []) t.toward.continues not none

  -- where rest ends first
  pub turn_full : (At : List ℕ → Type 0) (rest : List ℕ) (n rule : ℕ) → Lawful R → length rest ≤ n → Turn R At p first rest n rule → Continues R (p ++ first ∷ []) → (r : List ℕ) × First R (p ++ first ∷ []) r × (length p + length rest < length r)
  turn_full At rest n rule law h t y =
      let f = first_exists R (p ++ first ∷ []) law y in
      let b = toward_first R (p ++ first ∷ []) ((p ++ take n rest) ++ rule ∷ []) f.0 t.toward f.1 in
      let e : take n rest ≡ rest = take_all n rest h in
      let l : length ((p ++ take n rest) ++ rule ∷ []) ≡ length p + length rest + 1 =
      length-append (p ++ take n rest) (rule ∷ []) ∙ ap (λ (k : ℕ). k + 1) (length-append p (take n rest) ∙ ap (λ (u : List ℕ). length p + length u) e) in
      let m : length f.0 ≡ length ((p ++ take n rest) ++ rule ∷ []) + length b.0 = ap length b.1 ∙ length-append ((p ++ take n rest) ++ rule ∷ []) b.0 in
      (f.0, f.1, omega arith)
