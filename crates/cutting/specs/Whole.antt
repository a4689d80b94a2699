-- Every script has tokens and an ending, from every offset on: each step uses up at least one byte that is there.
use Rattle.std.specs.Prelude.{◌≡◌, ℕ, zero, suc, ◌+◌, ◌-◌, ◌<◌, ◌≤◌, Bool, true, false, cond, ◌⊎◌, List, [], ◌∷◌, length, drop, Some, None, Option, ◌==◌, ◌≢◌, nat_le, nat_lt, slice_index, refl}
use Rattle.std.proofs.Common.{sym, ap, ◌∙◌, inl, inr, arith, length-drop}
use Rattle.std.specs.List.{prefix_len}
use Rattle.std.proofs.lemmas.List.Sums.{prefix_len-le-length}
use Rattle.std.proofs.lemmas.List.{get_or_past}
use Rattle.std.proofs.lemmas.Bool.{cases_lt, eqb-true, leb-true, ltb-false}
use Rattle.cutting.specs.declared.class.Class.{Class}
use Rattle.cutting.specs.declared.class.Class.TheVariants.{Blank, Line, Hash, Letter, Digit, Quote, Sign, Other}
use Rattle.cutting.specs.declared.fault.Fault.{Fault}
use Rattle.cutting.specs.declared.fault.Fault.TheVariants.{UnclosedText, FarColumn, LongScript}
use Rattle.cutting.specs.Columns.{column_at}
use Rattle.cutting.specs.Classes.{classed, wordy, digital, on_line}
use Rattle.cutting.specs.Starts.{TokenClass, Start, nothing, gap, token, unclosed, stray, plain, closed, text_of, begins, start_of}
use Rattle.cutting.specs.Cuts.{Step, stops, skips, takes, fails, placed, step, Span, Stop, end, fault, Cuts, ends, breaks, skip, cut}

-- how many bytes are used up
abbrev pub used : Start → ℕ
used nothing = 1
used (gap n) = n
used (token c n) = n
used unclosed = 1
used stray = 1

abbrev pub Fitting : ℕ → ℕ → Type 0
Fitting n m = (0 < n) × (n ≤ m)

pub some_cond : (t : Bool) (m n : ℕ) → cond t (Some m) None ≡ Some n → (t ≡ true) × (m ≡ n)
some_cond true m n e = (refl, cc)
some_cond false m n e = cc

closed_fits : (xs : List ℕ) (n : ℕ) → closed xs ≡ Some n → n < length xs
closed_fits xs n e = go (some_cond (slice_index xs (prefix_len plain xs) == 34) (prefix_len plain xs) n e) (cases_lt (prefix_len plain xs) (length xs))
  where
    go : ((slice_index xs (prefix_len plain xs) == 34) ≡ true) × (prefix_len plain xs ≡ n) → (prefix_len plain xs < length xs) ⊎ (length xs ≤ prefix_len plain xs) → n < length xs
    go q (inl h) = omega arith
    go q (inr h) = let z = get_or_past xs (prefix_len plain xs) 0 h in omega (arith, eqb-true _ _ q.0)

begins_fits : (c : Class) (xs : List ℕ) → Fitting (used (begins c xs)) (1 + length xs)
begins_fits Blank xs = omega arith
begins_fits Line xs = omega arith
begins_fits Hash xs = omega (arith, prefix_len-le-length (λ b. on_line (classed b)) xs)
begins_fits Letter xs = omega (arith, prefix_len-le-length (λ b. wordy (classed b)) xs)
begins_fits Digit xs = omega (arith, prefix_len-le-length (λ b. digital (classed b)) xs)
begins_fits Quote xs = go (closed xs) refl
  where
    go : (o : Option ℕ) → closed xs ≡ o → Fitting (used (text_of o)) (1 + length xs)
    go None e = omega arith
    go (Some n) e = omega (arith, closed_fits xs n e)
begins_fits Sign xs = omega arith
begins_fits Other xs = omega arith

start_fits : (xs : List ℕ) → 0 < length xs → Fitting (used (start_of xs)) (length xs)
start_fits [] h = omega arith
start_fits (b ∷ xs) h = omega (arith, begins_fits (classed b) xs)

-- what begins at an offset uses up at least one byte, and none that is not there
pub start_past : (xs : List ℕ) (at : ℕ) (f : Start) → start_of (drop at xs) ≡ f → (f ≢ nothing) → Fitting (used f) (length xs - at)
start_past xs at f e d = go (drop at xs) refl
  where
    go : (ys : List ℕ) → drop at xs ≡ ys → Fitting (used f) (length xs - at)
    go [] q = absurd (d (sym e ∙ ap start_of q))
    go (y ∷ ys) q =
        let l = sym (length-drop at xs) ∙ ap length q in
        let u : used f ≡ used (start_of (y ∷ ys)) = ap used (sym e ∙ ap start_of q) in
        omega (arith, start_fits (y ∷ ys) (omega arith))

fails_skips : (n : ℕ) (f : Fault) → fails f ≢ skips n
fails_skips n f e = cc

fails_takes : (c : TokenClass) (n : ℕ) (f : Fault) → fails f ≢ takes c n
fails_takes c n f e = cc

placed_skips : (c at n : ℕ) (f : Start) → placed c at f ≡ skips n → f ≡ gap n
placed_skips c at n nothing e = cc
placed_skips c at n (gap m) e = cc
placed_skips c at n (token s m) e = go (nat_le c 255) e
  where
    go : (t : Bool) → cond t (takes s m) (fails (FarColumn at)) ≡ skips n → token s m ≡ gap n
    go true h = cc
    go false h = cc
placed_skips c at n unclosed e = go (nat_le c 255) e
  where
    go : (t : Bool) → cond t (fails (UnclosedText at)) (fails (FarColumn at)) ≡ skips n → unclosed ≡ gap n
    go true h = cc
    go false h = cc
placed_skips c at n stray e = cc

placed_takes : (c at n : ℕ) (s : TokenClass) (f : Start) → placed c at f ≡ takes s n → (f ≡ token s n) × (c ≤ 255)
placed_takes c at n s nothing e = cc
placed_takes c at n s (gap m) e = cc
placed_takes c at n s (token r m) e = go (nat_le c 255) refl e
  where
    go : (t : Bool) → nat_le c 255 ≡ t → cond t (takes r m) (fails (FarColumn at)) ≡ takes s n → (token r m ≡ token s n) × (c ≤ 255)
    go true q h = (cc, leb-true _ _ q)
    go false q h = cc
placed_takes c at n s unclosed e = go (nat_le c 255) e
  where
    go : (t : Bool) → cond t (fails (UnclosedText at)) (fails (FarColumn at)) ≡ takes s n → (unclosed ≡ token s n) × (c ≤ 255)
    go true h = cc
    go false h = cc
placed_takes c at n s stray e = cc

-- what a step that skips or takes says of the script
pub skipped : (xs : List ℕ) (at n : ℕ) → step xs at ≡ skips n → (length xs ≤ 65536) × (start_of (drop at xs) ≡ gap n)
skipped xs at n e = go (nat_lt 65536 (length xs)) refl e
  where
    go : (t : Bool) → nat_lt 65536 (length xs) ≡ t → cond t (fails LongScript) (placed (column_at xs at) at (start_of (drop at xs))) ≡ skips n → (length xs ≤ 65536) × (start_of (drop at xs) ≡ gap n)
    go true q h = cc
    go false q h = (ltb-false _ _ q, placed_skips _ _ _ _ h)

pub taken : (xs : List ℕ) (at n : ℕ) (s : TokenClass) → step xs at ≡ takes s n → (length xs ≤ 65536) × (start_of (drop at xs) ≡ token s n) × (column_at xs at ≤ 255)
taken xs at n s e = go (nat_lt 65536 (length xs)) refl e
  where
    go : (t : Bool) → nat_lt 65536 (length xs) ≡ t → cond t (fails LongScript) (placed (column_at xs at) at (start_of (drop at xs))) ≡ takes s n → (length xs ≤ 65536) × (start_of (drop at xs) ≡ token s n) × (column_at xs at ≤ 255)
    go true q h = cc
    go false q h = let r = placed_takes _ _ _ _ _ h in (ltb-false _ _ q, r.0, r.1)

pub skips_fit : (xs : List ℕ) (at n : ℕ) → step xs at ≡ skips n → Fitting n (length xs - at)
skips_fit xs at n e = start_past xs at (gap n) (skipped xs at n e).1 (λ q. cc)

pub takes_fit : (xs : List ℕ) (at n : ℕ) (s : TokenClass) → step xs at ≡ takes s n → Fitting n (length xs - at)
takes_fit xs at n s e = start_past xs at (token s n) (taken xs at n s e).1 (λ q. cc)

-- the tokens and the ending from an offset on
pub record Whole (xs : List ℕ) (at : ℕ) : Type 0 where
  pub all : List Span
  pub stop : Stop
  pub cuts : Cuts xs at all stop

whole_from : (k : ℕ) (xs : List ℕ) (at : ℕ) → length xs ≤ at + k → Whole xs at
whole_from zero xs at h = go (step xs at) refl
  where
    go : (s : Step) → step xs at ≡ s → Whole xs at
    go stops e = record { all = []; stop = end; cuts = ends e }
    go (skips n) e = absurd (omega (arith, skips_fit xs at n e))
    go (takes c n) e = absurd (omega (arith, takes_fit xs at n c e))
    go (fails f) e = record { all = []; stop = fault f; cuts = breaks e }
whole_from (suc k) xs at h = go (step xs at) refl (whole_from k xs)
  where
    go : (s : Step) → step xs at ≡ s → ((m : ℕ) → length xs ≤ m + k → Whole xs m) → Whole xs at
    go stops e r = record { all = []; stop = end; cuts = ends e }
    go (skips n) e r =
        let w = r (at + n) (omega (arith, skips_fit xs at n e)) in
        record { all = w.all; stop = w.stop; cuts = skip e w.cuts }
    go (takes c n) e r =
        let w = r (at + n) (omega (arith, takes_fit xs at n c e)) in
        record { all = record { class = c; place = at; column = column_at xs at; size = n } ∷ w.all; stop = w.stop; cuts = cut e w.cuts }
    go (fails f) e r = record { all = []; stop = fault f; cuts = breaks e }

pub whole : (xs : List ℕ) (at : ℕ) → Whole xs at
whole xs at = whole_from (length xs) xs at (omega arith)
