-- What begins at an offset says what the tokens from there on are.
use Rattle.std.proofs.Common.{◌≡◌, ℕ, ◌+◌, ◌<◌, ◌≤◌, true, List, ◌∷◌, length, get_or, drop, refl, ap, ◌∙◌}
use Rattle.std.proofs.lemmas.List.{at_drop_more, at_drop_all}
use Rattle.std.proofs.lemmas.Bool.{le-leb, lt-leb, le-ltb, lt-ltb}
use Rattle.cutting.specs.declared.class.Class.{Class}
use Rattle.cutting.specs.declared.class.Class.TheVariants.{Blank, Line, Hash, Letter, Digit, Quote, Sign, Other}
use Rattle.cutting.specs.declared.fault.Fault.{Fault}
use Rattle.cutting.specs.declared.fault.Fault.TheVariants.{StrayByte, UnclosedText, FarColumn, LongScript}
use Rattle.cutting.specs.Columns.{column_at}
use Rattle.cutting.specs.Classes.{classed, divides}
use Rattle.cutting.specs.Starts.{TokenClass, Start, nothing, gap, token, unclosed, stray, begins, start_of}
use Rattle.cutting.specs.Cuts.{placed, step, takes, fails, end, fault, ends, breaks, skip, cut}
use Rattle.cutting.specs.Meaning.{spans, ending_at, meant, Same, Last}
use Rattle.cutting.proofs.Unique.{only}

-- by the byte that stands there
pub here : (xs : List ℕ) (at : ℕ) → at < length xs → start_of (drop at xs) ≡ begins (classed (get_or xs at 0)) (drop (at + 1) xs)
here xs at h = at_drop_more start_of xs at 0 h

pub divides_gap : (c : Class) (ys : List ℕ) → divides c ≡ true → begins c ys ≡ gap 1
divides_gap Blank ys e = refl
divides_gap Line ys e = refl
divides_gap Hash ys e = cc
divides_gap Letter ys e = cc
divides_gap Digit ys e = cc
divides_gap Quote ys e = cc
divides_gap Sign ys e = cc
divides_gap Other ys e = cc

pub same_trans : {xs : List ℕ} {a b c : ℕ} → Same xs a b → Same xs b c → Same xs a c
same_trans p q = record { tokens = p.tokens ∙ q.tokens; ending = p.ending ∙ q.ending }

-- in a script that is not too long
module _ (xs : List ℕ) (short : length xs ≤ 65536) where
  pub short_step : (at : ℕ) → step xs at ≡ placed (column_at xs at) at (start_of (drop at xs))
  short_step at = rw (le-ltb 65536 (length xs) short) refl

  pub step_is : (at : ℕ) (f : Start) → start_of (drop at xs) ≡ f → step xs at ≡ placed (column_at xs at) at f
  step_is at f e = short_step at ∙ ap (placed (column_at xs at) at) e

  pub same_skip : (at n : ℕ) → start_of (drop at xs) ≡ gap n → Same xs at (at + n)
  same_skip at n e =
      let r = only (meant xs at) (skip (step_is at (gap n) e) (meant xs (at + n))) refl in
      record { tokens = r.0; ending = r.1 }

  pub first_cut : (at n : ℕ) (c : TokenClass) → start_of (drop at xs) ≡ token c n → column_at xs at ≤ 255 → (spans xs at ≡ record { class = c; place = at; column = column_at xs at; size = n } ∷ spans xs (at + n)) × (ending_at xs at ≡ ending_at xs (at + n))
  first_cut at n c e h =
      let t : step xs at ≡ takes c n = step_is at (token c n) e ∙ (rw (le-leb _ _ h) refl) in
      only (meant xs at) (cut t (meant xs (at + n))) refl

  pub last_end : (at : ℕ) → length xs ≤ at → Last xs at end
  last_end at h = only (meant xs at) (ends (step_is at nothing (at_drop_all start_of xs at h))) refl

  last_fault : (at : ℕ) (f : Fault) → step xs at ≡ fails f → Last xs at (fault f)
  last_fault at f e = only (meant xs at) (breaks e) refl

  pub last_far : (at n : ℕ) (c : TokenClass) → start_of (drop at xs) ≡ token c n → 255 < column_at xs at → Last xs at (fault (FarColumn at))
  last_far at n c e h = last_fault at (FarColumn at) (step_is at (token c n) e ∙ (rw (lt-leb _ _ h) refl))

  pub last_open_far : (at : ℕ) → start_of (drop at xs) ≡ unclosed → 255 < column_at xs at → Last xs at (fault (FarColumn at))
  last_open_far at e h = last_fault at (FarColumn at) (step_is at unclosed e ∙ (rw (lt-leb _ _ h) refl))

  pub last_open : (at : ℕ) → start_of (drop at xs) ≡ unclosed → column_at xs at ≤ 255 → Last xs at (fault (UnclosedText at))
  last_open at e h = last_fault at (UnclosedText at) (step_is at unclosed e ∙ (rw (le-leb _ _ h) refl))

  pub last_stray : (at : ℕ) → start_of (drop at xs) ≡ stray → Last xs at (fault (StrayByte at))
  last_stray at e = last_fault at (StrayByte at) (step_is at stray e)

pub long_step : (xs : List ℕ) (at : ℕ) → 65536 < length xs → step xs at ≡ fails LongScript
long_step xs at h = rw (lt-ltb _ _ h) refl

pub last_long : (xs : List ℕ) (at : ℕ) → 65536 < length xs → Last xs at (fault LongScript)
last_long xs at h = only (meant xs at) (breaks (long_step xs at h)) refl
