-- The tokens lie in the script one behind the other, with blanks and comments alone between them.
use Rattle.std.proofs.Common.{◌≡◌, ℕ, ◌+◌, ◌<◌, ◌≤◌, Bool, true, false, cond, ltb, leb, ◌⊎◌, List, [], ◌∷◌, length, get_or, drop, Some, None, Option, sym, refl, ap, ◌∙◌, subst, inl, inr, arith}
use Rattle.std.specs.List.{prefix_len}
use Rattle.std.proofs.lemmas.List.Sums.{prefix_len_passes, prefix_len_stops}
use Rattle.std.proofs.lemmas.Bool.{cases_lt, both_ways, ltb-false}
use Rattle.std.proofs.lemmas.List.{get_or-drop, length-drop}
use Rattle.std.proofs.lemmas.List.Sums.{prefix_len-le-length}
use Rattle.cutting.specs.declared.class.Class.{Class}
use Rattle.cutting.specs.declared.class.Class.TheVariants.{Blank, Line, Hash, Letter, Digit, Quote, Sign, Other}
use Rattle.cutting.specs.declared.fault.Fault.{Fault}
use Rattle.cutting.specs.declared.fault.Fault.TheVariants.{StrayByte, UnclosedText, FarColumn, LongScript}
use Rattle.cutting.specs.Columns.{column_at}
use Rattle.cutting.specs.Classes.{classed, on_line}
use Rattle.cutting.specs.Starts.{Start, nothing, gap, token, unclosed, stray, text_of, closed, begins, start_of}
use Rattle.cutting.specs.Cuts.{placed, step, stops, skips, takes, fails, Span, Stop, end, fault, Cuts, ends, breaks, skip, cut}
use Rattle.cutting.specs.Whole.{skipped, skips_fit, takes_fit}
use Rattle.cutting.specs.Laws.{Between, none, blank, comment, Reaches, Laid, Lays, Rising, Rises}
use Rattle.cutting.proofs.Classing.{is_blank, is_line, is_hash, feed_line, line_feed}
use Rattle.cutting.proofs.Steps.{here}

-- a comment has no line feed, and ends before one
comment_free : (xs : List ℕ) (a k : ℕ) → k < prefix_len (λ b. on_line (classed b)) (drop (a + 1) xs) → get_or xs (a + 1 + k) 0 ≡ 10 → ⊥
comment_free xs a k h e =
    let t = prefix_len_passes (λ b. on_line (classed b)) (drop (a + 1) xs) k 0 h in
    let f = feed_line (get_or (drop (a + 1) xs) k 0) (get_or-drop (a + 1) xs k 0 ∙ e) in
    both_ways _ f t

line_ends : (xs : List ℕ) (a : ℕ) → a + 1 + prefix_len (λ b. on_line (classed b)) (drop (a + 1) xs) < length xs → get_or xs (a + 1 + prefix_len (λ b. on_line (classed b)) (drop (a + 1) xs)) 0 ≡ 10
line_ends xs a l =
    let d = length-drop (a + 1) xs in
    let u = prefix_len_stops (λ b. on_line (classed b)) (drop (a + 1) xs) 0 (omega arith) in
    sym (get_or-drop (a + 1) xs (prefix_len (λ b. on_line (classed b)) (drop (a + 1) xs)) 0) ∙ line_feed (get_or (drop (a + 1) xs) (prefix_len (λ b. on_line (classed b)) (drop (a + 1) xs)) 0) u

-- what is skipped is a blank or a comment
gap_begins : (xs : List ℕ) (a n b : ℕ) → a < length xs → (c : Class) → classed (get_or xs a 0) ≡ c → begins c (drop (a + 1) xs) ≡ gap n → Between xs (a + n) b → Between xs a b
gap_begins xs a n b h Blank c e r = let q : a + n ≡ a + 1 = ap (λ k. a + k) (cc) in blank h (is_blank _ c) (rw q at r)
gap_begins xs a n b h Line c e r = let q : a + n ≡ a + 1 = ap (λ k. a + k) (cc) in blank h (inr (inr (inl (is_line _ c)))) (rw q at r)
gap_begins xs a n b h Hash c e r =
    let m = prefix_len (λ b. on_line (classed b)) (drop (a + 1) xs) in
    let k : n ≡ 1 + m = cc in
    let q : a + n ≡ a + 1 + m = omega arith in
    let l = prefix_len-le-length (λ b. on_line (classed b)) (drop (a + 1) xs) in
    let d = length-drop (a + 1) xs in
    comment m (omega arith) (is_hash _ c) (λ j j-below. comment_free xs a j j-below) (λ l. line_ends xs a l) (rw q at r)
gap_begins xs a n b h Letter c e r = cc
gap_begins xs a n b h Digit c e r = cc
gap_begins xs a n b h Quote c e r = go (closed (drop (a + 1) xs)) e
  where
    go : (o : Option ℕ) → text_of o ≡ gap n → Between xs a b
    go None q = cc
    go (Some m) q = cc
gap_begins xs a n b h Sign c e r = cc
gap_begins xs a n b h Other c e r = cc

gap_between : (xs : List ℕ) (a n b : ℕ) → step xs a ≡ skips n → Between xs (a + n) b → Between xs a b
gap_between xs a n b e r =
    let lt : a < length xs = omega (arith, skips_fit xs a n e) in
    gap_begins xs a n b lt (classed (get_or xs a 0)) refl (sym (here xs a lt) ∙ (skipped xs a n e).1) r

reaches_before : (xs : List ℕ) (a n : ℕ) (e : Stop) → step xs a ≡ skips n → Reaches xs (a + n) e → Reaches xs a e
reaches_before xs a n end q r = gap_between xs a n _ q r
reaches_before xs a n (fault (StrayByte p)) q r = gap_between xs a n _ q r
reaches_before xs a n (fault (UnclosedText p)) q r = gap_between xs a n _ q r
reaches_before xs a n (fault (FarColumn p)) q r = gap_between xs a n _ q r
reaches_before xs a n (fault LongScript) q r = tt

laid_before : (xs : List ℕ) (a n : ℕ) (ss : List Span) (e : Stop) → step xs a ≡ skips n → Laid xs (a + n) ss e → Laid xs a ss e
laid_before xs a n [] e q r = reaches_before xs a n e q r
laid_before xs a n (s ∷ ss) e q r = (gap_between xs a n _ q r.0, r.1, r.2, r.3)

-- the script ends only where it is over
begins_some : (c : Class) (ys : List ℕ) → begins c ys ≡ nothing → ⊥
begins_some Blank ys e = cc
begins_some Line ys e = cc
begins_some Hash ys e = cc
begins_some Letter ys e = cc
begins_some Digit ys e = cc
begins_some Quote ys e = go (closed ys) e
  where
    go : (o : Option ℕ) → text_of o ≡ nothing → ⊥
    go None q = cc
    go (Some m) q = cc
begins_some Sign ys e = cc
begins_some Other ys e = cc

placed_stops : (c at : ℕ) (f : Start) → placed c at f ≡ stops → f ≡ nothing
placed_stops c at nothing e = refl
placed_stops c at (gap n) e = cc
placed_stops c at (token s n) e = go (leb c 255) e
  where
    go : (t : Bool) → cond t (takes s n) (fails (FarColumn at)) ≡ stops → token s n ≡ nothing
    go true h = cc
    go false h = cc
placed_stops c at unclosed e = go (leb c 255) e
  where
    go : (t : Bool) → cond t (fails (UnclosedText at)) (fails (FarColumn at)) ≡ stops → unclosed ≡ nothing
    go true h = cc
    go false h = cc
placed_stops c at stray e = cc

-- a script that ends is not too long
pub stopped_short : (xs : List ℕ) (a : ℕ) → step xs a ≡ stops → (length xs ≤ 65536) × (start_of (drop a xs) ≡ nothing)
stopped_short xs a e = go (ltb 65536 (length xs)) refl e
  where
    go : (t : Bool) → ltb 65536 (length xs) ≡ t → cond t (fails LongScript) (placed (column_at xs a) a (start_of (drop a xs))) ≡ stops → (length xs ≤ 65536) × (start_of (drop a xs) ≡ nothing)
    go true q h = cc
    go false q h = (ltb-false _ _ q, placed_stops (column_at xs a) a (start_of (drop a xs)) h)

stopped : (xs : List ℕ) (a : ℕ) → step xs a ≡ stops → length xs ≤ a
stopped xs a e = go (cases_lt a (length xs))
  where
    go : (a < length xs) ⊎ (length xs ≤ a) → length xs ≤ a
    go (inl h) = absurd (begins_some (classed (get_or xs a 0)) (drop (a + 1) xs) (sym (here xs a h) ∙ (stopped_short xs a e).1))
    go (inr h) = h

-- a fault's place is where it arises
reaches_placed : (xs : List ℕ) (c at : ℕ) (f : Fault) (s : Start) → placed c at s ≡ fails f → Reaches xs at (fault f)
reaches_placed xs c at f nothing e = cc
reaches_placed xs c at f (gap m) e = cc
reaches_placed xs c at f (token s m) e = go (leb c 255) e
  where
    go : (t : Bool) → cond t (takes s m) (fails (FarColumn at)) ≡ fails f → Reaches xs at (fault f)
    go true h = cc
    go false h = let q : FarColumn at ≡ f = cc in subst (λ g. Reaches xs at (fault g)) q (none refl)
reaches_placed xs c at f unclosed e = go (leb c 255) e
  where
    go : (t : Bool) → cond t (fails (UnclosedText at)) (fails (FarColumn at)) ≡ fails f → Reaches xs at (fault f)
    go true h = let q : UnclosedText at ≡ f = cc in subst (λ g. Reaches xs at (fault g)) q (none refl)
    go false h = let q : FarColumn at ≡ f = cc in subst (λ g. Reaches xs at (fault g)) q (none refl)
reaches_placed xs c at f stray e = let q : StrayByte at ≡ f = cc in subst (λ g. Reaches xs at (fault g)) q (none refl)

reaches_fault : (xs : List ℕ) (a : ℕ) (f : Fault) → step xs a ≡ fails f → Reaches xs a (fault f)
reaches_fault xs a f e = go (ltb 65536 (length xs)) e
  where
    go : (t : Bool) → cond t (fails LongScript) (placed (column_at xs a) a (start_of (drop a xs))) ≡ fails f → Reaches xs a (fault f)
    go true h = let q : LongScript ≡ f = cc in subst (λ g. Reaches xs a (fault g)) q tt
    go false h = reaches_placed xs (column_at xs a) a f (start_of (drop a xs)) h

laid_all : {xs : List ℕ} {a : ℕ} {ss : List Span} {e : Stop} → Cuts xs a ss e → a ≤ length xs → Laid xs a ss e
laid_all {xs} (ends {at = a} p) h = none (omega (arith, stopped xs a p))
laid_all {xs} (breaks {at = a} {f = f} p) h = reaches_fault xs a f p
laid_all {xs} (skip {at = a} {n = n} {ss = ss} {e = e} p c) h =
    laid_before xs a n ss e p (laid_all c (omega (arith, skips_fit xs a n p)))
laid_all {xs} (cut {at = a} {n = n} {c = s} p c) h =
    let fit = takes_fit xs a n s p in
    let l : a + n ≤ length xs = omega arith in
    (none refl, fit.0, l, laid_all c l)

pub lays : Lays
lays xs a ss e h c = laid_all c h

rising_before : (a b : ℕ) (ss : List Span) → a ≤ b → Rising b ss → Rising a ss
rising_before a b [] h r = tt
rising_before a b (s ∷ ss) h r = let q = r.0 in (omega arith, r.1)

rise_all : {xs : List ℕ} {a : ℕ} {ss : List Span} {e : Stop} → Cuts xs a ss e → Rising a ss
rise_all (ends p) = tt
rise_all (breaks p) = tt
rise_all (skip {at = a} {n = n} {ss = ss} p c) = rising_before a (a + n) ss (omega arith) (rise_all c)
rise_all (cut p c) = (omega arith, rise_all c)

pub rises : Rises
rises xs a ss e c = rise_all c
