-- Each fault is true of its script.
use Rattle.std.proofs.Common.{◌≡◌, ℕ, ◌+◌, ◌-◌, ◌<◌, ◌≤◌, Bool, true, false, cond, eqb, ltb, leb, ◌⊎◌, List, length, get_or, drop, Some, None, Option, sym, refl, ap, ◌∙◌, subst, inl, inr, arith}
use Rattle.std.specs.List.{prefix_len}
use Rattle.std.proofs.lemmas.List.Sums.{prefix_len_passes, prefix_len_stops}
use Rattle.std.proofs.lemmas.List.{length-drop, at_drop_all}
use Rattle.std.proofs.lemmas.Bool.{cases_lt, leb-true, leb-false, ltb-true, ltb-false, eqb-false}
use Rattle.cutting.specs.declared.class.Class.{Class}
use Rattle.cutting.specs.declared.class.Class.TheVariants.{Blank, Line, Hash, Letter, Digit, Quote, Sign, Other}
use Rattle.cutting.specs.declared.fault.Fault.{Fault}
use Rattle.cutting.specs.declared.fault.Fault.TheVariants.{StrayByte, UnclosedText, FarColumn, LongScript}
use Rattle.cutting.specs.Columns.{column_at}
use Rattle.cutting.specs.Classes.{classed}
use Rattle.cutting.specs.Starts.{TokenClass, Start, nothing, gap, token, unclosed, stray, plain, closed, text_of, begins, start_of}
use Rattle.cutting.specs.Cuts.{placed, step, stops, takes, fails, Span, Stop, Cuts, ends, breaks, skip, cut}
use Rattle.cutting.specs.Laws.{Unclosed, Faulty, Ended, Faults}
use Rattle.cutting.proofs.Runs.{tail_byte}
use Rattle.cutting.proofs.Classing.{is_quote, plain_quote, unplain, other_unseen, other_blank, starting, starting_byte}
use Rattle.cutting.proofs.Laying.{stopped_short}
use Rattle.cutting.proofs.Steps.{here}

begins_token : (c : Class) (ys : List ℕ) (s : TokenClass) (n : ℕ) → begins c ys ≡ token s n → starting c ≡ true
begins_token Blank ys s n e = cc
begins_token Line ys s n e = cc
begins_token Hash ys s n e = cc
begins_token Letter ys s n e = refl
begins_token Digit ys s n e = refl
begins_token Quote ys s n e = refl
begins_token Sign ys s n e = refl
begins_token Other ys s n e = cc

text_none : (o : Option ℕ) → text_of o ≡ unclosed → o ≡ None
text_none None e = refl
text_none (Some n) e = cc

text_stray : (o : Option ℕ) → text_of o ≡ stray → ⊥
text_stray None e = cc
text_stray (Some n) e = cc

begins_unclosed : (c : Class) (ys : List ℕ) → begins c ys ≡ unclosed → (c ≡ Quote) × (closed ys ≡ None)
begins_unclosed Blank ys e = cc
begins_unclosed Line ys e = cc
begins_unclosed Hash ys e = cc
begins_unclosed Letter ys e = cc
begins_unclosed Digit ys e = cc
begins_unclosed Quote ys e = (refl, text_none (closed ys) e)
begins_unclosed Sign ys e = cc
begins_unclosed Other ys e = cc

begins_stray : (c : Class) (ys : List ℕ) → begins c ys ≡ stray → c ≡ Other
begins_stray Blank ys e = cc
begins_stray Line ys e = cc
begins_stray Hash ys e = cc
begins_stray Letter ys e = cc
begins_stray Digit ys e = cc
begins_stray Quote ys e = absurd (text_stray (closed ys) e)
begins_stray Sign ys e = cc
begins_stray Other ys e = refl

none_cond : (t : Bool) (m : ℕ) → cond t (Some m) None ≡ None → t ≡ false
none_cond true m e = cc
none_cond false m e = refl

-- a quote behind an unclosed text stands behind a line feed
unclosed_text : (xs : List ℕ) (p : ℕ) → closed (drop (p + 1) xs) ≡ None → Unclosed xs p
unclosed_text xs p e k h l q = go (cases_lt (prefix_len plain (drop (p + 1) xs)) (k - (p + 1))) (cases_lt (k - (p + 1)) (prefix_len plain (drop (p + 1) xs)))
  where
    at_k : get_or xs k 0 ≡ get_or (drop (p + 1) xs) (k - (p + 1)) 0
    at_k = tail_byte xs p (k - (p + 1)) k (omega arith)

    no_quote : get_or (drop (p + 1) xs) (prefix_len plain (drop (p + 1) xs)) 0 ≡ 34 → ⊥
    no_quote = eqb-false (get_or (drop (p + 1) xs) (prefix_len plain (drop (p + 1) xs)) 0) 34 (none_cond (eqb (get_or (drop (p + 1) xs) (prefix_len plain (drop (p + 1) xs)) 0) 34) (prefix_len plain (drop (p + 1) xs)) e)

    go : (prefix_len plain (drop (p + 1) xs) < k - (p + 1)) ⊎ (k - (p + 1) ≤ prefix_len plain (drop (p + 1) xs)) → (k - (p + 1) < prefix_len plain (drop (p + 1) xs)) ⊎ (prefix_len plain (drop (p + 1) xs) ≤ k - (p + 1)) → (j : ℕ) × (p < j) × (j < k) × (get_or xs j 0 ≡ 10)
    go (inl s) t =
        let d = length-drop (p + 1) xs in
        let u = prefix_len_stops plain (drop (p + 1) xs) 0 (omega arith) in
        (p + 1 + prefix_len plain (drop (p + 1) xs), omega arith, omega arith, tail_byte xs p (prefix_len plain (drop (p + 1) xs)) (p + 1 + prefix_len plain (drop (p + 1) xs)) refl ∙ unplain (get_or (drop (p + 1) xs) (prefix_len plain (drop (p + 1) xs)) 0) u no_quote)
    go (inr s) (inl t) = absurd (plain_quote (get_or (drop (p + 1) xs) (k - (p + 1)) 0) (prefix_len_passes plain (drop (p + 1) xs) (k - (p + 1)) 0 t) (sym at_k ∙ q))
    go (inr s) (inr t) =
        let v : k - (p + 1) ≡ prefix_len plain (drop (p + 1) xs) = omega arith in
        absurd (no_quote (ap (λ i. get_or (drop (p + 1) xs) i 0) (sym v) ∙ sym at_k ∙ q))

module _ (xs : List ℕ) (short : length xs ≤ 65536) (a : ℕ) (h : a < length xs) where
  far : (c : Class) → classed (get_or xs a 0) ≡ c → starting c ≡ true → 255 < column_at xs a → Faulty xs (FarColumn a)
  far c e s l = (short, h, l, starting_byte (get_or xs a 0) (ap starting e ∙ s))

  fault_by : (s : Start) → begins (classed (get_or xs a 0)) (drop (a + 1) xs) ≡ s → (f : Fault) → placed (column_at xs a) a s ≡ fails f → Faulty xs f
  fault_by nothing e f q = cc
  fault_by (gap m) e f q = cc
  fault_by (token s m) e f q = go (leb (column_at xs a) 255) refl q
    where
      go : (t : Bool) → leb (column_at xs a) 255 ≡ t → cond t (takes s m) (fails (FarColumn a)) ≡ fails f → Faulty xs f
      go true r w = cc
      go false r w =
          let is : FarColumn a ≡ f = cc in
          subst (Faulty xs) is (far (classed (get_or xs a 0)) refl (begins_token (classed (get_or xs a 0)) (drop (a + 1) xs) s m e) (leb-false _ _ r))
  fault_by unclosed e f q = go (begins_unclosed (classed (get_or xs a 0)) (drop (a + 1) xs) e) (leb (column_at xs a) 255) refl q
    where
      go : (classed (get_or xs a 0) ≡ Quote) × (closed (drop (a + 1) xs) ≡ None) → (t : Bool) → leb (column_at xs a) 255 ≡ t → cond t (fails (UnclosedText a)) (fails (FarColumn a)) ≡ fails f → Faulty xs f
      go c true r w =
          let is : UnclosedText a ≡ f = cc in
          subst (Faulty xs) is (short, h, leb-true _ _ r, is_quote (get_or xs a 0) c.0, unclosed_text xs a c.1)
      go c false r w =
          let is : FarColumn a ≡ f = cc in
          subst (Faulty xs) is (far Quote c.0 refl (leb-false _ _ r))
  fault_by stray e f q =
      let c = begins_stray (classed (get_or xs a 0)) (drop (a + 1) xs) e in
      let is : StrayByte a ≡ f = cc in
      subst (Faulty xs) is (short, h, other_unseen (get_or xs a 0) c, other_blank (get_or xs a 0) c)

fault_at : (xs : List ℕ) (a : ℕ) (f : Fault) → step xs a ≡ fails f → Faulty xs f
fault_at xs a f e = go (ltb 65536 (length xs)) refl e (cases_lt a (length xs))
  where
    go : (t : Bool) → ltb 65536 (length xs) ≡ t → cond t (fails LongScript) (placed (column_at xs a) a (start_of (drop a xs))) ≡ fails f → (a < length xs) ⊎ (length xs ≤ a) → Faulty xs f
    go true q r s = let is : LongScript ≡ f = cc in subst (Faulty xs) is (ltb-true _ _ q)
    go false q r (inl h) = fault_by xs (ltb-false _ _ q) a h (begins (classed (get_or xs a 0)) (drop (a + 1) xs)) refl f (ap (placed (column_at xs a) a) (sym (here xs a h)) ∙ r)
    go false q r (inr h) =
        let y : stops ≡ fails f = sym (ap (placed (column_at xs a) a) (at_drop_all start_of xs a h)) ∙ r in
        cc

ended_all : {xs : List ℕ} {a : ℕ} {ss : List Span} {e : Stop} → Cuts xs a ss e → Ended xs e
ended_all {xs} (ends {at = a} q) = (stopped_short xs a q).0
ended_all {xs} (breaks {at = a} {f = f} q) = fault_at xs a f q
ended_all (skip q c) = ended_all c
ended_all (cut q c) = ended_all c

pub faults : Faults
faults xs a ss e c = ended_all c
