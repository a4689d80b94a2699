-- What obeys the laws is the list and the ending of the script.
use Rattle.std.proofs.Common.{◌≡◌, ℕ, suc, ◌+◌, ◌-◌, ◌<◌, ◌≤◌, true, eqb, leb, ◌⊎◌, List, [], ◌∷◌, length, get_or, drop, Some, None, Option, sym, refl, ap, ◌∙◌, subst, inl, inr, arith}
use Rattle.std.specs.List.{prefix_len}
use Rattle.std.proofs.lemmas.List.Sums.{prefix_len_is, prefix_len_passes}
use Rattle.std.proofs.lemmas.List.{get_or-drop, length-drop, get_or_past, at_drop_all}
use Rattle.std.proofs.lemmas.Bool.{cases_lt, le-leb, lt-leb, cond-true, cond-false, ne_eqb}
use Rattle.cutting.specs.declared.class.Class.{Class}
use Rattle.cutting.specs.declared.class.Class.TheVariants.{Blank, Line, Hash, Letter, Digit, Quote, Sign, Other}
use Rattle.cutting.specs.declared.fault.Fault.TheVariants.{StrayByte, UnclosedText, FarColumn, LongScript}
use Rattle.cutting.specs.Columns.{column_at}
use Rattle.cutting.specs.Classes.{digit, classed, wordy, digital, on_line}
use Rattle.cutting.specs.Starts.{TokenClass, word, number, text, mark, nothing, gap, token, unclosed, stray, plain, closed, text_of, begins, start_of}
use Rattle.cutting.specs.Cuts.{placed, step, takes, fails, Span, Stop, end, fault, Cuts, ends, breaks, skip, cut}
use Rattle.cutting.specs.Shapes.{BlankByte, IsWord, IsNumber, IsText, IsMark, Shaped, AllSound}
use Rattle.cutting.specs.Laws.{Between, none, blank, comment, Laid, Unclosed, Ended, Determined}
use Rattle.cutting.proofs.Runs.{tail_byte, run_is}
use Rattle.cutting.proofs.Classing.{blank_class, hash_class, feed_line, lineless, wordy_is, digital_is, letter_class, digit_class, quote_class, plain_line, plain_from, sign_class, other_class, starting, byte_starting}
use Rattle.cutting.proofs.Steps.{here, divides_gap, short_step, step_is, long_step}

module _ (xs : List ℕ) (a : ℕ) (h : a < length xs) where
  start_by : (c : Class) → classed (get_or xs a 0) ≡ c → start_of (drop a xs) ≡ begins c (drop (a + 1) xs)
  start_by c e = here xs a h ∙ ap (λ k. begins k (drop (a + 1) xs)) e

  start_word : (n : ℕ) → 0 < n → a + n ≤ length xs → IsWord xs a n → start_of (drop a xs) ≡ token word n
  start_word n z l w = start_by Letter (letter_class (get_or xs a 0) w.first) ∙ ap (token word) (run_is (λ b. wordy (classed b)) xs a n z l (λ k k0 kn. wordy_is (get_or xs (a + k) 0) ∙ w.all k kn) (λ q. wordy_is (get_or xs (a + n) 0) ∙ w.whole q))

  start_number : (n : ℕ) → 0 < n → a + n ≤ length xs → IsNumber xs a n → start_of (drop a xs) ≡ token number n
  start_number n z l w =
      let e : a + 0 ≡ a = omega arith in
      start_by Digit (digit_class (get_or xs a 0) (ap (λ k. digit (get_or xs k 0)) (sym e) ∙ w.all 0 z)) ∙ ap (token number) (run_is (λ b. digital (classed b)) xs a n z l (λ k k0 kn. digital_is (get_or xs (a + k) 0) ∙ w.all k kn) (λ q. digital_is (get_or xs (a + n) 0) ∙ w.whole q))

  start_mark : (n : ℕ) → IsMark xs a n → start_of (drop a xs) ≡ token mark n
  start_mark n w = start_by Sign (sign_class (get_or xs a 0) w.seen w.no_letter w.no_digit w.no_quote w.no_hash) ∙ ap (token mark) (sym w.one)

  start_comment : (n : ℕ) → a + n < length xs → get_or xs a 0 ≡ 35 → ((k : ℕ) → k < n → get_or xs (a + 1 + k) 0 ≡ 10 → ⊥) → (a + 1 + n < length xs → get_or xs (a + 1 + n) 0 ≡ 10) → start_of (drop a xs) ≡ gap (1 + n)
  start_comment n l q free feed =
      let d = length-drop (a + 1) xs in
      start_by Hash (hash_class (get_or xs a 0) q) ∙ ap (λ k. gap (1 + k)) (prefix_len_is (λ b. on_line (classed b)) (drop (a + 1) xs) n 0 (omega arith)
      (λ k b. lineless (get_or (drop (a + 1) xs) k 0) (λ e. free k b (sym (get_or-drop (a + 1) xs k 0) ∙ e)))
      (λ b. feed_line (get_or (drop (a + 1) xs) n 0) (get_or-drop (a + 1) xs n 0 ∙ feed (omega arith))))

  start_blank : BlankByte (get_or xs a 0) → start_of (drop a xs) ≡ gap 1
  start_blank b = here xs a h ∙ divides_gap (classed (get_or xs a 0)) (drop (a + 1) xs) (blank_class (get_or xs a 0) b)

  text_closed : (n : ℕ) → a + n ≤ length xs → IsText xs a n → closed (drop (a + 1) xs) ≡ Some (n - 2)
  text_closed n l w =
      let d = length-drop (a + 1) xs in
      let two = w.two in
      let last : get_or (drop (a + 1) xs) (n - 2) 0 ≡ 34 = sym (tail_byte xs a (n - 2) (a + (n - 1)) (omega arith)) ∙ w.closes in
      let m : prefix_len plain (drop (a + 1) xs) ≡ n - 2 = prefix_len_is plain (drop (a + 1) xs) (n - 2) 0 (omega arith)
      (λ k b. let t = tail_byte xs a k (a + suc k) (omega arith) in let i = w.inside (suc k) (omega arith) (omega arith) in plain_from (get_or (drop (a + 1) xs) k 0) (λ e. i.0 (t ∙ e)) (λ e. i.1 (t ∙ e)))
      (λ b. ap plain last) in
      rw m (rw last refl)

  start_text : (n : ℕ) → a + n ≤ length xs → IsText xs a n → start_of (drop a xs) ≡ token text n
  start_text n l w =
      let two = w.two in
      let e : n - 2 + 2 ≡ n = omega arith in
      start_by Quote (quote_class (get_or xs a 0) w.opens) ∙ ap text_of (text_closed n l w) ∙ ap (token text) e

  never_closed : Unclosed xs a → closed (drop (a + 1) xs) ≡ None
  never_closed o = cond-false (eqb (get_or (drop (a + 1) xs) (prefix_len plain (drop (a + 1) xs)) 0) 34) _ _ (ne_eqb _ _ no)
    where
      no : get_or (drop (a + 1) xs) (prefix_len plain (drop (a + 1) xs)) 0 ≡ 34 → ⊥
      no e = go (cases_lt (prefix_len plain (drop (a + 1) xs)) (length (drop (a + 1) xs)))
        where
          go : (prefix_len plain (drop (a + 1) xs) < length (drop (a + 1) xs)) ⊎ (length (drop (a + 1) xs) ≤ prefix_len plain (drop (a + 1) xs)) → ⊥
          go (inl s) =
              let d = length-drop (a + 1) xs in
              let j = o (a + 1 + prefix_len plain (drop (a + 1) xs)) (omega arith) (omega arith) (sym (get_or-drop (a + 1) xs (prefix_len plain (drop (a + 1) xs)) 0) ∙ e) in
              let lo = j.1 in
              let hi = j.2 in
              let t = tail_byte xs a (j.0 - (a + 1)) j.0 (omega arith) in
              let y = prefix_len_passes plain (drop (a + 1) xs) (j.0 - (a + 1)) 0 (omega arith) in
              plain_line (get_or (drop (a + 1) xs) (j.0 - (a + 1)) 0) y (sym t ∙ j.3)
          go (inr s) = let z = get_or_past (drop (a + 1) xs) (prefix_len plain (drop (a + 1) xs)) 0 s in omega arith

  start_shape : (s : TokenClass) (n : ℕ) → 0 < n → a + n ≤ length xs → Shaped xs s a n → start_of (drop a xs) ≡ token s n
  start_shape word n z l w = start_word n z l w
  start_shape number n z l w = start_number n z l w
  start_shape text n z l w = start_text n l w
  start_shape mark n z l w = start_mark n w

far_starts : (c at : ℕ) (k : Class) (ys : List ℕ) → starting k ≡ true → 255 < c → placed c at (begins k ys) ≡ fails (FarColumn at)
far_starts c at Blank ys e h = cc
far_starts c at Line ys e h = cc
far_starts c at Hash ys e h = cc
far_starts c at Letter ys e h = cond-false (leb c 255) _ _ (lt-leb _ _ h)
far_starts c at Digit ys e h = cond-false (leb c 255) _ _ (lt-leb _ _ h)
far_starts c at Quote ys e h = go (closed ys)
  where
    go : (o : Option ℕ) → placed c at (text_of o) ≡ fails (FarColumn at)
    go None = cond-false (leb c 255) _ _ (lt-leb _ _ h)
    go (Some n) = cond-false (leb c 255) _ _ (lt-leb _ _ h)
far_starts c at Sign ys e h = cond-false (leb c 255) _ _ (lt-leb _ _ h)
far_starts c at Other ys e h = cc

between_cuts : {xs : List ℕ} {a b : ℕ} → Between xs a b → length xs ≤ 65536 → (ss : List Span) (e : Stop) → Cuts xs b ss e → Cuts xs a ss e
between_cuts {xs} (none q) short ss e c = subst (λ k. Cuts xs k ss e) (sym q) c
between_cuts {xs} (blank {a = a} h b r) short ss e c = skip (step_is xs short a (gap 1) (start_blank xs a h b)) (between_cuts r short ss e c)
between_cuts {xs} (comment {a = a} n l q free feed r) short ss e c =
    let k : a + 1 + n ≡ a + (1 + n) = omega arith in
    skip (step_is xs short a (gap (1 + n)) (start_comment xs a (omega arith) n l q free feed)) (subst (λ i. Cuts xs i ss e) k (between_cuts r short ss e c))

determine : (xs : List ℕ) (a : ℕ) (ss : List Span) (e : Stop) → Laid xs a ss e → AllSound xs ss → Ended xs e → Cuts xs a ss e
determine xs a [] end l s f = between_cuts l f [] end (ends (step_is xs f (length xs) nothing (at_drop_all start_of xs (length xs) (omega arith))))
determine xs a [] (fault (StrayByte p)) l s f =
    between_cuts l f.0 [] _ (breaks (step_is xs f.0 p stray (start_by xs p f.1 Other (other_class (get_or xs p 0) f.2 f.3))))
determine xs a [] (fault (UnclosedText p)) l s f =
    between_cuts l f.0 [] _ (breaks (step_is xs f.0 p unclosed (start_by xs p f.1 Quote (quote_class (get_or xs p 0) f.3) ∙ ap text_of (never_closed xs p f.1 f.4)) ∙ cond-true (leb (column_at xs p) 255) _ _ (le-leb _ _ f.2)))
determine xs a [] (fault (FarColumn p)) l s f =
    between_cuts l f.0 [] _ (breaks (short_step xs f.0 p ∙ ap (placed (column_at xs p) p) (here xs p f.1) ∙ far_starts (column_at xs p) p (classed (get_or xs p 0)) (drop (p + 1) xs) (byte_starting (get_or xs p 0) f.3) f.2))
determine xs a [] (fault LongScript) l s f = breaks (long_step xs a f)
determine xs a (t ∷ ss) e l s f =
    let d = s.0 in
    let rest = determine xs (t.place + t.size) ss e l.3 s.1 f in
    let z = l.1 in
    let m = l.2 in
    let lt : t.place < length xs = omega arith in
    let low : column_at xs t.place ≤ 255 = omega (arith, d.low, d.column) in
    let st : step xs t.place ≡ takes t.class t.size = step_is xs d.short t.place (token t.class t.size) (start_shape xs t.place lt t.class t.size z m d.shape) ∙ cond-true (leb (column_at xs t.place) 255) _ _ (le-leb _ _ low) in
    let same : record { class = t.class; place = t.place; column = column_at xs t.place; size = t.size } ≡ t = λ i. record { class = t.class; place = t.place; column = sym d.column i; size = t.size } in
    between_cuts l.0 d.short (t ∷ ss) e (subst (λ u. Cuts xs t.place (u ∷ ss) e) same (cut st rest))

pub determined : Determined
determined xs a ss e l = determine xs a ss e l.laid l.sound l.ended
