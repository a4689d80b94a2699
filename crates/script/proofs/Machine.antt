-- The turns of the cutter: what it knows in each state, and how each arm keeps it.
use Rattle.std.proofs.Common.{◌≡◌, ℕ, ◌+◌, ◌-◌, ◌<◌, ◌≤◌, true, false, ◌⊎◌, List, length, get_or, take, drop, None, Ok, Err, sym, refl, ap, ◌∙◌, inl, inr, arith}
use Rattle.std.specs.List.{prefix_len}
use Rattle.std.proofs.lemmas.List.{length-take, length-drop, take_rest, get_or-drop}
use Rattle.std.proofs.lemmas.List.Sums.{prefix_len-drop_yes, prefix_len-drop_no, prefix_len-drop_all}
use Rattle.cutting.specs.declared.class.Class.{Class}
use Rattle.cutting.specs.declared.class.Class.TheVariants.{Line, Hash, Letter, Digit, Quote, Sign, Other}
use Rattle.cutting.specs.declared.fault.Fault.TheVariants.{StrayByte}
use Rattle.cutting.specs.Columns.{past, column_at}
use Rattle.cutting.specs.Classes.{classed, divides, wordy, digital, on_line}
use Rattle.cutting.specs.Starts.{word, number, mark, Start, token, text_of, closed, start_of}
use Rattle.cutting.specs.Cuts.{end, fault}
use Rattle.cutting.specs.Meaning.{Same, Last}
use Rattle.cutting.proofs.Moves.{column_more}
use Rattle.cutting.proofs.Steps.{here, divides_gap, same_trans, same_skip, last_end, last_stray}
use Rattle.script.specs.declared.cutter.State.{State}
use Rattle.script.specs.declared.cutter.State.TheVariants as state
use Rattle.script.specs.declared.position.Position.{Position}
use Rattle.script.specs.declared.lexeme.Lexeme.{Lexeme}
use Rattle.script.specs.Lexemes.{held, class_of, NextPost, pieced}
use Rattle.script.proofs.Pieces.{next_same, piece_post}

-- a token begins at `start`, and is f
pub record Inside (xs : List ℕ) (from : ℕ) (start : Position) (at : ℕ) (f : Start) : Type 0 where
  pub same : Same xs from start.place
  pub below : start.place < at
  pub column : start.column ≡ column_at xs start.place
  pub is : start_of (drop start.place xs) ≡ f

-- what the cutter knows at an offset, by its state: how much is left of what it is in
abbrev pub Within : State → List ℕ → ℕ → Position → ℕ → Type 0
Within state.Blank xs from start at = Same xs from at
Within state.Comment xs from start at = Same xs from (at + prefix_len (λ b. on_line (classed b)) (drop at xs))
Within state.Word xs from start at = Inside xs from start at (token word (at - start.place + prefix_len (λ b. wordy (classed b)) (drop at xs)))
Within state.Number xs from start at = Inside xs from start at (token number (at - start.place + prefix_len (λ b. digital (classed b)) (drop at xs)))
Within state.Text xs from start at = Inside xs from start at (text_of (closed (drop at xs))) × (at ≡ start.place + 1)

-- the invariant of the cutter's loop
pub record Turn (s : State) (xs : List ℕ) (from : ℕ) (start at : Position) : Type 0 where
  pub lies : at.place ≤ length xs
  pub column : at.column ≡ column_at xs at.place
  pub inside : Within s xs from start at.place

pub turned : {s u : State} {xs : List ℕ} {from : ℕ} {start at : Position} → s ≡ u → Turn s xs from start at → Within u xs from start at.place
turned e t = rw e at t.inside

-- a byte of the rest of the script from an offset on
pub within_rest : (xs : List ℕ) (from i at : ℕ) → i < length (take (length xs - from) (drop from xs)) → at ≡ from + i → at < length xs
within_rest xs from i at h e = omega (arith, length-take (length xs - from) (drop from xs), length-drop from xs)

pub behind_rest : (xs : List ℕ) (from i at : ℕ) → from ≤ length xs → length (take (length xs - from) (drop from xs)) ≤ i → at ≡ from + i → length xs ≤ at
behind_rest xs from i at l h e = omega (arith, length-take (length xs - from) (drop from xs), length-drop from xs)

pub byte_of_rest : (xs : List ℕ) (from i at : ℕ) → at ≡ from + i → get_or (take (length xs - from) (drop from xs)) i 0 ≡ get_or xs at 0
byte_of_rest xs from i at e = ap (λ ys. get_or ys i 0) (take_rest xs from) ∙ get_or-drop from xs i 0 ∙ ap (λ k. get_or xs k 0) (sym e)

pub class_here : (xs : List ℕ) (from i at : ℕ) (k : Class) → at ≡ from + i → k ≡ classed (get_or (take (length xs - from) (drop from xs)) i 0) → classed (get_or xs at 0) ≡ k
class_here xs from i at k e q = ap classed (sym (byte_of_rest xs from i at e)) ∙ sym q

pub past_here : (xs : List ℕ) (from i : ℕ) (at : Position) → at.place ≡ from + i → (behind : Position) → behind.column ≡ past at.column (get_or (take (length xs - from) (drop from xs)) i 0) → behind.column ≡ past at.column (get_or xs at.place 0)
past_here xs from i at e behind q = q ∙ ap (past at.column) (byte_of_rest xs from i at.place e)

-- at a byte of the script
module _ (xs : List ℕ) (short : length xs ≤ 65536) (from at : ℕ) (h : at < length xs) where
  pub on_blanks : divides (classed (get_or xs at 0)) ≡ true → Same xs from at → Same xs from (at + 1)
  on_blanks c s = same_trans s (same_skip xs short at 1 (here xs at h ∙ divides_gap _ _ c))

  pub on_hash : classed (get_or xs at 0) ≡ Hash → Same xs from at → Same xs from (at + 1 + prefix_len (λ b. on_line (classed b)) (drop (at + 1) xs))
  on_hash c s =
      let n = prefix_len (λ b. on_line (classed b)) (drop (at + 1) xs) in
      let e : at + (1 + n) ≡ at + 1 + n = omega arith in
      same_trans s (rw e at (same_skip xs short at (1 + n) (rw c at (here xs at h))))

  pub on_letter : classed (get_or xs at 0) ≡ Letter → Same xs from at → (start : Position) → start.place ≡ at → start.column ≡ column_at xs at → Within state.Word xs from start (at + 1)
  on_letter c s start p q =
      let e : at + 1 - start.place ≡ 1 = omega arith in
      record { same = rw p s; below = omega arith; column = rw p q; is = rw (e, p) (rw c at (here xs at h)) }

  pub on_digit : classed (get_or xs at 0) ≡ Digit → Same xs from at → (start : Position) → start.place ≡ at → start.column ≡ column_at xs at → Within state.Number xs from start (at + 1)
  on_digit c s start p q =
      let e : at + 1 - start.place ≡ 1 = omega arith in
      record { same = rw p s; below = omega arith; column = rw p q; is = rw (e, p) (rw c at (here xs at h)) }

  pub on_quote : classed (get_or xs at 0) ≡ Quote → Same xs from at → (start : Position) → start.place ≡ at → start.column ≡ column_at xs at → Within state.Text xs from start (at + 1)
  on_quote c s start p q = (record { same = rw p s; below = omega arith; column = rw p q; is = rw p (rw c at (here xs at h)) }, omega arith)

  pub more_word : wordy (classed (get_or xs at 0)) ≡ true → (start : Position) → Within state.Word xs from start at → Within state.Word xs from start (at + 1)
  more_word c start w =
      let l = prefix_len-drop_yes (λ b. wordy (classed b)) xs at 0 h c in
      let k = w.below in
      let e : at - start.place + prefix_len (λ b. wordy (classed b)) (drop at xs) ≡ at + 1 - start.place + prefix_len (λ b. wordy (classed b)) (drop (at + 1) xs) = omega arith in
      record { same = w.same; below = omega arith; column = w.column; is = w.is ∙ ap (token word) e }

  pub more_number : digital (classed (get_or xs at 0)) ≡ true → (start : Position) → Within state.Number xs from start at → Within state.Number xs from start (at + 1)
  more_number c start w =
      let l = prefix_len-drop_yes (λ b. digital (classed b)) xs at 0 h c in
      let k = w.below in
      let e : at - start.place + prefix_len (λ b. digital (classed b)) (drop at xs) ≡ at + 1 - start.place + prefix_len (λ b. digital (classed b)) (drop (at + 1) xs) = omega arith in
      record { same = w.same; below = omega arith; column = w.column; is = w.is ∙ ap (token number) e }

  pub more_comment : on_line (classed (get_or xs at 0)) ≡ true → Same xs from (at + prefix_len (λ b. on_line (classed b)) (drop at xs)) → Same xs from (at + 1 + prefix_len (λ b. on_line (classed b)) (drop (at + 1) xs))
  more_comment c s =
      let l = prefix_len-drop_yes (λ b. on_line (classed b)) xs at 0 h c in
      let e : at + prefix_len (λ b. on_line (classed b)) (drop at xs) ≡ at + 1 + prefix_len (λ b. on_line (classed b)) (drop (at + 1) xs) = omega arith in
      rw e at s

  -- the line feed behind a comment
  pub end_comment : classed (get_or xs at 0) ≡ Line → Same xs from (at + prefix_len (λ b. on_line (classed b)) (drop at xs)) → Same xs from (at + 1)
  end_comment c s =
      let l = prefix_len-drop_no (λ b. on_line (classed b)) xs at 0 h (rw c refl) in
      let e : at + prefix_len (λ b. on_line (classed b)) (drop at xs) ≡ at = omega arith in
      on_blanks (rw c refl) (rw e at s)

  pub word_over : wordy (classed (get_or xs at 0)) ≡ false → prefix_len (λ b. wordy (classed b)) (drop at xs) ≡ 0
  word_over c = prefix_len-drop_no (λ b. wordy (classed b)) xs at 0 h c

  pub number_over : digital (classed (get_or xs at 0)) ≡ false → prefix_len (λ b. digital (classed b)) (drop at xs) ≡ 0
  number_over c = prefix_len-drop_no (λ b. digital (classed b)) xs at 0 h c

  pub stray_post : classed (get_or xs at 0) ≡ Other → Same xs from at → Last xs from (fault (StrayByte at))
  stray_post c s = next_same xs from at s (Err (StrayByte at)) (last_stray xs short at (rw c at (here xs at h)))

-- a mark is one byte
pub mark_post : (xs : List ℕ) → length xs ≤ 65536 → (from : ℕ) (at e : Position) → at.place < length xs → classed (get_or xs at.place 0) ≡ Sign → Same xs from at.place → (part : Lexeme) → class_of part ≡ mark → held part ≡ take (e.place - at.place) (drop at.place xs) → at.column ≡ column_at xs at.place → e.place ≡ at.place + 1 → e.column ≡ past at.column (get_or xs at.place 0) → NextPost xs from (pieced part at e)
mark_post xs short from at e h c s part m bytes q there r =
    let one : e.place - at.place ≡ 1 = omega arith in
    let is : start_of (drop at.place xs) ≡ token mark 1 = rw c at (here xs at.place h) in
    let col : e.column ≡ column_at xs e.place = r ∙ ap (λ x. past x (get_or xs at.place 0)) q ∙ sym (column_more xs at.place h) ∙ ap (column_at xs) (sym there) in
    next_same xs from at.place s (pieced part at e) (piece_post xs short 1 part at e (is ∙ ap (λ x. token x 1) (sym m)) (rw one at bytes) q there col)

-- a run that is over
pub run_post : (xs : List ℕ) → length xs ≤ 65536 → (from : ℕ) (start at : Position) (k : ℕ) (part : Lexeme) → Inside xs from start at.place (token (class_of part) (at.place - start.place + k)) → k ≡ 0 → held part ≡ take (at.place - start.place) (drop start.place xs) → at.column ≡ column_at xs at.place → NextPost xs from (pieced part start at)
run_post xs short from start at k part w z bytes q =
    let b = w.below in
    let e : at.place - start.place + k ≡ at.place - start.place = omega arith in
    next_same xs from start.place w.same (pieced part start at) (piece_post xs short (at.place - start.place) part start at (w.is ∙ ap (token (class_of part)) e) bytes w.column (omega arith) q)

-- at the end of the script
pub word_all : (xs : List ℕ) (at : ℕ) → length xs ≤ at → prefix_len (λ b. wordy (classed b)) (drop at xs) ≡ 0
word_all xs at h = prefix_len-drop_all (λ b. wordy (classed b)) xs at h

pub number_all : (xs : List ℕ) (at : ℕ) → length xs ≤ at → prefix_len (λ b. digital (classed b)) (drop at xs) ≡ 0
number_all xs at h = prefix_len-drop_all (λ b. digital (classed b)) xs at h

blank_post : (xs : List ℕ) → length xs ≤ 65536 → (from at : ℕ) → length xs ≤ at → Same xs from at → Last xs from end
blank_post xs short from at h s = next_same xs from at s (Ok None) (last_end xs short at h)

comment_post : (xs : List ℕ) → length xs ≤ 65536 → (from at : ℕ) → length xs ≤ at → Same xs from (at + prefix_len (λ b. on_line (classed b)) (drop at xs)) → Last xs from end
comment_post xs short from at h s = next_same xs from (at + prefix_len (λ b. on_line (classed b)) (drop at xs)) s (Ok None) (last_end xs short _ (omega arith))

pub end_post : (s : State) → (s ≡ state.Blank) ⊎ (s ≡ state.Comment) → (xs : List ℕ) → length xs ≤ 65536 → (from : ℕ) (start at : Position) → length xs ≤ at.place → Turn s xs from start at → Last xs from end
end_post s (inl e) xs short from start at h t = blank_post xs short from at.place h (turned e t)
end_post s (inr e) xs short from start at h t = comment_post xs short from at.place h (turned e t)

-- one turn more
pub again : (xs : List ℕ) (from : ℕ) (at behind : Position) → at.place < length xs → at.column ≡ column_at xs at.place → behind.place ≡ at.place + 1 → behind.column ≡ past at.column (get_or xs at.place 0) → {s u : State} {a b : Position} → s ≡ u → a ≡ b → Within u xs from b (at.place + 1) → Turn s xs from a behind
again xs from at behind h q p r {s} {u} {a} {b} e f w =
    record {
      lies = omega arith;
      column = r ∙ ap (λ x. past x (get_or xs at.place 0)) q ∙ sym (column_more xs at.place h) ∙ ap (column_at xs) (sym p);
      inside = rw (e, f, p) w;
    }
