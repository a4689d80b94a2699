use Rattle.std.proofs.Common.{◌≡◌, true, false, sym, refl, ◌∙◌, arith, rules}
use Rattle.cutting.specs.Classes.{divides, wordy, digital, on_line}
use Rattle.cutting.proofs.Moves.{column_le}
use Rattle.cutting.proofs.Steps.{last_long}
use Rattle.script.proofs.Machine.{within_rest, behind_rest, class_here, past_here, turned, again, on_blanks, on_hash, on_letter, on_digit, on_quote, more_word, more_number, more_comment, end_comment, word_over, number_over, stray_post, mark_post, run_post, word_all, number_all, end_post}
use Rattle.script.proofs.cutter.next_piece.Goals as goal
use Rattle.script.proofs.cutter.next_piece.Goals.{in-Blank-Blank, in-Blank-Hash, in-Blank-Letter, in-Blank-Digit, in-Blank-Quote, in-Word-Letter, in-Number-Digit, in-Comment-Line, in-Comment-default}

pub returns-then-script-gt-LONGEST : goal.returns-then-script-gt-LONGEST
returns-then-script-gt-LONGEST c = last_long c.args.script.now c.args.from.place c.if-script-gt-LONGEST.true

pub behind-end-requires-clause-column : goal.behind-end-requires-clause-column
behind-end-requires-clause-column c = let e = column_le c.args.script.now c.loop-b.at.place in omega arith

pub behind-at-requires-clause-column : goal.behind-at-requires-clause-column
behind-at-requires-clause-column c = let e = column_le c.args.script.now c.loop-b.at.place in omega arith

pub returns-in-Blank-Sign : goal.returns-in-Blank-Sign
returns-in-Blank-Sign c =
    rw c.piece.ensures (mark_post c.args.script.now c.if-script-gt-LONGEST.false c.args.from.place c.loop-b.at c.behind-end.result (within_rest c.args.script.now c.args.from.place c.loop-b.b-index c.loop-b.at.place c.loop-b-test.true c.loop-b.invariant.1) (class_here c.args.script.now c.args.from.place c.loop-b.b-index c.loop-b.at.place _ c.loop-b.invariant.1 c.in-Blank-Sign.ensures) (turned c.in-Blank-Sign.is-0 c.loop-b.invariant.0) _ refl c.part.ensures c.loop-b.invariant.0.column c.behind-end.ensures.place (past_here c.args.script.now c.args.from.place c.loop-b.b-index c.loop-b.at c.loop-b.invariant.1 c.behind-end.result c.behind-end.ensures.column))

pub returns-in-Blank-Other : goal.returns-in-Blank-Other
returns-in-Blank-Other c = stray_post c.args.script.now c.if-script-gt-LONGEST.false c.args.from.place c.loop-b.at.place (within_rest c.args.script.now c.args.from.place c.loop-b.b-index c.loop-b.at.place c.loop-b-test.true c.loop-b.invariant.1) (class_here c.args.script.now c.args.from.place c.loop-b.b-index c.loop-b.at.place _ c.loop-b.invariant.1 c.in-Blank-Other.ensures) (turned c.in-Blank-Other.is-0 c.loop-b.invariant.0)

pub returns-in-Word-default : goal.returns-in-Word-default
returns-in-Word-default c =
    let w : wordy c.from.result ≡ false = search rules in
    rw c.piece-in-Word-default.ensures (run_post c.args.script.now c.if-script-gt-LONGEST.false _ _ _ _ _ (turned c.in-Word-default.is-0 c.loop-b.invariant.0) (word_over c.args.script.now c.if-script-gt-LONGEST.false c.args.from.place c.loop-b.at.place (within_rest c.args.script.now c.args.from.place c.loop-b.b-index c.loop-b.at.place c.loop-b-test.true c.loop-b.invariant.1) (rw (sym (class_here c.args.script.now c.args.from.place c.loop-b.b-index c.loop-b.at.place _ c.loop-b.invariant.1 c.from.ensures)) at w)) c.part-in-Word-default.ensures c.loop-b.invariant.0.column)

pub returns-in-Number-default : goal.returns-in-Number-default
returns-in-Number-default c =
    let w : digital c.from.result ≡ false = search rules in
    rw c.piece-in-Number-default.ensures (run_post c.args.script.now c.if-script-gt-LONGEST.false _ _ _ _ _ (turned c.in-Number-default.is-0 c.loop-b.invariant.0) (number_over c.args.script.now c.if-script-gt-LONGEST.false c.args.from.place c.loop-b.at.place (within_rest c.args.script.now c.args.from.place c.loop-b.b-index c.loop-b.at.place c.loop-b-test.true c.loop-b.invariant.1) (rw (sym (class_here c.args.script.now c.args.from.place c.loop-b.b-index c.loop-b.at.place _ c.loop-b.invariant.1 c.from.ensures)) at w)) c.part-in-Number-default.ensures c.loop-b.invariant.0.column)

pub loop-b-preserved : goal.loop-b-preserved
loop-b-preserved c =
    let xs = c.args.script.now in
    let from = c.args.from.place in
    let at = c.loop-b.at in
    let p = c.loop-b.at.place in
    let lt = (within_rest c.args.script.now c.args.from.place c.loop-b.b-index c.loop-b.at.place c.loop-b-test.true c.loop-b.invariant.1) in
    let t = c.loop-b.invariant.0 in
    let short = c.if-script-gt-LONGEST.false in
    let b = c.behind-at.result in
    let bp = c.behind-at.ensures.place in
    let bc = past_here xs from c.loop-b.b-index at c.loop-b.invariant.1 b c.behind-at.ensures.column in (
      elim c.match-state.branch [
        | in-Blank-Blank w ↦ again xs from at b lt t.column bp bc (w.state-is ∙ w.in-Blank-Blank.is-0) w.start-is (let k : divides c.from.result ≡ true = search rules in on_blanks xs short from p lt (rw (sym (class_here c.args.script.now c.args.from.place c.loop-b.b-index c.loop-b.at.place _ c.loop-b.invariant.1 c.from.ensures)) at k) (turned w.in-Blank-Blank.is-0 t))
        | in-Blank-Hash w ↦ again xs from at b lt t.column bp bc w.state-is w.start-is (on_hash xs short from p lt (class_here c.args.script.now c.args.from.place c.loop-b.b-index c.loop-b.at.place _ c.loop-b.invariant.1 w.in-Blank-Hash.ensures) (turned w.in-Blank-Hash.is-0 t))
        | in-Blank-Letter w ↦ again xs from at b lt t.column bp bc w.state-is w.start-is (on_letter xs short from p lt (class_here c.args.script.now c.args.from.place c.loop-b.b-index c.loop-b.at.place _ c.loop-b.invariant.1 w.in-Blank-Letter.ensures) (turned w.in-Blank-Letter.is-0 t) at refl t.column)
        | in-Blank-Digit w ↦ again xs from at b lt t.column bp bc w.state-is w.start-is (on_digit xs short from p lt (class_here c.args.script.now c.args.from.place c.loop-b.b-index c.loop-b.at.place _ c.loop-b.invariant.1 w.in-Blank-Digit.ensures) (turned w.in-Blank-Digit.is-0 t) at refl t.column)
        | in-Blank-Quote w ↦ again xs from at b lt t.column bp bc w.state-is w.start-is (on_quote xs short from p lt (class_here c.args.script.now c.args.from.place c.loop-b.b-index c.loop-b.at.place _ c.loop-b.invariant.1 w.in-Blank-Quote.ensures) (turned w.in-Blank-Quote.is-0 t) at refl t.column)
        | in-Word-Letter w ↦ again xs from at b lt t.column bp bc (w.state-is ∙ w.in-Word-Letter.is-0) w.start-is (let k : wordy c.from.result ≡ true = search rules in more_word xs short from p lt (rw (sym (class_here c.args.script.now c.args.from.place c.loop-b.b-index c.loop-b.at.place _ c.loop-b.invariant.1 c.from.ensures)) at k) _ (turned w.in-Word-Letter.is-0 t))
        | in-Number-Digit w ↦ again xs from at b lt t.column bp bc (w.state-is ∙ w.in-Number-Digit.is-0) w.start-is (let k : digital c.from.result ≡ true = search rules in more_number xs short from p lt (rw (sym (class_here c.args.script.now c.args.from.place c.loop-b.b-index c.loop-b.at.place _ c.loop-b.invariant.1 c.from.ensures)) at k) _ (turned w.in-Number-Digit.is-0 t))
        | in-Comment-Line w ↦ again xs from at b lt t.column bp bc w.state-is w.start-is (end_comment xs short from p lt (class_here c.args.script.now c.args.from.place c.loop-b.b-index c.loop-b.at.place _ c.loop-b.invariant.1 w.in-Comment-Line.ensures) (turned w.in-Comment-Line.is-0 t))
        | in-Comment-default w ↦ again xs from at b lt t.column bp bc (w.state-is ∙ w.in-Comment-default.is-0) w.start-is (let k : on_line c.from.result ≡ true = search rules in more_comment xs short from p lt (rw (sym (class_here c.args.script.now c.args.from.place c.loop-b.b-index c.loop-b.at.place _ c.loop-b.invariant.1 c.from.ensures)) at k) (turned w.in-Comment-default.is-0 t))
      ],
      omega arith,
    )

pub returns-in-Blank : goal.returns-in-Blank
returns-in-Blank c = end_post c.loop-b.state c.in-Blank.is c.args.script.now c.if-script-gt-LONGEST.false c.args.from.place _ _ (behind_rest c.args.script.now c.args.from.place c.loop-b.b-index c.loop-b.at.place c.requires.lies c.loop-b-test.false c.loop-b.invariant.1) c.loop-b.invariant.0

pub returns-in-Word : goal.returns-in-Word
returns-in-Word c =
    rw c.piece-in-Word.ensures (run_post c.args.script.now c.if-script-gt-LONGEST.false _ _ _ _ _ (turned c.in-Word.is c.loop-b.invariant.0) (word_all c.args.script.now c.loop-b.at.place (behind_rest c.args.script.now c.args.from.place c.loop-b.b-index c.loop-b.at.place c.requires.lies c.loop-b-test.false c.loop-b.invariant.1)) c.part-in-Word.ensures c.loop-b.invariant.0.column)

pub returns-in-Number : goal.returns-in-Number
returns-in-Number c =
    rw c.piece-in-Number.ensures (run_post c.args.script.now c.if-script-gt-LONGEST.false _ _ _ _ _ (turned c.in-Number.is c.loop-b.invariant.0) (number_all c.args.script.now c.loop-b.at.place (behind_rest c.args.script.now c.args.from.place c.loop-b.b-index c.loop-b.at.place c.requires.lies c.loop-b-test.false c.loop-b.invariant.1)) c.part-in-Number.ensures c.loop-b.invariant.0.column)
