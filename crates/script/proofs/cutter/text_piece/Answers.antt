use Rattle.std.proofs.Common.{◌≡◌, ◌+◌, drop, Some, None, ◌∙◌, arith, length-drop, length-take}
use Rattle.cutting.specs.Starts.{token, text, start_of}
use Rattle.cutting.proofs.Moves.{column_le, columns_to}
use Rattle.cutting.proofs.Steps.{last_open, last_open_far}
use Rattle.script.proofs.Pieces.{piece_post, text_open, taken_to}
use Rattle.script.proofs.cutter.text_piece.Goals as goal

pub columns-column-requires : goal.columns-column-requires
columns-column-requires c =
    let le = column_le c.args.script.now c.args.behind.place in
    simp (length-take, length-drop) (omega arith)

pub returns-in-None : goal.returns-in-None
returns-in-None c =
    last_open_far c.args.script.now c.requires.short c.args.start.place (text_open c.args.script.now c.args.start.place c.args.behind.place None c.requires.quote c.in-None.ensures.answer) (omega arith)

pub returns-in-None-2 : goal.returns-in-None-2
returns-in-None-2 c =
    last_open c.args.script.now c.requires.short c.args.start.place (text_open c.args.script.now c.args.start.place c.args.behind.place None c.requires.quote c.in-None.ensures.answer) (omega arith)

pub returns-in-Some : goal.returns-in-Some
returns-in-Some c =
    let xs = c.args.script.now in
    let start = c.args.start.place in
    let inside = c.args.behind.place in
    let n = c.in-Some.n in
    let there : inside + n + 1 ≡ start + (n + 2) = omega arith in
    let is : start_of (drop start xs) ≡ token text (n + 2) = text_open xs start inside (Some n) c.requires.quote c.in-Some.ensures.answer in
    let behind = c.columns-column.ensures ∙ columns_to xs inside (inside + n + 1) c.args.behind.column (omega arith) c.requires.column in
    rw c.piece.ensures (piece_post xs c.requires.short (n + 2) _ _ _ is (c.part.ensures ∙ taken_to xs start (inside + n + 1) (n + 2) there) c.requires.starts there behind)
