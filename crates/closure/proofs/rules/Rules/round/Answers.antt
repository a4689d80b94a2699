use Rattle.std.proofs.Common.{sym, ◌∙◌, arith}
use Rattle.closure.proofs.Nulls.{turn_left, turn_insert}
use Rattle.closure.proofs.rules.Rules.round.Goals as goal

pub loop-row-preserved : goal.loop-row-preserved
loop-row-preserved c =
    let rows = c.args.self.now.rows.now in
    let i = c.loop-row.row-index in
    elim c.if-all_in.branch [
      | goal.then-all_in w ↦ rw w.out-is (turn_insert rows c.args.set c.loop-row.out w.with-out.result i c.loop-row.invariant (omega arith) (sym c.all_in.ensures ∙ w.if-all_in.true) w.with-out.ensures.symbols w.with-out.ensures.grown)
      | goal.else-all_in w ↦ rw w.out-is (turn_left rows c.args.set c.loop-row.out i c.loop-row.invariant (sym c.all_in.ensures ∙ w.if-all_in.false))
    ]
