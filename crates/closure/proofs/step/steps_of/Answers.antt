use Rattle.std.proofs.lemmas.Bool.Decides.{not_from_Decides}
use Rattle.rows.specs.Rows.{no_place}
use Rattle.closure.proofs.Stepping.{counted_in, steps_none, steps_more, steps_left}
use Rattle.closure.proofs.step.steps_of.Goals as goal

pub loop-j-init : goal.loop-j-init
loop-j-init c = steps_none c.args.nullable c.args.row.now c.new-out.result c.new-out.ensures

pub loop-j-preserved : goal.loop-j-preserved
loop-j-preserved c =
    let row = c.args.row.now in
    let j = c.loop-j.j in
    let (is, l) = counted_in row c.counted-place-items.result.now j no_place c.counted-place-items.ensures.places c.loop-j-test.true in
    elim c.if-nonterminal.branch [
      | goal.then-nonterminal+then-others_in w ↦ rw w.out-is (steps_more c.args.nullable row j c.loop-j.out _ is c.loop-j.invariant w.with-out.result (c.nonterminal.ensures.0 w.if-nonterminal.true) l (w.others_in.ensures.0 w.if-others_in.true) w.with-out.ensures.symbols)
      | goal.else-nonterminal w ↦ rw w.out-is (steps_left c.args.nullable row j c.loop-j.out _ is c.loop-j.invariant (λ n o. elim w.else-nonterminal.branch [
        | goal.else-nonterminal-via-then-nonterminal+else-others_in v ↦ not_from_Decides v.others_in.result v.others_in.ensures v.if-others_in.false o
        | goal.else-nonterminal-via-else-nonterminal v ↦ not_from_Decides c.nonterminal.result c.nonterminal.ensures v.if-nonterminal.false n
      ]))
    ]
