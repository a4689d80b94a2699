use Rattle.std.proofs.Common.{◌++◌, take, arith}
use Rattle.std.proofs.lemmas.Bool.Decides.{not_from_Decides}
use Rattle.lister.proofs.Writing.{shorter, turn_start, turn_more, turn_whole, turn_goes_on, turn_full}
use Rattle.lister.proofs.writer.complete.Goals as goal

pub loop-n-init : goal.loop-n-init
loop-n-init g c = λ t room p s h y. turn_start _ p c.args.rule _ _ _ s (c.fill.ensures.after (λ y p. p)) y

pub loop-n-preserved : goal.loop-n-preserved
loop-n-preserved g c = λ t room p s h y.
    let i = c.loop-n.invariant t room p s h y in
    let f = c.if-not-follow.ensures t room _ i.there (shorter p c.loop-n.rest c.loop-n.n room (omega arith) (omega arith)) in
    let w = c.whole.ensures t room _ f in
    let l = c.in_ok-next.ensures t room _ w.0 in
    turn_more _ p c.args.rule _ _ c.loop-n.rest c.loop-n.n c.loop-n.next _ (omega arith) i l.0 (not_from_Decides c.whole.result w.1 c.if-whole.false) l.1

pub returns-clause-completes : goal.returns-clause-completes
returns-clause-completes g c = λ t room p s h y.
    let i = c.loop-n.invariant t room p s h y in
    ((p ++ take c.loop-n.n c.loop-n.rest, i.there), turn_full _ p c.args.rule _ c.loop-n.rest c.loop-n.n c.loop-n.next (g.C.Cursor.lawful c.args.cursor.now t room p s) (omega arith) i y)

pub returns-then-not-follow-clause-completes : goal.returns-then-not-follow-clause-completes
returns-then-not-follow-clause-completes g c = λ t room p s h y.
    let i = c.loop-n.invariant t room p s h y in
    let f = c.if-not-follow.ensures t room _ i.there (shorter p c.loop-n.rest c.loop-n.n room (omega arith) (omega arith)) in
    absurd (f.1 i.toward.continues)

pub returns-then-whole-clause-completes : goal.returns-then-whole-clause-completes
returns-then-whole-clause-completes g c = λ t room p s h y.
    let i = c.loop-n.invariant t room p s h y in
    let f = c.if-not-follow.ensures t room _ i.there (shorter p c.loop-n.rest c.loop-n.n room (omega arith) (omega arith)) in
    let w = c.whole.ensures t room _ f in
    ((_, w.0), turn_whole _ p c.args.rule _ c.loop-n.rest c.loop-n.n c.loop-n.next (g.C.Cursor.lawful c.args.cursor.now t room p s) (omega arith) i (w.1.0 c.if-whole.true))

pub returns-in_err-next-clause-completes : goal.returns-in_err-next-clause-completes
returns-in_err-next-clause-completes g c = λ t room p s h y.
    let i = c.loop-n.invariant t room p s h y in
    let f = c.if-not-follow.ensures t room _ i.there (shorter p c.loop-n.rest c.loop-n.n room (omega arith) (omega arith)) in
    let w = c.whole.ensures t room _ f in
    let l = c.in_err-next.ensures t room _ w.0 in
    absurd (turn_goes_on _ p c.args.rule _ c.loop-n.rest c.loop-n.n c.loop-n.next i (not_from_Decides c.whole.result w.1 c.if-whole.false) l.1)
