use Rattle.std.proofs.Common.{vec_items, rules, arith}
use Rattle.lister.proofs.Collecting.{last_same, begun_more, begun_end}
use Rattle.lister.proofs.listing.collect.Goals as goal

pub loop-lists-preserved : goal.loop-lists-preserved
loop-lists-preserved g c = (
  omega arith,
  λ t room p s h.
      let i = c.loop-lists.invariant.1 t room p s h in
      let q = last_same vec_items _ _ _ c.deref.ensures.value c.last_of.ensures in
      let a = c.in_ok-n.ensures.answered t room i.0.0 i.0.1 (omega arith) in
      (a.0, begun_more _ _ _ _ _ c.next.new.buffer c.in_ok-n.field-0 c.in-Some.n (omega arith) i.1 q c.in-Some.is a.1 (search rules)),
)

pub returns : goal.returns
returns g c = λ t room p s h.
    let i = c.loop-lists.invariant.1 t room p s h in
    let q = last_same vec_items _ _ _ c.deref.ensures.value c.last_of.ensures in
    let a = c.in_ok-n.ensures.answered t room i.0.0 i.0.1 (omega arith) in
    let b = begun_end _ _ _ _ c.next.new.buffer c.in_ok-n.field-0 (g.C.Cursor.lawful _ t room p s) i.1 q (search rules) a.1 in
    (a.0, b.0, b.1)
