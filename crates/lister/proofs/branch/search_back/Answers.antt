use Rattle.std.proofs.Common.{sym, ap, ◌∙◌, subst, arith}
use Rattle.std.specs.List.{push}
use Rattle.lister.proofs.Branching.{taken, sought_at, sought_less, sought_leads, sought_last}
use Rattle.lister.proofs.branch.search_back.Goals as goal

pub loop-at-preserved : goal.loop-at-preserved
loop-at-preserved g c =
    let (first, zero, sought) = c.loop-at.invariant in
    let (count, (behind, number, _)) = c.in-Some.ensures.steps in
    let k = taken c.args.list.now _ _ c.in-Some.at c.from.result first (behind ∙ ap (push _) (sym c.from.ensures)) (omega (arith, zero, number)) in (
      k.first,
      count ∙ zero,
      λ t room p s e m.
          let i = sought t room p s e m in
          let a = subst (g.C.Cursor.stands c.back.new.self t room) (sought_at _ _ _ _ _ _ _ k i) (c.back.ensures t room i.prefix i.there) in
          let h = c.in_default.ensures t room _ a in
          sought_less _ _ _ _ _ _ _ k i _ h.0 h.1,
    )

pub returns-in-Some-least-clause-branches : goal.returns-in-Some-least-clause-branches
returns-in-Some-least-clause-branches g c =
    let (first, zero, sought) = c.loop-at.invariant in
    let (count, (behind, number, _)) = c.in-Some.ensures.steps in
    let k = taken c.args.list.now _ _ c.in-Some.at c.from.result first (behind ∙ ap (push _) (sym c.from.ensures)) (omega (arith, zero, number)) in
    λ t room p s e m.
    let i = sought t room p s e m in
    let a = subst (g.C.Cursor.stands c.back.new.self t room) (sought_at _ _ _ _ _ _ _ k i) (c.back.ensures t room i.prefix i.there) in
    let h = c.in-Some-least.ensures t room _ a in
    (h.0, sought_leads _ _ _ _ _ _ _ k i _ h.1)

pub returns-clause-branches : goal.returns-clause-branches
returns-clause-branches g c = λ t room p s e m.
    let i = c.loop-at.invariant.2 t room p s e m in
    ((i.prefix, i.there), sought_last _ _ _ _ c.in-None.ensures.steps.1.0 i)
