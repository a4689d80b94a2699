use Rattle.std.proofs.Common.{◌≡◌, ◌++◌, Err, ap, rules, arith}
use Rattle.tokens.specs.declared.refusal.Refusal.TheVariants.{LongList}
use Rattle.std.proofs.lemmas.List.{length-take-le}
use Rattle.lister.proofs.Answering.{answer_found, answer_long}
use Rattle.lister.proofs.answer.write_least.Goals as goal

pub returns-clause-answered : goal.returns-clause-answered
returns-clause-answered g c = λ t room p s h.
    let inside = c.in-Some.ensures.inside in
    let b = c.in-Some.ensures.branches t room p s (omega arith) in
    let f = c.complete.ensures.completes t room _ b.0 (omega (arith, length-take-le _ _ inside, c.split_at_mut-kept.ensures.back_len)) b.1.continues in
    (f.0, answer_found _ _ _ _ inside b.1 _ c.complete.new.rest (ap (λ x. x ++ c.complete.new.rest) c.copy_from_slice.ensures.after) _ (omega (arith, c.split_at_mut-kept.ensures.back_len)) (rw c.in_ok-n.ensures.ok_part at f.1))

pub returns-in_err-n-clause-answered : goal.returns-in_err-n-clause-answered
returns-in_err-n-clause-answered g c = λ t room p s h.
    let inside = c.in-Some.ensures.inside in
    let b = c.in-Some.ensures.branches t room p s (omega arith) in
    let f = c.complete.ensures.completes t room _ b.0 (omega (arith, length-take-le _ _ inside, c.split_at_mut-kept.ensures.back_len)) b.1.continues in
    let a = answer_long _ _ _ _ inside b.1 _ c.complete.new.rest (ap (λ x. x ++ c.complete.new.rest) c.copy_from_slice.ensures.after) (rw c.in_err-n.ensures.ok_part at f.1) in
    let e : c.from_residual.result ≡ Err LongList = search rules in
    (f.0, rw e a)
