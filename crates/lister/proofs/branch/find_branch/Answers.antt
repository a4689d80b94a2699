use Rattle.std.proofs.Common.{◌-◌, arith}
use Rattle.std.proofs.lemmas.List.{take-take}
use Rattle.lister.proofs.Branching.{leads_end, misses_end}
use Rattle.lister.proofs.branch.find_branch.Goals as goal

pub returns-in-Some-clause-branches : goal.returns-in-Some-clause-branches
returns-in-Some-clause-branches g c = λ t room p s h.
    let e = c.in-Some.ensures t room _ (c.walk-walked.ensures.walked t room p s h).there in
    (e.0, leads_end _ _ _ _ c.if-walked-list.false e.1)

pub returns-clause-branches : goal.returns-clause-branches
returns-clause-branches g c = λ t room p s h.
    let n = c.walk-walked.result in
    let e = c.in_default.ensures t room _ (c.walk-walked.ensures.walked t room p s h).there in
    c.search_back-2.ensures.branches t room _ e.0 (take-take (n - 1) n c.args.list.now (omega arith)) (misses_end _ _ _ c.if-walked-list.false e.1)
