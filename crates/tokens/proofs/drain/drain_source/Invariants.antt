use Rattle.std.proofs.Common.{◌≡◌, ◌++◌, length, vec_items}
use Rattle.tokens.proofs.drain.drain_source.Given as goal

abbrev pub invariant-loop-token : goal.invariant-loop-token
invariant-loop-token g l =
    let m = g.S.Source in
    (vec_items l.tokens ++ m.tokens l.source ≡ m.tokens l.initial.source) × (m.ending l.source ≡ m.ending l.initial.source)

abbrev pub decreases-loop-token : goal.decreases-loop-token
decreases-loop-token g l = length (g.S.Source.tokens l.source)
