use Rattle.std.proofs.Common.{vec_items}
use Rattle.closure.proofs.Ranking.{rank_falls}
use Rattle.dialect.proofs.Goodness.{faultless_formed}
use Rattle.dialect.proofs.dialect.Dialect.rank.Goals as goal

pub returns-then-nonterminal-clause-falls : goal.returns-then-nonterminal-clause-falls
returns-then-nonterminal-clause-falls c =
    let d = c.args.self.now in
    rank_falls (vec_items d.rules) d.start (faultless_formed _ (vec_items d.rules) d.start d.allowed) d.acyclic

pub returns-else-nonterminal-clause-falls : goal.returns-else-nonterminal-clause-falls
returns-else-nonterminal-clause-falls c =
    let d = c.args.self.now in
    rank_falls (vec_items d.rules) d.start (faultless_formed _ (vec_items d.rules) d.start d.allowed) d.acyclic
