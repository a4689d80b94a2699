use Rattle.std.proofs.Common.{rules}
use Rattle.closure.proofs.Ranking.{ranks_found}
use Rattle.closure.proofs.rank.ranks.Goals as goal

pub returns : goal.returns
returns c rs = ranks_found rs _ _ (λ k h. let m = c.map.ensures.items.at k 0 0 h in search rules)
