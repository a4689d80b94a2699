use Rattle.semiring.proofs.Totals.{pair_means}
use Rattle.semiring.proofs.meaning.pairs_stand.Goals as goal

pub returns : goal.returns
returns g c = pair_means g.A.Semiring.ops g.B.Semiring.ops
