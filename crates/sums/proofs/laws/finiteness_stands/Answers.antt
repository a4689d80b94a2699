use Rattle.sums.proofs.Finite.{finite}
use Rattle.sums.proofs.laws.finiteness_stands.Goals as goal

pub returns : goal.returns
returns c = finite
