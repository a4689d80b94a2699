use Rattle.readings.proofs.Ordering.{before_irreflexive, before_transitive, before_total}
use Rattle.readings.proofs.laws.order_stands.Goals as goal

pub returns : goal.returns
returns c = record { irreflexive = before_irreflexive; transitive = before_transitive; total = before_total }
