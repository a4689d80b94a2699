use Rattle.grammar.proofs.Reaching.{reaches_decides}
use Rattle.dialect.proofs.Order.{determined}
use Rattle.dialect.proofs.Samples.{cycle_refused, left_loads}
use Rattle.dialect.proofs.laws.loading_stands.Goals as goal

pub returns-clause-determined : goal.returns-clause-determined
returns-clause-determined c = determined

pub returns-clause-cycle : goal.returns-clause-cycle
returns-clause-cycle c = cycle_refused

pub returns-clause-left : goal.returns-clause-left
returns-clause-left c = left_loads

pub returns-clause-reaches : goal.returns-clause-reaches
returns-clause-reaches c = reaches_decides
