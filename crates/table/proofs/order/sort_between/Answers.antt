use Rattle.std.proofs.Common.{refl}
use Rattle.table.proofs.Sorting.{ascends_rising, sorts}
use Rattle.table.proofs.order.sort_between.Goals as goal

pub returns : goal.returns
returns c = sorts _ _ _ _ c.requires.0 c.requires.1 c.sort_unstable.ensures.permutation (ascends_rising _ _ refl c.sort_unstable.ensures.sorted)
