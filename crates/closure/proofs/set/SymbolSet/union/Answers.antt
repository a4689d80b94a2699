use Rattle.closure.proofs.Bits.{has_or}
use Rattle.closure.proofs.Sets.{in_union}
use Rattle.closure.proofs.set.SymbolSet.union.Goals as goal

pub returns-clause-bits : goal.returns-clause-bits
returns-clause-bits c = rw (← c.self.view_is, ← c.other.view_is) (has_or _ _)

pub returns-clause-symbols : goal.returns-clause-symbols
returns-clause-symbols c = rw (← c.self.view_is, ← c.other.view_is) (in_union _ _ _ (has_or _ _))
