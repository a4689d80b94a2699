use Rattle.std.proofs.Common.{arith}
use Rattle.closure.proofs.Bits.{has_with, or_grows}
use Rattle.closure.proofs.Sets.{in_insert}
use Rattle.closure.proofs.set.SymbolSet.with.Goals as goal

pub returns-clause-symbols : goal.returns-clause-symbols
returns-clause-symbols c = rw (← c.self.view_is) (in_insert _ _ _ c.requires (has_with _ _ (omega arith)))

pub returns-clause-grown : goal.returns-clause-grown
returns-clause-grown c = rw (← c.self.view_is) (or_grows _ _)
