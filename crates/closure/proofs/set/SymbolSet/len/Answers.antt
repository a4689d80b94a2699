use Rattle.std.proofs.Common.{arith}
use Rattle.closure.proofs.Bits.{ones_tally}
use Rattle.closure.proofs.set.SymbolSet.len.Goals as goal

pub returns-clause-members : goal.returns-clause-members
returns-clause-members c = rw (← c.self.view_is) (ones_tally 64 _ (omega arith))
