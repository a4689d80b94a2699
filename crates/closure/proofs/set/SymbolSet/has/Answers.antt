use Rattle.closure.proofs.Bits.{has_read}
use Rattle.closure.proofs.set.SymbolSet.has.Goals as goal

pub returns : goal.returns
returns c = rw (← c.self.view_is) (has_read _ _)
