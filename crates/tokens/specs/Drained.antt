-- All the tokens of a source, and what comes behind them.
use Rattle.std.specs.Prelude.{◌≡◌, List, Some, None, Ok, Err, vec_items, Option, Result}
use Rattle.std.specs.declared.alloc.AllocError.{AllocError}
use Rattle.tokens.specs.declared.token.Token.{Token}
use Rattle.tokens.specs.declared.refusal.Refusal.{Refusal}
use Rattle.tokens.specs.declared.drain.Drained.{Drained}
use Rattle.tokens.specs.Sources.{Ending, end, fault}

abbrev pub ending_of_fault : Option Refusal → Ending
ending_of_fault None = end
ending_of_fault (Some f) = fault f

-- the tokens are all that the source meant, and the fault is its ending
pub record All (ts : List Token) (e : Ending) (d : Drained) : Type 0 where
  pub tokens : vec_items d.tokens ≡ ts
  pub ending : ending_of_fault d.fault ≡ e

abbrev pub DrainedAll : List Token → Ending → Result Drained AllocError → Type 0
DrainedAll ts e (Ok d) = All ts e d
DrainedAll ts e (Err x) = Unit {0}
