-- A request that was read is what its line asks for.
use Rattle.std.proofs.Common.{◌≡◌, ℕ, Some, Ok, Err, vec_items, Option, Result, Vec, sym, subst}
use Rattle.std.specs.declared.alloc.Global.{Global}
use Rattle.std.specs.declared.alloc.AllocError.{AllocError}
use Rattle.lines.specs.declared.answer.Answer.{Answer}
use Rattle.lines.specs.Requests.{Asks}
use Rattle.session.specs.declared.state.Session.{Session}
use Rattle.session.specs.Steps.{Step, Runs, Responds}

pub responds : (was now : Session) (n : ℕ) (o : Option Asks) (asks : Asks) (r : Result (Vec Answer Global) AllocError) → o ≡ Some asks → Runs was now asks r → Responds was now n o r
responds was now n o asks (Ok v) e h = subst (λ (p : Option Asks). Step was now n p (vec_items v)) (sym e) (h n)
responds was now n o asks (Err x) e h = tt
