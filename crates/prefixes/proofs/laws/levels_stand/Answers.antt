use Rattle.prefixes.proofs.Climbing.{completes_spec}
use Rattle.prefixes.proofs.Deriving.{derivative}
use Rattle.prefixes.proofs.laws.levels_stand.Goals as goal

pub returns : goal.returns
returns c = record { completed = completes_spec; derived = λ g ts r s us y w a vs. derivative a w vs }
