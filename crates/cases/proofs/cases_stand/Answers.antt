use Rattle.cases.proofs.Judging.{cases_stand, crowded}
use Rattle.cases.proofs.cases_stand.Goals as goal

pub returns : goal.returns
returns c = record { cases = cases_stand; crowded = crowded }
