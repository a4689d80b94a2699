use Rattle.charts.proofs.Sound.{sound}
use Rattle.charts.proofs.Complete.{derived}
use Rattle.charts.proofs.Roots.{roots_spec}
use Rattle.charts.proofs.laws.items_stand.Goals as goal

pub returns : goal.returns
returns c = record { sound = λ g ts x d. sound d; complete = λ g ts x xs c d. derived c d; recognized = roots_spec }
