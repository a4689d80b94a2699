use Rattle.charts.proofs.Cycles.{no_list}
use Rattle.charts.proofs.laws.cycles_stand.Goals as goal

pub returns : goal.returns
returns c = λ g ts x z R p r e. no_list p r e
