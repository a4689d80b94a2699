use Rattle.charts.proofs.Closure.{closed_is_chart}
use Rattle.charts.proofs.laws.closure_stands.Goals as goal

pub returns : goal.returns
returns c = closed_is_chart
