use Rattle.charts.proofs.Room.{chart_fits}
use Rattle.charts.proofs.laws.room_stands.Goals as goal

pub returns : goal.returns
returns c = chart_fits
