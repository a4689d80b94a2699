use Rattle.charts.proofs.Stable.{cut_spec, link_cut_spec}
use Rattle.charts.proofs.laws.stability_stands.Goals as goal

pub returns : goal.returns
returns c = record { items = cut_spec; links = link_cut_spec }
