use Rattle.readings.proofs.Adequacy.{tree_spec, reading_spec}
use Rattle.readings.proofs.laws.adequacy_stands.Goals as goal

pub returns : goal.returns
returns c = record { trees = tree_spec; readings = reading_spec }
