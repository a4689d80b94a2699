use Rattle.cutting.specs.Meaning.{meant}
use Rattle.cutting.proofs.Unique.{exactly_one}
use Rattle.cutting.proofs.Laying.{lays, rises}
use Rattle.cutting.proofs.Shaping.{sounds}
use Rattle.cutting.proofs.Faulting.{faults}
use Rattle.cutting.proofs.Determining.{determined}
use Rattle.cutting.proofs.ByLine.{by_line}
use Rattle.cutting.proofs.laws.laws_stand.Goals as goal

pub returns : goal.returns
returns c = record { one = exactly_one; means = meant; laid = lays; rising = rises; sound = sounds; fault = faults; determined = determined; line = by_line }
