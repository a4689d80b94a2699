use Rattle.readings.proofs.Spans.{span, local}
use Rattle.readings.proofs.Nulls.{nullable_spec}
use Rattle.readings.proofs.laws.spans_stand.Goals as goal

pub returns : goal.returns
returns c = record { spans = λ g ts a s e σ xs d. span d; local = local; empty = nullable_spec }
