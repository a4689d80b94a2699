use Rattle.charts.proofs.Decomposing.{decomposition}
use Rattle.charts.proofs.Readable.{readable}
use Rattle.charts.proofs.laws.links_stand.Goals as goal

pub returns : goal.returns
returns c = record { decomposed = λ g ts x xs c n. decomposition c n; unambiguous = readable }
