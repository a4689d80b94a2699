-- What is proved of the worked cases.
use Rattle.std.specs.Prelude.{[], ◌∷◌}
use Rattle.lists.specs.Members.{◌∈◌}
use Rattle.rows.specs.Meaning.{grammar_of_rows}
use Rattle.charts.specs.Chart.{InChart}
use Rattle.charts.specs.Links.{InForest}
use Rattle.cases.specs.Dialects.{strict}
use Rattle.cases.specs.Case.{Case, Spots, words, More, Holds}
use Rattle.cases.specs.Table.{table}

-- every row of the table holds, wherever its words stand
abbrev pub Cases : Type 0
Cases = (s : Spots) (c : Case) → c ∈ table → Holds s c

-- a word at column 0 under STRICT has more items than 11 rows hold, and more links than 3 rows hold
pub record Crowded : Type 0 where
  pub items : (s : Spots) → More 11 (InChart (grammar_of_rows strict 256) (words s 0 (0 ∷ [])))
  pub links : (s : Spots) → More 3 (InForest (grammar_of_rows strict 256) (words s 0 (0 ∷ [])))
