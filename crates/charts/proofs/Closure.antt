-- Rows that are closed, and hold nothing else, are the chart.
use Rattle.std.proofs.Common.{List}
use Rattle.tokens.specs.declared.token.Token.{Token}
use Rattle.lists.specs.Members.{◌∈◌}
use Rattle.grammar.specs.Grammar.{Grammar}
use Rattle.charts.specs.Chart.{Item, InChart, begin, predict, scan, complete}
use Rattle.charts.specs.Rows.{Closed, Rows}

pub closed_holds : {g : Grammar} {ts : List Token} {x : Item} (R : List Item) → Closed g ts R → InChart g ts x → x ∈ R
closed_holds R c (begin r p h e) = c.begins r p h e
closed_holds R c (predict {x = x} q d a r p h e) = c.predicts x q (closed_holds R c d) a r p h e
closed_holds R c (scan {x = x} {σ = σ} q d a t h e k) = c.scans x q σ (closed_holds R c d) a t h e k
closed_holds R c (complete {x = x} {y = y} {σ = σ} q d a b l e k) = c.completes x y q σ (closed_holds R c d) a (closed_holds R c b) l e k

pub closed_is_chart : (g : Grammar) (ts : List Token) (R : List Item) → Closed g ts R → ((x : Item) → x ∈ R → InChart g ts x) → Rows g ts R
closed_is_chart g ts R c f x = (λ m. f x m, λ d. closed_holds R c d)
