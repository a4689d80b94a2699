-- Lists of items that hold all that the four properties of a chart make.
use Rattle.std.specs.Prelude.{◌≡◌, ℕ, suc, ◌↔◌, List, Some}
use Rattle.indent.specs.declared.summary.Summary.{Summary}
use Rattle.indent.specs.declared.summary.Summary.TheVariants.{Exact}
use Rattle.indent.specs.Summaries.{passed}
use Rattle.tokens.specs.declared.token.Token.{Token}
use Rattle.lists.specs.Entries.{nth}
use Rattle.lists.specs.Members.{◌∈◌}
use Rattle.grammar.specs.Grammar.{Grammar, Rule, Place}
use Rattle.charts.specs.Chart.{Item, Awaits, Finished, fresh, advanced, InChart}

-- every item that the items of R make from each other stands in R
pub record Closed (g : Grammar) (ts : List Token) (R : List Item) : Type 0 where
  pub begins : (r : ℕ) (p : Rule) → nth g.rules r ≡ Some p → p.left ≡ g.start → fresh r 0 ∈ R
  pub predicts : (x : Item) (q : Place) → x ∈ R → Awaits g x q → (r : ℕ) (p : Rule) → nth g.rules r ≡ Some p → p.left ≡ q.symbol → fresh r x.to ∈ R
  pub scans : (x : Item) (q : Place) (σ : Summary) → x ∈ R → Awaits g x q → (t : Token) → nth ts x.to ≡ Some t → t.kind ≡ q.symbol → passed x.summary q.relation (Exact t.column) ≡ Some σ → advanced x (suc x.to) σ ∈ R
  pub completes : (x y : Item) (q : Place) (σ : Summary) → x ∈ R → Awaits g x q → y ∈ R → Finished g y q.symbol → y.from ≡ x.to → passed x.summary q.relation y.summary ≡ Some σ → advanced x y.to σ ∈ R

-- the items of R are those of the chart
abbrev pub Rows : Grammar → List Token → List Item → Type 0
Rows g ts R = (x : Item) → x ∈ R ↔ InChart g ts x
