-- The items of one end while they grow, over any tokens: the first k of them have had their turn.
use Rattle.std.specs.Prelude.{◌≡◌, ℕ, suc, List, [], ◌∷◌, ◌++◌, length, take, Some}
use Rattle.indent.specs.declared.summary.Summary.{Summary}
use Rattle.indent.specs.declared.summary.Summary.TheVariants.{Exact}
use Rattle.indent.specs.Summaries.{passed}
use Rattle.tokens.specs.declared.token.Token.{Token}
use Rattle.lists.specs.Entries.{nth}
use Rattle.lists.specs.Members.{◌∈◌}
use Rattle.grammar.specs.Grammar.{Grammar, Rule, Place}
use Rattle.charts.specs.Chart.{Item, Awaits, Finished, fresh, advanced, InChart}

-- the items N of the end e, behind the items R of lower ends: the first k of N have had their turn
pub record Agenda (g : Grammar) (us : List Token) (e : ℕ) (R N : List Item) (k : ℕ) : Type 0 where
  pub here : (x : Item) → x ∈ N → x.to ≡ e
  pub sound : (x : Item) → x ∈ N → InChart g us x
  pub predicts : (x : Item) (q : Place) → x ∈ take k N → Awaits g x q → (r : ℕ) (p : Rule) → nth g.rules r ≡ Some p → p.left ≡ q.symbol → fresh r e ∈ N
  pub completes : (x y : Item) (q : Place) (σ : Summary) → (x ∈ (R ++ take k N)) → Awaits g x q → y ∈ take k N → Finished g y q.symbol → y.from ≡ x.to → passed x.summary q.relation y.summary ≡ Some σ → advanced x e σ ∈ N

-- M holds what the turn of z must add to N: its predictions, what it completes as the finished item, and what an
-- earlier finished item or itself completes of it
pub record Turn (g : Grammar) (us : List Token) (e : ℕ) (R N : List Item) (k : ℕ) (z : Item) (M : List Item) : Type 0 where
  pub here : (x : Item) → x ∈ M → x.to ≡ e
  pub sound : (x : Item) → x ∈ M → InChart g us x
  pub predicts : (q : Place) → Awaits g z q → (r : ℕ) (p : Rule) → nth g.rules r ≡ Some p → p.left ≡ q.symbol → fresh r e ∈ (N ++ M)
  pub ends : (x : Item) (q : Place) (σ : Summary) → x ∈ (R ++ take (suc k) N) → Awaits g x q → Finished g z q.symbol → z.from ≡ x.to → passed x.summary q.relation z.summary ≡ Some σ → advanced x e σ ∈ (N ++ M)
  pub awaits : (y : Item) (q : Place) (σ : Summary) → Awaits g z q → y ∈ take k N → Finished g y q.symbol → y.from ≡ z.to → passed z.summary q.relation y.summary ≡ Some σ → advanced z e σ ∈ (N ++ M)

-- the items N that the token t adds to the items R of the chart of ts: those that pass t, and all that follows from them
pub record Fed (g : Grammar) (ts : List Token) (t : Token) (R N : List Item) : Type 0 where
  pub scans : (x : Item) (q : Place) (σ : Summary) → x ∈ R → x.to ≡ length ts → Awaits g x q → t.kind ≡ q.symbol → passed x.summary q.relation (Exact t.column) ≡ Some σ → advanced x (suc (length ts)) σ ∈ N
  pub agenda : Agenda g (ts ++ t ∷ []) (suc (length ts)) R N (length N)

-- the items before the first token: those of the start symbol's rules, and all that follows from them
pub record First (g : Grammar) (N : List Item) : Type 0 where
  pub begins : (r : ℕ) (p : Rule) → nth g.rules r ≡ Some p → p.left ≡ g.start → fresh r 0 ∈ N
  pub agenda : Agenda g [] 0 [] N (length N)
