-- Earley's items for tokens: the chart is the least set of items with four properties.
use Rattle.std.specs.Prelude.{◌≡◌, ℕ, suc, List, length, Some}
use Rattle.indent.specs.declared.summary.Summary.{Summary}
use Rattle.indent.specs.declared.summary.Summary.TheVariants.{Free, Exact}
use Rattle.indent.specs.Summaries.{passed}
use Rattle.tokens.specs.declared.token.Token.{Token}
use Rattle.lists.specs.Entries.{nth}
use Rattle.grammar.specs.Grammar.{Grammar, Rule, Place}

-- a rule with a dot that counts the places passed, the tokens that they stand over, and their summary
pub record Item : Type 0 where
  pub rule : ℕ
  pub dot : ℕ
  pub from : ℕ
  pub to : ℕ
  pub summary : Summary

-- the place q stands behind the dot of x
pub record Awaits (g : Grammar) (x : Item) (q : Place) : Type 0 where
  pub of : Rule
  pub is : nth g.rules x.rule ≡ Some of
  pub there : nth of.places x.dot ≡ Some q

-- the dot of x has passed every place, and its rule is one of the symbol a
pub record Finished (g : Grammar) (x : Item) (a : ℕ) : Type 0 where
  pub of : Rule
  pub is : nth g.rules x.rule ≡ Some of
  pub all : x.dot ≡ length of.places
  pub left : of.left ≡ a

-- the rule r with no place passed, at the end e
abbrev pub fresh : ℕ → ℕ → Item
fresh r e = record { rule = r; dot = 0; from = e; to = e; summary = Free }

-- x with its dot one higher, up to e, with the summary σ
abbrev pub advanced : Item → ℕ → Summary → Item
advanced x e σ = record { rule = x.rule; dot = suc x.dot; from = x.from; to = e; summary = σ }

-- the chart of the tokens
pub data InChart (g : Grammar) (ts : List Token) : Item → Type 0 where
  begin : (r : ℕ) (p : Rule) → nth g.rules r ≡ Some p → p.left ≡ g.start → InChart g ts (fresh r 0)
  predict : {x : Item} (q : Place) → InChart g ts x → Awaits g x q → (r : ℕ) (p : Rule) → nth g.rules r ≡ Some p → p.left ≡ q.symbol → InChart g ts (fresh r x.to)
  scan : {x : Item} {σ : Summary} (q : Place) → InChart g ts x → Awaits g x q → (t : Token) → nth ts x.to ≡ Some t → t.kind ≡ q.symbol → passed x.summary q.relation (Exact t.column) ≡ Some σ → InChart g ts (advanced x (suc x.to) σ)
  complete : {x y : Item} {σ : Summary} (q : Place) → InChart g ts x → Awaits g x q → InChart g ts y → Finished g y q.symbol → y.from ≡ x.to → passed x.summary q.relation y.summary ≡ Some σ → InChart g ts (advanced x y.to σ)

-- a finished item of the start symbol over the tokens up to e
pub record Root (g : Grammar) (ts : List Token) (e : ℕ) (z : Item) : Type 0 where
  pub inside : InChart g ts z
  pub finished : Finished g z g.start
  pub from : z.from ≡ 0
  pub to : z.to ≡ e
