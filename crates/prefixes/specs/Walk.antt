-- Prefixes of readings: a prefix is a leftmost derivation, and leaves items that are open, one within the other.
use Rattle.std.specs.Prelude.{◌≡◌, ℕ, suc, List, [], ◌∷◌, ◌++◌, length, Some, ◌≢◌}
use Rattle.indent.specs.declared.summary.Summary.{Summary}
use Rattle.indent.specs.declared.summary.Summary.TheVariants.{Exact}
use Rattle.indent.specs.Summaries.{passed}
use Rattle.tokens.specs.declared.token.Token.{Token}
use Rattle.lists.specs.Entries.{nth}
use Rattle.lists.specs.Begins.{Begins}
use Rattle.grammar.specs.Grammar.{Grammar, Rule, Place}
use Rattle.readings.specs.Reading.{Tree, Reading}
use Rattle.charts.specs.Chart.{Item, InChart, Awaits, Finished, fresh, advanced}

-- with x innermost and the items us outwards of it, the rule r comes next and leaves x' innermost and us' outwards:
-- x passes tokens; where it is finished, the item outwards passes it and is innermost; where it awaits r's symbol, r is
-- opened
pub data Opens (g : Grammar) (ts : List Token) (r : ℕ) : Item → List Item → Item → List Item → Type 0 where
  opens : {x : Item} {us : List Item} (q : Place) (p : Rule) → Awaits g x q → nth g.rules r ≡ Some p → p.left ≡ q.symbol → Opens g ts r x us (fresh r x.to) (x ∷ us)
  scans : {x x' : Item} {us us' : List Item} {σ : Summary} (q : Place) (t : Token) → Awaits g x q → nth ts x.to ≡ Some t → t.kind ≡ q.symbol → passed x.summary q.relation (Exact t.column) ≡ Some σ → Opens g ts r (advanced x (suc x.to) σ) us x' us' → Opens g ts r x us x' us'
  closes : {x y x' : Item} {us us' : List Item} {σ : Summary} (q : Place) → Awaits g y q → Finished g x q.symbol → x.from ≡ y.to → passed y.summary q.relation x.summary ≡ Some σ → Opens g ts r (advanced y x.to σ) us x' us' → Opens g ts r x (y ∷ us) x' us'

-- the same for a list of rules, each opened in turn
pub data Follows (g : Grammar) (ts : List Token) : Item → List Item → List ℕ → Item → List Item → Type 0 where
  none : {x : Item} {us : List Item} → Follows g ts x us [] x us
  more : {x y x' : Item} {us vs us' : List Item} {r : ℕ} {P : List ℕ} → Opens g ts r x us y vs → Follows g ts y vs P x' us' → Follows g ts x us (r ∷ P) x' us'

-- the prefix P leaves x innermost and us outwards; x is fresh: tokens are passed when the next rule comes
pub data Walk (g : Grammar) (ts : List Token) : List ℕ → Item → List Item → Type 0 where
  walks : {x : Item} {us : List Item} {P : List ℕ} (r : ℕ) (p : Rule) → nth g.rules r ≡ Some p → p.left ≡ g.start → Follows g ts (fresh r 0) [] P x us → Walk g ts (r ∷ P) x us

-- ys finishes x and then each of the items outwards, the last of them a rule of the start symbol over all tokens
pub data Completes (g : Grammar) (ts : List Token) : Item → List Item → List ℕ → Type 0 where
  ends : {x : Item} → Finished g x g.start → x.from ≡ 0 → x.to ≡ length ts → Completes g ts x [] []
  passes : {x : Item} {us : List Item} {e : ℕ} {τ υ : Summary} {ys zs ws : List ℕ} (q : Place) → Awaits g x q → Tree g ts q.symbol x.to e τ ys → passed x.summary q.relation τ ≡ Some υ → Completes g ts (advanced x e υ) us zs → ws ≡ ys ++ zs → Completes g ts x us ws
  closed : {x y : Item} {us : List Item} {σ : Summary} {ys : List ℕ} (q : Place) → Awaits g y q → Finished g x q.symbol → x.from ≡ y.to → passed y.summary q.relation x.summary ≡ Some σ → Completes g ts (advanced y x.to σ) us ys → Completes g ts x (y ∷ us) ys

-- what is done before a rule is opened, as often as it can be: the innermost item passes a token, or, finished, is
-- passed by the item outwards
pub data Settles (g : Grammar) (ts : List Token) : Item → List Item → Item → List Item → Type 0 where
  rests : {x : Item} {us : List Item} → Settles g ts x us x us
  scanned : {x x' : Item} {us us' : List Item} {σ : Summary} (q : Place) (t : Token) → Awaits g x q → nth ts x.to ≡ Some t → t.kind ≡ q.symbol → passed x.summary q.relation (Exact t.column) ≡ Some σ → Settles g ts (advanced x (suc x.to) σ) us x' us' → Settles g ts x us x' us'
  popped : {x y x' : Item} {us us' : List Item} {σ : Summary} (q : Place) → Awaits g y q → Finished g x q.symbol → x.from ≡ y.to → passed y.summary q.relation x.summary ≡ Some σ → Settles g ts (advanced y x.to σ) us x' us' → Settles g ts x (y ∷ us) x' us'

-- x is an item of a rule of the symbol a that begins at s
pub record Stems (g : Grammar) (x : Item) (a s : ℕ) : Type 0 where
  pub of : Rule
  pub is : nth g.rules x.rule ≡ Some of
  pub left : of.left ≡ a
  pub from : x.from ≡ s

-- each item of a stack is of the symbol that the next one outwards awaits, and begins where that one ends; the
-- outermost is of the start symbol
abbrev pub Nested : Grammar → Item → List Item → Type 0
Nested g x [] = Stems g x g.start 0
Nested g x (y ∷ us) = (q : Place) × Awaits g y q × Stems g x q.symbol y.to × Nested g y us

-- x awaits q, and the token at its end, if there is one, is not passed
abbrev pub Held : Grammar → List Token → Item → Place → Type 0
Held g ts x q = Awaits g x q × ((t : Token) (σ : Summary) → nth ts x.to ≡ Some t → t.kind ≡ q.symbol → passed x.summary q.relation (Exact t.column) ≢ Some σ)

-- xs has the prefix P, and what stands behind it finishes what P leaves open
pub record Continued (g : Grammar) (ts : List Token) (P xs : List ℕ) : Type 0 where
  pub innermost : Item
  pub outwards : List Item
  pub rest : List ℕ
  pub walk : Walk g ts P innermost outwards
  pub is : xs ≡ P ++ rest
  pub completes : Completes g ts innermost outwards rest

-- the rule s can come behind a prefix
abbrev pub FollowsOn : Grammar → List Token → List ℕ → ℕ → Type 0
FollowsOn g ts P s = (xs : List ℕ) × Reading g ts xs × Begins (P ++ (s ∷ [])) xs

-- it is a rule of the symbol that the settled stack awaits, and something finishes what it leaves open
pub record Fits (g : Grammar) (ts : List Token) (x : Item) (us : List Item) (q : Place) (s : ℕ) : Type 0 where
  pub of : Rule
  pub is : nth g.rules s ≡ Some of
  pub left : of.left ≡ q.symbol
  pub list : List ℕ
  pub completes : Completes g ts (fresh s x.to) (x ∷ us) list

-- every item of a stack is one of the chart
abbrev pub AllIn : Grammar → List Token → List Item → Type 0
AllIn g ts [] = Unit {0}
AllIn g ts (y ∷ ys) = InChart g ts y × AllIn g ts ys
