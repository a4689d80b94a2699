-- A tree with numbers is a tree with a summary that has the root's number.
use Rattle.std.proofs.Common.{◌≡◌, ℕ, ◌↔◌, List, length, Some, None, Option, sym, refl, subst}
use Rattle.indent.specs.declared.summary.Summary.{Summary}
use Rattle.indent.specs.declared.summary.Summary.TheVariants.{Free, Exact}
use Rattle.indent.specs.declared.relation.Relation.{Relation}
use Rattle.indent.specs.Relations.{Holds}
use Rattle.indent.specs.Summaries.{In, Within, Meets, passed}
use Rattle.indent.proofs.Numbers.{inhabited, passes}
use Rattle.tokens.specs.declared.token.Token.{Token}
use Rattle.grammar.specs.Grammar.{Grammar, Place}
use Rattle.readings.specs.Reading.{Node, leaf, node, Nodes, none, more, Reading, Tree, token, rule, Trees, start, pass, Whole}

some_within : (o : Option Summary) (i : ℕ) → Within o i → (υ : Summary) × (o ≡ Some υ) × In υ i
some_within None i h = absurd h
some_within (Some υ) i h = (υ, refl, h)

-- one place more, with numbers that meet its relation
passed_there : (σ : Summary) (r : Relation) (τ : Summary) (i j : ℕ) → In σ i → In τ j → Holds r j i → (υ : Summary) × (passed σ r τ ≡ Some υ) × In υ i
passed_there σ r τ i j u v l = some_within (passed σ r τ) i ((passes σ r τ i).1 (u, (j, v, l)))

passed_back : (σ : Summary) (r : Relation) (τ υ : Summary) (i : ℕ) → passed σ r τ ≡ Some υ → In υ i → In σ i × Meets r τ i
passed_back σ r τ υ i e h = (passes σ r τ i).0 (subst (λ (o : Option Summary). Within o i) (sym e) h)

mutual
  pub tree_of : {g : Grammar} {ts : List Token} {a s e i : ℕ} {xs : List ℕ} → Node g ts a s e i xs → (σ : Summary) × Tree g ts a s e σ xs × In σ i
  tree_of (leaf t h) = (Exact t.column, token t h, refl)
  tree_of (node r p h ns) = let (σ, d, k) = trees_of ns in (σ, rule r p h d, k)

  pub trees_of : {g : Grammar} {ts : List Token} {ps : List Place} {k s e i : ℕ} {xs : List ℕ} → Nodes g ts ps k s e i xs → (σ : Summary) × Trees g ts ps k s e σ xs × In σ i
  trees_of none = (Free, start, tt)
  trees_of (more {i = i} {j = j} q h ns n l) =
      let (σ, d, u) = trees_of ns in
      let (τ, c, v) = tree_of n in
      let (υ, e, w) = passed_there σ q.relation τ i j u v l in
      (υ, pass q h d c e, w)

mutual
  pub node_of : {g : Grammar} {ts : List Token} {a s e : ℕ} {σ : Summary} {xs : List ℕ} → Tree g ts a s e σ xs → (i : ℕ) → In σ i → Node g ts a s e i xs
  node_of (token t h) i k = rw k (leaf t h)
  node_of (rule r p h d) i k = node r p h (nodes_of d i k)

  pub nodes_of : {g : Grammar} {ts : List Token} {ps : List Place} {k s e : ℕ} {σ : Summary} {xs : List ℕ} → Trees g ts ps k s e σ xs → (i : ℕ) → In σ i → Nodes g ts ps k s e i xs
  nodes_of start i k = none
  nodes_of (pass {σ = σ} {τ = τ} {υ = υ} q h d c e) i k =
      let (u, (j, v, l)) = passed_back σ q.relation τ υ i e k in
      more q h (nodes_of d i u) (node_of c j v) l

pub tree_spec : (g : Grammar) (ts : List Token) (a s e i : ℕ) (xs : List ℕ) → Node g ts a s e i xs ↔ ((σ : Summary) × Tree g ts a s e σ xs × In σ i)
tree_spec g ts a s e i xs = (λ n. tree_of n, λ t. node_of t.1 i t.2)

pub reading_spec : (g : Grammar) (ts : List Token) (xs : List ℕ) → Reading g ts xs ↔ Whole g ts (length ts) xs
reading_spec g ts xs = (
  λ r. let (σ, d, k) = tree_of r.1 in (σ, d),
  λ t. let (i, k) = inhabited t.0 in (i, node_of t.1 i k),
)
