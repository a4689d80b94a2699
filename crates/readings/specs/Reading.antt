-- What a reading of tokens is: a derivation tree for which numbers exist that meet every relation, written as the
-- numbers of its rules, root first, then each child's list from the left.
use Rattle.std.specs.Prelude.{◌≡◌, ℕ, suc, List, [], ◌∷◌, ◌++◌, length, Some, ◌≢◌}
use Rattle.indent.specs.declared.summary.Summary.{Summary}
use Rattle.indent.specs.declared.summary.Summary.TheVariants.{Free, Exact}
use Rattle.indent.specs.Relations.{Holds}
use Rattle.indent.specs.Summaries.{passed}
use Rattle.tokens.specs.declared.token.Token.{Token}
use Rattle.lists.specs.Entries.{nth}
use Rattle.grammar.specs.Grammar.{Grammar, Rule, Place}

mutual
  -- a tree of the symbol a over the tokens from s up to e, whose root carries the number i, written as the list xs
  pub data Node (g : Grammar) (ts : List Token) : ℕ → ℕ → ℕ → ℕ → List ℕ → Type 0 where
    leaf : {s : ℕ} (t : Token) → nth ts s ≡ Some t → Node g ts t.kind s (suc s) t.column []
    node : {s e i : ℕ} {xs : List ℕ} (r : ℕ) (p : Rule) → nth g.rules r ≡ Some p → Nodes g ts p.places (length p.places) s e i xs → Node g ts p.left s e i (r ∷ xs)

  -- trees for the first k places, one beside the other, under a parent that carries the number i
  pub data Nodes (g : Grammar) (ts : List Token) : List Place → ℕ → ℕ → ℕ → ℕ → List ℕ → Type 0 where
    none : {ps : List Place} {s i : ℕ} → Nodes g ts ps 0 s s i []
    more : {ps : List Place} {k s m e i j : ℕ} {xs ys : List ℕ} (q : Place) → nth ps k ≡ Some q → Nodes g ts ps k s m i xs → Node g ts q.symbol m e j ys → Holds q.relation j i → Nodes g ts ps (suc k) s e i (xs ++ ys)

-- a tree of the start symbol over all tokens, with some choice of numbers
abbrev pub Reading : Grammar → List Token → List ℕ → Type 0
Reading g ts xs = (i : ℕ) × Node g ts g.start 0 (length ts) i xs

mutual
  -- the same trees, each with its summary in place of a number: the set of numbers that its root may carry
  pub data Tree (g : Grammar) (ts : List Token) : ℕ → ℕ → ℕ → Summary → List ℕ → Type 0 where
    token : {s : ℕ} (t : Token) → nth ts s ≡ Some t → Tree g ts t.kind s (suc s) (Exact t.column) []
    rule : {s e : ℕ} {σ : Summary} {xs : List ℕ} (r : ℕ) (p : Rule) → nth g.rules r ≡ Some p → Trees g ts p.places (length p.places) s e σ xs → Tree g ts p.left s e σ (r ∷ xs)

  -- trees for the first k places, under a parent that may carry the numbers of the summary
  pub data Trees (g : Grammar) (ts : List Token) : List Place → ℕ → ℕ → ℕ → Summary → List ℕ → Type 0 where
    start : {ps : List Place} {s : ℕ} → Trees g ts ps 0 s s Free []
    pass : {ps : List Place} {k s m e : ℕ} {σ τ υ : Summary} {xs ys : List ℕ} (q : Place) → nth ps k ≡ Some q → Trees g ts ps k s m σ xs → Tree g ts q.symbol m e τ ys → passed σ q.relation τ ≡ Some υ → Trees g ts ps (suc k) s e υ (xs ++ ys)

-- a tree of the start symbol over the tokens up to e, with any summary
abbrev pub Whole : Grammar → List Token → ℕ → List ℕ → Type 0
Whole g ts e xs = (σ : Summary) × Tree g ts g.start 0 e σ xs

-- no token is of a symbol that has rules
abbrev pub Separate : Grammar → List Token → Type 0
Separate g ts = (t : Token) (i r : ℕ) (p : Rule) → nth ts i ≡ Some t → nth g.rules r ≡ Some p → t.kind ≢ p.left

-- the start symbol has a rule
abbrev pub Headed : Grammar → Type 0
Headed g = (r : ℕ) × (p : Rule) × (nth g.rules r ≡ Some p) × (p.left ≡ g.start)
