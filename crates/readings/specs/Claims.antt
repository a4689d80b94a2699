-- What is proved of readings and of the order of lists, as statements that contracts name.
use Rattle.std.specs.Prelude.{◌≡◌, ℕ, ◌≤◌, ◌⊎◌, ◌↔◌, List, [], ◌++◌, length}
use Rattle.indent.specs.declared.summary.Summary.{Summary}
use Rattle.indent.specs.Summaries.{In}
use Rattle.tokens.specs.declared.token.Token.{Token}
use Rattle.grammar.specs.Grammar.{Grammar}
use Rattle.grammar.specs.Steps.{Nullable}
use Rattle.readings.specs.Reading.{Node, Reading, Tree, Whole, Separate, Headed}
use Rattle.readings.specs.Order.{Before}

-- a tree carries a number for some choice of the numbers below it exactly if its summary has the number
abbrev pub Adequate : Type 0
Adequate = (g : Grammar) (ts : List Token) (a s e i : ℕ) (xs : List ℕ) → Node g ts a s e i xs ↔ ((σ : Summary) × Tree g ts a s e σ xs × In σ i)

-- a reading is a tree of the start symbol over all tokens, with any summary
abbrev pub Summarized : Type 0
Summarized = (g : Grammar) (ts : List Token) (xs : List ℕ) → Reading g ts xs ↔ Whole g ts (length ts) xs

-- a tree's tokens lie in a row from its start to its end
abbrev pub Spanned : Type 0
Spanned = (g : Grammar) (ts : List Token) (a s e : ℕ) (σ : Summary) (xs : List ℕ) → Tree g ts a s e σ xs → (s ≤ e) × (s ≤ length ts → e ≤ length ts)

-- a tree depends on the tokens up to its end alone
abbrev pub Local : Type 0
Local = (g : Grammar) (ts us : List Token) (a s e : ℕ) (σ : Summary) (xs : List ℕ) → e ≤ length ts → Tree g (ts ++ us) a s e σ xs ↔ Tree g ts a s e σ xs

-- two trees of one symbol from one start whose lists agree up to what follows have one list, one end and one summary
abbrev pub Readable : Type 0
Readable = (g : Grammar) (ts : List Token) (a s e e' : ℕ) (σ σ' : Summary) (xs xs' us us' : List ℕ) → Separate g ts → Tree g ts a s e σ xs → Tree g ts a s e' σ' xs' → xs ++ us ≡ xs' ++ us' → (xs ≡ xs') × (e ≡ e') × (σ ≡ σ') × (us ≡ us')

-- no reading is a proper prefix of another
abbrev pub PrefixFree : Type 0
PrefixFree = (g : Grammar) (ts : List Token) → Separate g ts → (xs ys : List ℕ) → Reading g ts xs → Reading g ts (xs ++ ys) → ys ≡ []

-- no reading is empty
abbrev pub Nonempty : Type 0
Nonempty = (g : Grammar) (ts : List Token) → Separate g ts → Headed g → Reading g ts [] → ⊥

-- a symbol is nullable exactly if it has a tree over no token, wherever that is
abbrev pub EmptyTrees : Type 0
EmptyTrees = (g : Grammar) (ts : List Token) (a s : ℕ) → Nullable g a ↔ ((σ : Summary) × (xs : List ℕ) × Tree g ts a s s σ xs)

-- the order of lists is irreflexive and transitive, and of any two lists one comes before the other or they are equal
pub record Ordered : Type 0 where
  pub irreflexive : (xs : List ℕ) → Before xs xs → ⊥
  pub transitive : (xs ys zs : List ℕ) → Before xs ys → Before ys zs → Before xs zs
  pub total : (xs ys : List ℕ) → Before xs ys ⊎ ((xs ≡ ys) ⊎ Before ys xs)
