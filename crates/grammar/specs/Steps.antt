-- Symbols that have a tree over no token, and the steps between symbols by which a symbol could need itself.
-- Relations play no part in either.
use Rattle.std.specs.Prelude.{◌≡◌, ℕ, Some, ◌≢◌}
use Rattle.lists.specs.Entries.{nth}
use Rattle.grammar.specs.Grammar.{Grammar, Rule, Place}

-- a rule of the symbol has nullable symbols alone at its places, or no place
pub data Nullable (g : Grammar) : ℕ → Type 0 where
  empty : (r : ℕ) (p : Rule) → nth g.rules r ≡ Some p → ((j : ℕ) (q : Place) → nth p.places j ≡ Some q → Nullable g q.symbol) → Nullable g p.left

-- a steps to b: a rule of a has b at one place, and every other place of it is nullable
pub record Steps (g : Grammar) (a b : ℕ) : Type 0 where
  pub at : ℕ
  pub of : Rule
  pub is : nth g.rules at ≡ Some of
  pub left : of.left ≡ a
  pub place : ℕ
  pub what : Place
  pub there : nth of.places place ≡ Some what
  pub symbol : what.symbol ≡ b
  pub others : (j : ℕ) (q : Place) → nth of.places j ≡ Some q → (j ≢ place) → Nullable g q.symbol

-- a gets to b in one step or more
pub data GetsTo (g : Grammar) : ℕ → ℕ → Type 0 where
  one : {a b : ℕ} → Steps g a b → GetsTo g a b
  further : {a b c : ℕ} → Steps g a b → GetsTo g b c → GetsTo g a c

-- no symbol gets back to itself
abbrev pub Acyclic : Grammar → Type 0
Acyclic g = (a : ℕ) → GetsTo g a a → ⊥
