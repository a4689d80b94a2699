-- The nullable symbols, computed: as many rounds over the rules as there are rules.
use Rattle.std.specs.Prelude.{◌≡◌, ℕ, Bool, true, false, ◌&&◌, ◌||◌, List, [], ◌∷◌, length, Some, ◌==◌}
use Rattle.lists.specs.Entries.{nth}
use Rattle.grammar.specs.Grammar.{Grammar, Rule, Place}
use Rattle.grammar.specs.Rounds.{turns}

-- the symbol of every place passes the test
abbrev pub every : (ℕ → Bool) → List Place → Bool
every f [] = true
every f (q ∷ ps) = f q.symbol && every f ps

-- a rule of the symbol a has places that all pass the test
abbrev pub some_rule : (ℕ → Bool) → List Rule → ℕ → Bool
some_rule f [] a = false
some_rule f (p ∷ ps) a = (p.left == a && every f p.places) || some_rule f ps a

-- one round: the left symbols of the rules whose places all pass
abbrev pub nulled : Grammar → (ℕ → Bool) → ℕ → Bool
nulled g f a = some_rule f g.rules a

abbrev pub nullable : Grammar → ℕ → Bool
nullable g a = turns (nulled g) (length g.rules) a

-- no rule adds a symbol to those that pass
abbrev pub Settled : Grammar → (ℕ → Bool) → Type 0
Settled g f = (r : ℕ) (p : Rule) → nth g.rules r ≡ Some p → every f p.places ≡ true → f p.left ≡ true

-- the left symbols of the rules
abbrev pub lefts : List Rule → List ℕ
lefts [] = []
lefts (p ∷ ps) = p.left ∷ lefts ps
