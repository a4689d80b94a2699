-- Steps and paths of steps between symbols, computed.
use Rattle.std.specs.Prelude.{ℕ, Bool, false, ◌&&◌, ◌||◌, List, [], ◌∷◌, ◌++◌, length, ◌==◌}
use Rattle.lists.specs.Tallies.{any_of}
use Rattle.grammar.specs.Grammar.{Grammar, Rule, Place}
use Rattle.grammar.specs.Rounds.{turns}
use Rattle.grammar.specs.Nulling.{every, nullable, lefts}

-- b stands at one place, and the others all pass the test
abbrev pub lets : (ℕ → Bool) → List Place → ℕ → Bool
lets f [] b = false
lets f (q ∷ ps) b = (q.symbol == b && every f ps) || (f q.symbol && lets f ps b)

-- a rule of a lets a step to b
abbrev pub stepped : (ℕ → Bool) → List Rule → ℕ → ℕ → Bool
stepped f [] a b = false
stepped f (p ∷ ps) a b = (p.left == a && lets f p.places b) || stepped f ps a b

abbrev pub steps : Grammar → ℕ → ℕ → Bool
steps g a b = stepped (nullable g) g.rules a b

-- the symbols at places
abbrev pub symbols : List Place → List ℕ
symbols [] = []
symbols (q ∷ ps) = q.symbol ∷ symbols ps

-- the symbols at the places of rules
abbrev pub rights : List Rule → List ℕ
rights [] = []
rights (p ∷ ps) = symbols p.places ++ rights ps

-- one round of the symbols that get to b: those with a step to b, or to a symbol that does
abbrev pub nearer : Grammar → ℕ → (ℕ → Bool) → ℕ → Bool
nearer g b f a = any_of (λ c. steps g a c && (c == b || f c)) (rights g.rules)

-- a gets to b
abbrev pub reaches : Grammar → ℕ → ℕ → Bool
reaches g a b = turns (nearer g b) (length g.rules) a

-- a symbol gets back to itself
abbrev pub circular : Grammar → Bool
circular g = any_of (λ a. reaches g a a) (lefts g.rules)
