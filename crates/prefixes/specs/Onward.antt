-- The lists by which open items go on, level by level: a level is the items of one open rule, and the next one
-- outwards goes on from the finished items of it.
use Rattle.std.specs.Prelude.{◌≡◌, ℕ, ◌⊎◌, List, [], ◌∷◌, ◌++◌}
use Rattle.tokens.specs.declared.token.Token.{Token}
use Rattle.grammar.specs.Grammar.{Grammar}
use Rattle.charts.specs.Chart.{Item, Finished, Root}
use Rattle.charts.specs.Links.{Child, leaf, sub, Linked, Derives}

-- the lists with which x gets to w: what H has of the child that x waits for, then trees for the further places
pub data Onward (g : Grammar) (ts : List Token) (x : Item) (H : Item → List ℕ → Type 0) : Item → List ℕ → Type 0 where
  hand : {w z : Item} {us : List ℕ} → Linked g ts w x (sub z) → H z us → Onward g ts x H w us
  past : {w y : Item} {us : List ℕ} → Linked g ts w y leaf → Onward g ts x H y us → Onward g ts x H w us
  join : {w y z : Item} {us vs xs : List ℕ} → Linked g ts w y (sub z) → Onward g ts x H y us → Derives g ts z vs → xs ≡ us ++ (z.rule ∷ vs) → Onward g ts x H w xs

-- a list shows the item of which it is, and where it ends
abbrev pub Shows : (Item → List ℕ → Type 0) → Type 0
Shows H = (z z' : Item) (us us' vs vs' : List ℕ) → H z us → H z' us' → us ++ vs ≡ us' ++ vs' → (z ≡ z') × (us ≡ us')

-- the lists of H at finished items alone
pub record Closing (g : Grammar) (H : Item → List ℕ → Type 0) (z : Item) (us : List ℕ) : Type 0 where
  pub symbol : ℕ
  pub finished : Finished g z symbol
  pub list : H z us

-- the lists of an item that x gets to and of a child behind it
abbrev pub After : Grammar → List Token → Item → (Item → List ℕ → Type 0) → Item → Child → List ℕ → Type 0
After g ts x H y leaf xs = Onward g ts x H y xs
After g ts x H y (sub z) xs = (us vs : List ℕ) × Onward g ts x H y us × Derives g ts z vs × (xs ≡ us ++ (z.rule ∷ vs))

-- the lists of the items of the rule r from s
pub record Begun (g : Grammar) (ts : List Token) (r s : ℕ) (z : Item) (us : List ℕ) : Type 0 where
  pub list : Derives g ts z us
  pub rule : z.rule ≡ r
  pub from : z.from ≡ s

-- what H has of the innermost level, handed outwards through a stack of open items: the lists of the outermost level
abbrev pub Handed : Grammar → List Token → (Item → List ℕ → Type 0) → List Item → Item → List ℕ → Type 0
Handed g ts H [] = H
Handed g ts H (y ∷ us) = Handed g ts (Closing g (Onward g ts y H)) us

-- the lists that complete a new item of the rule r at s, and then the items of a stack outwards of it
abbrev pub Rests : Grammar → List Token → ℕ → ℕ → List Item → Item → List ℕ → Type 0
Rests g ts r s us = Handed g ts (Closing g (Begun g ts r s)) us

-- the lists of H at a root
abbrev pub Ends : Grammar → List Token → ℕ → (Item → List ℕ → Type 0) → List ℕ → Type 0
Ends g ts e H us = (y : Item) × Root g ts e y × H y us

-- the lists of Q behind p
abbrev pub Behind : List ℕ → (List ℕ → Type 0) → List ℕ → Type 0
Behind p Q xs = (us : List ℕ) × Q us × (xs ≡ p ++ us)

-- what follows the rule r: from within, or below an item that x gets to without a rule
abbrev pub Derivative : Grammar → List Token → Item → (Item → List ℕ → Type 0) → ℕ → Item → List ℕ → Type 0
Derivative g ts x H r w us = Onward g ts x (λ z vs. H z (r ∷ vs)) w us ⊎ ((y : Item) × Onward g ts x H y [] × Onward g ts y (Closing g (Begun g ts r y.to)) w us)
