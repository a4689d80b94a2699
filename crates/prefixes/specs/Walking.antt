-- The same stacks, computed: what the innermost item does next, and the stack that a prefix leaves, if it leaves one.
use Rattle.std.specs.Prelude.{ℕ, zero, suc, ◌+◌, ◌-◌, Bool, false, cond, ◌&&◌, List, [], ◌∷◌, length, Some, None, Option, ◌==◌}
use Rattle.indent.specs.declared.summary.Summary.{Summary}
use Rattle.indent.specs.declared.summary.Summary.TheVariants.{Exact}
use Rattle.indent.specs.Summaries.{passed}
use Rattle.tokens.specs.declared.token.Token.{Token}
use Rattle.lists.specs.Entries.{nth}
use Rattle.grammar.specs.Grammar.{Grammar, Rule, Place}
use Rattle.charts.specs.Chart.{Item, fresh, advanced}

-- the open items: the innermost, and those outwards of it
pub record Stack : Type 0 where
  pub innermost : Item
  pub outwards : List Item

-- nothing more can be done; a rule is opened; or the stack to go on with
pub data Move : Type 0 where
  stuck : Move
  opened : Item → List Item → Move
  on : Item → List Item → Move

-- a rule's place at a dot, if it has one
abbrev pub placed : Option Rule → ℕ → Option Place
placed None k = None
placed (Some p) k = nth p.places k

-- the place behind the dot of x, if there is one
abbrev pub place : Grammar → Item → Option Place
place g x = placed (nth g.rules x.rule) x.dot

-- the rule is there and of the symbol a
abbrev pub is_of : Option Rule → ℕ → Bool
is_of None a = false
is_of (Some p) a = p.left == a

-- the rule is there and has k places
abbrev pub is_whole : Option Rule → ℕ → Bool
is_whole None k = false
is_whole (Some p) k = k == length p.places

-- x goes on up to e, if a summary is left
abbrev pub past : Item → ℕ → List Item → Option Summary → Move
past x e us None = stuck
past x e us (Some σ) = on (advanced x e σ) us

-- x passes the token at its end
abbrev pub by_token : Item → List Item → Place → Option Token → Move
by_token x us q None = stuck
by_token x us q (Some t) = cond (t.kind == q.symbol) (past x (suc x.to) us (passed x.summary q.relation (Exact t.column))) stuck

-- y passes the finished x
abbrev pub by_child : Grammar → Item → Item → List Item → Option Place → Move
by_child g x y us None = stuck
by_child g x y us (Some q) = cond (is_whole (nth g.rules x.rule) x.dot && is_of (nth g.rules x.rule) q.symbol && x.from == y.to) (past y x.to us (passed y.summary q.relation x.summary)) stuck

-- the item outwards, if there is one, passes the finished x
abbrev pub by_outer : Grammar → Item → List Item → Move
by_outer g x [] = stuck
by_outer g x (y ∷ us) = by_child g x y us (place g y)

-- what x does next, by the place behind its dot: it opens r, passes a token, or is passed itself
abbrev pub by_place : Grammar → List Token → ℕ → Item → List Item → Option Place → Move
by_place g ts r x us None = by_outer g x us
by_place g ts r x us (Some q) = cond (is_of (nth g.rules r) q.symbol) (opened (fresh r x.to) (x ∷ us)) (by_token x us q (nth ts x.to))

-- what x does next, where the rule r comes next
abbrev pub move : Grammar → List Token → ℕ → Item → List Item → Move
move g ts r x us = by_place g ts r x us (place g x)

-- how many places a rule has
abbrev pub size : Option Rule → ℕ
size None = 0
size (Some p) = length p.places

-- the number of places that the items of a stack have yet to pass
abbrev pub room : Grammar → Item → List Item → ℕ
room g x [] = size (nth g.rules x.rule) - x.dot
room g x (y ∷ us) = (size (nth g.rules x.rule) - x.dot) + room g y us

-- the stack that a move leaves, or what k makes of the stack to go on with
abbrev pub continue : Move → (Item → List Item → Option Stack) → Option Stack
continue stuck k = None
continue (opened y vs) k = Some (record { innermost = y; outwards = vs })
continue (on y vs) k = k y vs

-- the moves until r is opened, at most n
abbrev pub opening : Grammar → List Token → ℕ → ℕ → Item → List Item → Option Stack
opening g ts r zero x us = None
opening g ts r (suc n) x us = continue (move g ts r x us) (λ y vs. opening g ts r n y vs)

-- what k makes of a stack, if there is one
abbrev pub bind : Option Stack → (Stack → Option Stack) → Option Stack
bind None k = None
bind (Some s) k = k s

-- the stack that the rules of P leave, each opened in turn
abbrev pub follow : Grammar → List Token → List ℕ → Stack → Option Stack
follow g ts [] s = Some s
follow g ts (r ∷ P) s = bind (opening g ts r (suc (room g s.innermost s.outwards)) s.innermost s.outwards) (λ s'. follow g ts P s')

-- the stack that the prefix P leaves
abbrev pub walk : Grammar → List Token → List ℕ → Option Stack
walk g ts [] = None
walk g ts (r ∷ P) = cond (is_of (nth g.rules r) g.start) (follow g ts P (record { innermost = fresh r 0; outwards = [] })) None
