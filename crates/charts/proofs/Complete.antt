-- The chart has every item that has a partial derivation and whose start is in it.
use Rattle.std.proofs.Common.{◌≡◌, ℕ, List, ◌∷◌, length, Some, refl}
use Rattle.indent.specs.declared.summary.Summary.{Summary}
use Rattle.indent.specs.Summaries.{passed}
use Rattle.tokens.specs.declared.token.Token.{Token}
use Rattle.lists.specs.Entries.{nth}
use Rattle.grammar.specs.Grammar.{Grammar, Rule, Place}
use Rattle.readings.specs.Reading.{Tree, Trees, token, rule, start, pass}
use Rattle.charts.specs.Chart.{Item, Awaits, InChart, begin, predict, scan, complete, fresh, advanced}
use Rattle.charts.specs.Links.{Derives}

abbrev pub item : ℕ → ℕ → ℕ → ℕ → Summary → Item
item r k s e σ = record { rule = r; dot = k; from = s; to = e; summary = σ }

mutual
  pub along : {g : Grammar} {ts : List Token} {p : Rule} {k s e : ℕ} {σ : Summary} {xs : List ℕ} → Trees g ts p.places k s e σ xs → (r : ℕ) → nth g.rules r ≡ Some p → InChart g ts (fresh r s) → InChart g ts (item r k s e σ)
  along start r h c = c
  along {p} (pass q there T t ok) r h c = over t q refl (along T r h c) (record { of = p; is = h; there = there }) ok

  pub over : {g : Grammar} {ts : List Token} {a e : ℕ} {x : Item} {τ υ : Summary} {ys : List ℕ} → Tree g ts a x.to e τ ys → (q : Place) → a ≡ q.symbol → InChart g ts x → Awaits g x q → passed x.summary q.relation τ ≡ Some υ → InChart g ts (advanced x e υ)
  over (token t h) q l c a ok = scan q c a t h l ok
  over (rule r p h T) q l c a ok = complete q c a (along T r h (predict q c a r p h l)) (record { of = p; is = h; all = refl; left = l }) refl ok

-- each place of an item stands behind a fresh one that is in the chart
pub origin : {g : Grammar} {ts : List Token} {x : Item} → InChart g ts x → InChart g ts (fresh x.rule x.from)
origin (begin r p h l) = begin r p h l
origin (predict q c a r p h l) = predict q c a r p h l
origin (scan q c a t h k ok) = origin c
origin (complete q c a c' f e ok) = origin c

pub derived : {g : Grammar} {ts : List Token} {x : Item} {xs : List ℕ} → InChart g ts (fresh x.rule x.from) → Derives g ts x xs → InChart g ts x
derived {x} c d = along d.trees x.rule d.is c

-- a whole reading ends in a finished item
pub accepts : {g : Grammar} {ts : List Token} {e : ℕ} {σ : Summary} {r : ℕ} {p : Rule} {xs : List ℕ} → nth g.rules r ≡ Some p → p.left ≡ g.start → Trees g ts p.places (length p.places) 0 e σ xs → InChart g ts (item r (length p.places) 0 e σ)
accepts {r} {p} h l T = along T r h (begin r p h l)

-- a tree with a rule at its root, from its list
pub record Rooted (g : Grammar) (ts : List Token) (a s e : ℕ) (σ : Summary) (r : ℕ) (xs : List ℕ) : Type 0 where
  pub of : Rule
  pub is : nth g.rules r ≡ Some of
  pub left : of.left ≡ a
  pub trees : Trees g ts of.places (length of.places) s e σ xs

pub rooted : {g : Grammar} {ts : List Token} {a s e : ℕ} {σ : Summary} {r : ℕ} {xs : List ℕ} → Tree g ts a s e σ (r ∷ xs) → Rooted g ts a s e σ r xs
rooted (rule r p h T) = record { of = p; is = h; left = refl; trees = T }

pub accepts_tree : {g : Grammar} {ts : List Token} {e : ℕ} {σ : Summary} {r : ℕ} {xs : List ℕ} → Tree g ts g.start 0 e σ (r ∷ xs) → (p : Rule) × (nth g.rules r ≡ Some p) × (p.left ≡ g.start) × InChart g ts (item r (length p.places) 0 e σ)
accepts_tree t = let d = rooted t in (d.of, d.is, d.left, accepts d.is d.left d.trees)
