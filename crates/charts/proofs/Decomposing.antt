-- The lists of an item are those that its links give.
use Rattle.std.proofs.Common.{◌≡◌, ℕ, ◌<◌, ◌↔◌, List, ◌∷◌, ◌++◌, length, Some, refl, append-nil, arith}
use Rattle.indent.specs.declared.summary.Summary.{Summary}
use Rattle.indent.specs.Summaries.{passed}
use Rattle.tokens.specs.declared.token.Token.{Token}
use Rattle.lists.specs.Entries.{nth}
use Rattle.grammar.specs.Grammar.{Grammar, Rule, Place}
use Rattle.readings.specs.Reading.{Tree, Trees, token, rule, start, pass}
use Rattle.charts.specs.Chart.{Item, Awaits, InChart, predict, fresh, advanced}
use Rattle.charts.specs.Links.{Derives, Child, leaf, sub, Linked, scanned, completed, Gives, past, join, Through}
use Rattle.charts.proofs.Sound.{scan_derives, complete_derives}
use Rattle.charts.proofs.Complete.{item, along, origin}

pub past_derives : {g : Grammar} {ts : List Token} {x y : Item} {xs : List ℕ} → Linked g ts x y leaf → Derives g ts y xs → Derives g ts x xs
past_derives {xs} (scanned q c a t h k ok) d = rw append-nil at (scan_derives q a t h k ok d)

pub join_derives : {g : Grammar} {ts : List Token} {x y z : Item} {xs ys : List ℕ} → Linked g ts x y (sub z) → Derives g ts y xs → Derives g ts z ys → Derives g ts x (xs ++ (z.rule ∷ ys))
join_derives (completed q c a c' f e ok) d d' = complete_derives q a f e ok d d'

composes_go : {g : Grammar} {ts : List Token} {x y : Item} {c : Child} {xs : List ℕ} → Linked g ts x y c → Gives g ts y c xs → Derives g ts x xs
composes_go l (past d) = past_derives l d
composes_go {g} {ts} {x} l (join d d' e) = rw e (join_derives l d d')

pub composes : {g : Grammar} {ts : List Token} {x : Item} {xs : List ℕ} → Through g ts x xs → Derives g ts x xs
composes t = composes_go t.link t.gives

last : {g : Grammar} {ts : List Token} {a e : ℕ} {y : Item} {τ υ : Summary} {xs ys : List ℕ} → Tree g ts a y.to e τ ys → (q : Place) → a ≡ q.symbol → InChart g ts y → Awaits g y q → passed y.summary q.relation τ ≡ Some υ → Derives g ts y xs → Through g ts (advanced y e υ) (xs ++ ys)
last {g} {ts} {y} {υ} {xs} (token t h) q l c a ok d =
    rw append-nil (record { way = record { before = y; child = leaf }; link = scanned q c a t h l ok; gives = past d })
last {e} {y} {τ} (rule r p h T) q l c a ok d =
    let z = item r (length p.places) y.to e τ in
    record { way = record { before = y; child = sub z }; link = completed q c a (along T r h (predict q c a r p h l)) (record { of = p; is = h; all = refl; left = l }) refl ok; gives = join d (record { of = p; is = h; trees = T }) refl }

split : {g : Grammar} {ts : List Token} {p : Rule} {k s e : ℕ} {σ : Summary} {xs : List ℕ} → Trees g ts p.places k s e σ xs → 0 < k → (r : ℕ) → nth g.rules r ≡ Some p → InChart g ts (fresh r s) → Through g ts (item r k s e σ) xs
split start n r h c = absurd (omega arith)
split {p} (pass q there T t ok) n r h c = last t q refl (along T r h c) (record { of = p; is = h; there = there }) ok (record { of = p; is = h; trees = T })

pub decomposes : {g : Grammar} {ts : List Token} {x : Item} {xs : List ℕ} → InChart g ts (fresh x.rule x.from) → 0 < x.dot → Derives g ts x xs → Through g ts x xs
decomposes {x} c n d = split d.trees n x.rule d.is c

pub decomposition : {g : Grammar} {ts : List Token} {x : Item} {xs : List ℕ} → InChart g ts x → 0 < x.dot → Derives g ts x xs ↔ Through g ts x xs
decomposition c n = (decomposes (origin c) n, composes)
