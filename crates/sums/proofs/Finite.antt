-- The readings are finitely many, where the items and links of the chart are and some number falls along every link.
use Rattle.std.proofs.Common.{◌≡◌, ℕ, ◌<◌, List, map, length, sym, refl, ◌∙◌, subst, map-id}
use native.Mathlib.Decide.{ℕ_discrete}
use Rattle.tokens.specs.declared.token.Token.{Token}
use Rattle.lists.specs.Exactly.{Exactly}
use Rattle.lists.proofs.Choosing.{choose, choose_exactly, map_exactly, exactly_same}
use Rattle.grammar.specs.Grammar.{Grammar}
use Rattle.readings.specs.Reading.{Reading, Separate, Headed}
use Rattle.readings.proofs.Adequacy.{reading_spec}
use Rattle.charts.specs.Chart.{Item, InChart, Finished, Root}
use Rattle.charts.specs.Links.{Link, Linked, InForest, Derives, Way, Into, Uses}
use Rattle.charts.proofs.Readable.{readable}
use Rattle.charts.proofs.Deciding.{item_decided, finished_decided}
use Rattle.semiring.specs.Laws.{Ops, Lawful}
use Rattle.semiring.specs.Values.{total}
use Rattle.semiring.specs.Kinds.{count_ops}
use Rattle.semiring.specs.CountLaws.{count_lawful}
use Rattle.sums.specs.Sums.{Sums}
use Rattle.sums.proofs.Unions.{transfer}
use Rattle.sums.proofs.Values.{root_rows}
use Rattle.sums.proofs.Ranked.{all_kept, values, valued}

way : Link → Way
way l = record { before = l.before; child = l.child }

-- the ways of an item, chosen from all links
pub ways_of : List Link → Item → List Way
ways_of L x = map way (choose (λ (l : Link). item_decided l.item x) L)

pub ways_are : {g : Grammar} {ts : List Token} (L : List Link) → Exactly (InForest g ts) L → (x : Item) → Exactly (Into g ts x) (ways_of L x)
unfolding way ways_of
ways_are {g} {ts} L l x = map_exactly way (choose (λ (l : Link). item_decided l.item x) L) (choose_exactly (λ (l : Link). item_decided l.item x) L l)
    (λ a h. subst (λ (y : Item). Linked g ts y a.before a.child) h.1 h.0)
    (λ w h. (record { item = x; before = w.before; child = w.child }, (h, refl), refl))
    (λ a a' h h' e. λ i. record { item = (h.1 ∙ sym h'.1) i; before = (e i).before; child = (e i).child })

-- what makes an item of the chart a root
record Rooted (g : Grammar) (n : ℕ) (z : Item) : Type 0 where
  finished : Finished g z g.start
  from : z.from ≡ 0
  to : z.to ≡ n

rooted_decided : (g : Grammar) (n : ℕ) (z : Item) → Dec (Rooted g n z)
rooted_decided g n z = go (finished_decided g z g.start) (ℕ_discrete z.from 0) (ℕ_discrete z.to n)
  where
    go : Dec (Finished g z g.start) → Dec (z.from ≡ 0) → Dec (z.to ≡ n) → Dec (Rooted g n z)
    go (yes f) (yes a) (yes b) = yes (record { finished = f; from = a; to = b })
    go (yes f) (yes a) (no b) = no (λ r. b r.to)
    go (yes f) (no a) b = no (λ r. a r.from)
    go (no f) a b = no (λ r. f r.finished)

-- the roots, chosen from all items
pub roots_of : Grammar → ℕ → List Item → List Item
roots_of g n R = choose (rooted_decided g n) R

pub roots_are : {g : Grammar} {ts : List Token} (n : ℕ) (R : List Item) → Exactly (InChart g ts) R → Exactly (Root g ts n) (roots_of g n R)
unfolding roots_of
roots_are {g} n R l = exactly_same (choose_exactly (rooted_decided g n) R l)
    (λ z h. record { inside = h.0; finished = h.1.finished; from = h.1.from; to = h.1.to })
    (λ z r. (r.inside, record { finished = r.finished; from = r.from; to = r.to }))

module _ {g : Grammar} {ts : List Token} (separate : Separate g ts) (headed : Headed g) {V : Type 0} (o : Ops V) (cost : ℕ → ℕ) (laws : Lawful o) where
  -- the sum over the readings, from the values of the roots
  pub reading_sum : (F : List Item) (v : Item → V) → Exactly (Root g ts (length ts)) F → ((z : Item) → Root g ts (length ts) z → Sums o cost (Derives g ts z) (v z)) → Sums o cost (Reading g ts) (total o (λ (z : Item). o.product (o.weight z.rule (cost z.rule)) (v z)) F)
  reading_sum F v l s = transfer o cost (λ xs w. (reading_spec g ts xs).1 w) (λ xs d. (reading_spec g ts xs).0 d) (root_rows (readable g ts separate) o cost laws (length ts) F (λ z. z) v separate headed (subst (Exactly (Root g ts (length ts))) (sym (map-id F)) l) (λ z m. s z (l.only z m)))

pub finite : (g : Grammar) (ts : List Token) → Separate g ts → Headed g → (rank : Item → ℕ) → ((x y : Item) → Uses g ts x y → rank y < rank x) → (R : List Item) → Exactly (InChart g ts) R → (L : List Link) → Exactly (InForest g ts) L → (lists : List (List ℕ)) × Exactly (Reading g ts) lists
finite g ts separate headed rank falls R r L l =
    let (v, h) = values count_ops (λ _. 0) (all_kept g ts) (ways_of L) (λ x c. ways_are L l x) rank (λ x y c u. falls x y u) in
    let s = reading_sum separate headed count_ops (λ _. 0) count_lawful (roots_of g (length ts) R) v (roots_are (length ts) R r) (λ z q. valued (readable g ts separate) count_ops (λ _. 0) count_lawful (all_kept g ts) (ways_of L) v h rank (λ x y c u. falls x y u) z q.inside) in
    (s.lists, s.exactly)
