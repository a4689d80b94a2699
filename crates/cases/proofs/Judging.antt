-- The test of a worked case, and that a case that passes it holds.
use Rattle.std.proofs.Common.{◌≡◌, ℕ, ◌<◌, Bool, true, false, ◌&&◌, eqb, List, length, Some, None, Option, sym, refl, ap, true≢false, arith}
use Rattle.std.proofs.lemmas.Bool.{and_parts, eqb-true}
use Rattle.tokens.specs.declared.token.Token.{Token}
use Rattle.lists.specs.Exactly.{Exactly}
use Rattle.lists.specs.Begins.{Begins}
use Rattle.grammar.specs.Grammar.{Grammar}
use Rattle.readings.specs.Reading.{Reading}
use Rattle.charts.specs.Chart.{Item, InChart}
use Rattle.charts.specs.Links.{Link, InForest}
use Rattle.semiring.specs.Kinds.{count_ops, least_cost_ops}
use Rattle.semiring.specs.Values.{value, total}
use Rattle.sums.specs.Sums.{Sums, cost_of}
use Rattle.cases.specs.Case.{Case, Beginning, Spots, tokens, Rising, More, Begun, Holds}
use Rattle.cases.specs.Table.{strict_word, table}
use Rattle.cases.specs.Claims.{Cases, Crowded}
use Rattle.cases.proofs.Rounds.{all, all_every, once, settled, full, settled_exactly}
use Rattle.cases.proofs.Growing.{Grown, grown_code, same_grown, grow, grow_makes}
use Rattle.cases.proofs.Charting.{item_code, same_item, link_code, links, links_exactly, round, round_makes}
use Rattle.cases.proofs.Listing.{wholes, lists_all, lists_exactly, begun, begun_exactly}

abbrev same_cost : Option ℕ → Option ℕ → Bool
same_cost None None = true
same_cost None (Some y) = false
same_cost (Some x) None = false
same_cost (Some x) (Some y) = eqb x y

same_cost_true : (a b : Option ℕ) → same_cost a b ≡ true → a ≡ b
same_cost_true None None e = refl
same_cost_true None (Some y) e = absurd (true≢false (sym e))
same_cost_true (Some x) None e = absurd (true≢false (sym e))
same_cost_true (Some x) (Some y) e = ap Some (eqb-true x y e)

more : {A : Type 0} (P : A → Type 0) (R : List A) (m n : ℕ) → Exactly P R → length R ≡ m → n < m → More n P
more P R m n x e h = record { some = R; many = omega arith; distinct = x.distinct; only = x.only }

module _ (s : Spots) (c : Case) where
  abbrev g : Grammar
  g = c.dialect

  abbrev ts : List Token
  ts = tokens s c

  -- the trees, the items and the links, made in rounds
  abbrev trees : List Grown
  trees = settled grown_code (grow g ts)

  abbrev items : List Item
  items = settled item_code (round g ts)

  -- the lists R count n, and the least cost is m
  abbrev adds_up : List (List ℕ) → ℕ → Option ℕ → Bool
  adds_up R n m = eqb (total count_ops (value count_ops (cost_of g)) R) n && same_cost (total least_cost_ops (value least_cost_ops (cost_of g)) R) m

  abbrev begun_up : Beginning → Bool
  begun_up b = adds_up (begun b.prefix c.readings) b.count b.least

  abbrev summed : Bool
  summed = adds_up c.readings c.count c.least && all begun_up c.beginnings

  -- the trees T are all, and the readings are the whole ones
  abbrev listed : List Grown → Bool
  listed T = full grown_code (grow g ts) T && lists_all (wholes g ts T) c.readings

  -- the items R are all, and as many as they should be
  abbrev charted : List Item → Bool
  charted R = full item_code (round g ts) R && eqb (length R) c.items

  abbrev linked : List Link → Bool
  linked L = once link_code L && eqb (length L) c.links

  abbrev charted_and_linked : List Item → Bool
  charted_and_linked R = charted R && linked (links g ts R)

  abbrev judge : Bool
  judge = listed trees && (summed && charted_and_linked items)

  adds_up_true : (P : List ℕ → Type 0) (R : List (List ℕ)) (n : ℕ) (m : Option ℕ) → Exactly P R → adds_up R n m ≡ true → Sums count_ops (cost_of g) P n × Sums least_cost_ops (cost_of g) P m
  adds_up_true P R n m x e =
      let (h, k) = and_parts (eqb (total count_ops (value count_ops (cost_of g)) R) n) (same_cost (total least_cost_ops (value least_cost_ops (cost_of g)) R) m) e in
      (record { lists = R; exactly = x; is = eqb-true (total count_ops (value count_ops (cost_of g)) R) n h }, record { lists = R; exactly = x; is = same_cost_true (total least_cost_ops (value least_cost_ops (cost_of g)) R) m k })

  begun_true : Exactly (Reading g ts) c.readings → (b : Beginning) → begun_up b ≡ true → Begun s c b
  begun_true x b e =
      let (n, m) = adds_up_true (λ xs. Reading g ts xs × Begins b.prefix xs) (begun b.prefix c.readings) b.count b.least (begun_exactly g ts b.prefix c.readings x) e in
      record { count = n; least = m }

  listed_true : listed trees ≡ true → Exactly (Reading g ts) c.readings × Rising c.readings
  listed_true e =
      let (h, k) = and_parts (full grown_code (grow g ts) trees) (lists_all (wholes g ts trees) c.readings) e in
      lists_exactly g ts trees c.readings (settled_exactly grown_code same_grown (grow_makes g ts) h) k

  charted_true : charted items ≡ true → Exactly (InChart g ts) items × (length items ≡ c.items)
  charted_true e =
      let (h, k) = and_parts (full item_code (round g ts) items) (eqb (length items) c.items) e in
      (settled_exactly item_code same_item (round_makes g ts) h, eqb-true (length items) c.items k)

  linked_true : Exactly (InChart g ts) items → linked (links g ts items) ≡ true → Exactly (InForest g ts) (links g ts items) × (length (links g ts items) ≡ c.links)
  linked_true x e =
      let (h, k) = and_parts (once link_code (links g ts items)) (eqb (length (links g ts items)) c.links) e in
      (links_exactly g ts items x h, eqb-true (length (links g ts items)) c.links k)

  stands : judge ≡ true → Holds s c
  stands e =
      let (a, b) = and_parts (listed trees) (summed && charted_and_linked items) e in
      let (d, f) = and_parts summed (charted_and_linked items) b in
      let (h, k) = and_parts (adds_up c.readings c.count c.least) (all begun_up c.beginnings) d in
      let (i, j) = and_parts (charted items) (linked (links g ts items)) f in
      let (x, r) = listed_true a in
      let (n, m) = adds_up_true (Reading g ts) c.readings c.count c.least x h in
      let (y, p) = charted_true i in
      let (z, q) = linked_true y j in
      record {
        readings = x;
        rising = r;
        count = n;
        least = m;
        beginnings = all_every begun_up (Begun s c) (begun_true x) c.beginnings k;
        items = record { all = items; exactly = y; many = p };
        links = record { all = links g ts items; exactly = z; many = q };
        more_items = λ o l. more (InChart g ts) items c.items o y p l;
        more_links = λ o l. more (InForest g ts) (links g ts items) c.links o z q l;
      }

-- every row of the table passes the test
pub cases_stand : Cases
cases_stand s = all_every (judge s) (Holds s) (stands s) table refl

pub crowded : Crowded
crowded = record { items = λ s. (stands s strict_word refl).more_items 11 (omega arith); links = λ s. (stands s strict_word refl).more_links 3 (omega arith) }
