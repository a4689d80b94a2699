-- The chart of tokens, made in rounds: each round makes items and links from the items of the last.
use Rattle.std.proofs.Common.{◌≡◌, ℕ, suc, true, ◌&&◌, eqb, List, [], ◌∷◌, ◌++◌, map, length, Some, sym, refl, subst, arith}
use mathlib.Core.List.Memᴰ
use Rattle.std.proofs.lemmas.Bool.{and_parts, and_from, eqb-true, eq-eqb}
use Rattle.indent.specs.declared.summary.Summary.{Summary}
use Rattle.indent.specs.declared.summary.Summary.TheVariants.{Exact}
use Rattle.indent.specs.Summaries.{passed}
use Rattle.indent.specs.Codes.{encode}
use Rattle.tokens.specs.declared.token.Token.{Token}
use Rattle.lists.specs.Entries.{nth}
use Rattle.lists.specs.Members.{◌∈◌}
use Rattle.lists.specs.Exactly.{Exactly}
use Rattle.grammar.specs.Grammar.{Grammar, Rule, Place}
use Rattle.charts.specs.Chart.{Item, Awaits, Finished, fresh, advanced, InChart, begin, predict}
use Rattle.charts.specs.Links.{Child, leaf, sub, Link, Linked, scanned, completed, InForest}
use Rattle.charts.specs.Rows.{Closed}
use Rattle.charts.proofs.Closure.{closed_holds}
use Rattle.charts.proofs.Links.{link_in}
use Rattle.cases.proofs.Gathering.{gather, gather_in, gather_of, when, when_in, when_of, held, held_in, held_of, numbered, entry_in, entry_of}
use Rattle.cases.proofs.Rounds.{Every, every_append, Makes, once, once_distinct}
use Rattle.cases.proofs.Growing.{same_summary}

-- the numbers of an item, before others
abbrev item_before : Item → List ℕ → List ℕ
item_before x ns = x.rule ∷ x.dot ∷ x.from ∷ x.to ∷ encode x.summary ∷ ns

same_before : (x y : Item) (ms ns : List ℕ) → item_before x ms ≡ item_before y ns → (x ≡ y) × (ms ≡ ns)
same_before x y ms ns e =
    let a : x.rule ≡ y.rule = cc in
    let b : x.dot ≡ y.dot = cc in
    let c : x.from ≡ y.from = cc in
    let d : x.to ≡ y.to = cc in
    let f : x.summary ≡ y.summary = same_summary x.summary y.summary (cc) in
    let h : ms ≡ ns = cc in
    ((λ i. record { rule = a i; dot = b i; from = c i; to = d i; summary = f i }), h)

abbrev pub item_code : Item → List ℕ
item_code x = item_before x []

pub same_item : (x y : Item) → item_code x ≡ item_code y → x ≡ y
same_item x y e = (same_before x y [] [] e).0

abbrev child_code : Child → List ℕ
child_code leaf = []
child_code (sub z) = item_code z

same_child : (c d : Child) → child_code c ≡ child_code d → c ≡ d
same_child leaf leaf e = refl
same_child leaf (sub z) e = let n : ◌≡◌ {A = ℕ} 0 1 = cc in absurd (omega arith)
same_child (sub y) leaf e = let n : ◌≡◌ {A = ℕ} 0 1 = cc in absurd (omega arith)
same_child (sub y) (sub z) e = let h = same_item y z e in cc

abbrev pub link_code : Link → List ℕ
link_code l = item_before l.item (item_before l.before (child_code l.child))

pub same_link : (k l : Link) → link_code k ≡ link_code l → k ≡ l
same_link k l e =
    let (a, f) = same_before k.item l.item (item_before k.before (child_code k.child)) (item_before l.before (child_code l.child)) e in
    let (b, h) = same_before k.before l.before (child_code k.child) (child_code l.child) f in
    let c = same_child k.child l.child h in
    λ i. record { item = a i; before = b i; child = c i }

-- the place at a dot of a rule
abbrev dotted : ℕ → Rule → List Place
dotted k p = held (nth p.places k)

-- the place behind the dot of an item
abbrev awaited : Grammar → Item → List Place
awaited g x = gather (dotted x.dot) (held (nth g.rules x.rule))

-- a rule of the symbol a with no place passed, at the end e
abbrev started : ℕ → ℕ → ℕ × Rule → List Item
started a e n = when (eqb n.1.left a) (fresh n.0 e ∷ [])

abbrev opened : Grammar → ℕ → ℕ → List Item
opened g a e = gather (started a e) (numbered 0 g.rules)

abbrev opened_at : Grammar → Item → Place → List Item
opened_at g x q = opened g q.symbol x.to

abbrev predicted : Grammar → Item → List Item
predicted g x = gather (opened_at g x) (awaited g x)

-- x goes on up to e with the child and the summary
abbrev link_to : Item → Child → ℕ → Summary → Link
link_to x c e σ = record { item = advanced x e σ; before = x; child = c }

-- x goes on with the token at the place q
abbrev reads : Item → Place → Token → List Link
reads x q t = when (eqb t.kind q.symbol) (map (link_to x leaf (suc x.to)) (held (passed x.summary q.relation (Exact t.column))))

abbrev by_token : List Token → Item → Place → List Link
by_token ts x q = gather (reads x q) (held (nth ts x.to))

-- x goes on with the item y of the rule p at the place q, where y is finished
abbrev takes : Item → Place → Item → Rule → List Link
takes x q y p = when ((eqb y.dot (length p.places) && eqb p.left q.symbol) && eqb y.from x.to) (map (link_to x (sub y) y.to) (held (passed x.summary q.relation y.summary)))

abbrev over : Grammar → Item → Place → Item → List Link
over g x q y = gather (takes x q y) (held (nth g.rules y.rule))

abbrev by_item : Grammar → List Item → Item → Place → List Link
by_item g R x q = gather (over g x q) R

abbrev links_at : Grammar → List Token → List Item → Item → Place → List Link
links_at g ts R x q = by_token ts x q ++ by_item g R x q

abbrev links_from : Grammar → List Token → List Item → Item → List Link
links_from g ts R x = gather (links_at g ts R x) (awaited g x)

-- the links that the items R make
abbrev pub links : Grammar → List Token → List Item → List Link
links g ts R = gather (links_from g ts R) R

abbrev made_by : Link → Item
made_by l = l.item

-- one round: the rules of the start, what the items R predict, and what their links make
abbrev pub round : Grammar → List Token → List Item → List Item
round g ts R = opened g g.start 0 ++ (gather (predicted g) R ++ map made_by (links g ts R))

awaited_in : (g : Grammar) (x : Item) (q : Place) → Awaits g x q → q ∈ awaited g x
awaited_in g x q a = gather_in (dotted x.dot) (held_in (nth g.rules x.rule) a.is) (held_in (nth a.of.places x.dot) a.there)

awaited_of : (g : Grammar) (x : Item) (q : Place) → q ∈ awaited g x → Awaits g x q
awaited_of g x q m =
    let (p, i, j) = gather_of (dotted x.dot) (held (nth g.rules x.rule)) m in
    record { of = p; is = held_of (nth g.rules x.rule) i; there = held_of (nth p.places x.dot) j }

opened_in : (g : Grammar) (a e r : ℕ) (p : Rule) → nth g.rules r ≡ Some p → p.left ≡ a → fresh r e ∈ opened g a e
opened_in g a e r p h k = gather_in (started a e) (entry_in g.rules r h) (when_in (eqb p.left a) (eq-eqb p.left a k) (Memᴰ.head refl))

opened_of : (g : Grammar) (a e : ℕ) (x : Item) → x ∈ opened g a e → (r : ℕ) × (p : Rule) × (nth g.rules r ≡ Some p) × (p.left ≡ a) × (x ≡ fresh r e)
opened_of g a e x m =
    let (n, i, o) = gather_of (started a e) (numbered 0 g.rules) m in
    let (t, j) = when_of (eqb n.1.left a) (fresh n.0 e ∷ []) o in
    (n.0, n.1, entry_of g.rules i, eqb-true n.1.left a t, Memᴰ.eq_of_singleton j)

module _ (g : Grammar) (ts : List Token) (R : List Item) (h : Every (InChart g ts) R) where
  token_sound : (x : Item) (q : Place) → x ∈ R → Awaits g x q → Every (InForest g ts) (by_token ts x q)
  token_sound x q i a l m =
      let (t, k, n) = gather_of (reads x q) (held (nth ts x.to)) m in
      let (b, o) = when_of (eqb t.kind q.symbol) (map (link_to x leaf (suc x.to)) (held (passed x.summary q.relation (Exact t.column)))) n in
      let (σ, p, e) = Memᴰ.of_map (link_to x leaf (suc x.to)) (held (passed x.summary q.relation (Exact t.column))) o in
      subst (InForest g ts) e (scanned q (h x i) a t (held_of (nth ts x.to) k) (eqb-true t.kind q.symbol b) (held_of (passed x.summary q.relation (Exact t.column)) p))

  item_sound : (x : Item) (q : Place) → x ∈ R → Awaits g x q → Every (InForest g ts) (by_item g R x q)
  item_sound x q i a l m =
      let (y, j, n) = gather_of (over g x q) R m in
      let (r, k, o) = gather_of (takes x q y) (held (nth g.rules y.rule)) n in
      let (b, u) = when_of ((eqb y.dot (length r.places) && eqb r.left q.symbol) && eqb y.from x.to) (map (link_to x (sub y) y.to) (held (passed x.summary q.relation y.summary))) o in
      let (c, d) = and_parts (eqb y.dot (length r.places) && eqb r.left q.symbol) (eqb y.from x.to) b in
      let (v, w) = and_parts (eqb y.dot (length r.places)) (eqb r.left q.symbol) c in
      let (σ, p, e) = Memᴰ.of_map (link_to x (sub y) y.to) (held (passed x.summary q.relation y.summary)) u in
      let f : Finished g y q.symbol = record { of = r; is = held_of (nth g.rules y.rule) k; all = eqb-true y.dot (length r.places) v; left = eqb-true r.left q.symbol w } in
      subst (InForest g ts) e (completed q (h x i) a (h y j) f (eqb-true y.from x.to d) (held_of (passed x.summary q.relation y.summary) p))

  pub links_sound : Every (InForest g ts) (links g ts R)
  links_sound l m =
      let (x, i, n) = gather_of (links_from g ts R) R m in
      let (q, j, o) = gather_of (links_at g ts R x) (awaited g x) n in
      let a = awaited_of g x q j in
      every_append (InForest g ts) (by_token ts x q) (token_sound x q i a) (item_sound x q i a) l o

  begins_sound : Every (InChart g ts) (opened g g.start 0)
  begins_sound x m = let (r, p, k, l, e) = opened_of g g.start 0 x m in subst (InChart g ts) (sym e) (begin r p k l)

  predicted_sound : Every (InChart g ts) (gather (predicted g) R)
  predicted_sound x m =
      let (y, i, n) = gather_of (predicted g) R m in
      let (q, j, o) = gather_of (opened_at g y) (awaited g y) n in
      let (r, p, k, l, e) = opened_of g q.symbol y.to x o in
      subst (InChart g ts) (sym e) (predict q (h y i) (awaited_of g y q j) r p k l)

  made_sound : Every (InChart g ts) (map made_by (links g ts R))
  made_sound x m = let (l, i, e) = Memᴰ.of_map made_by (links g ts R) m in subst (InChart g ts) e (link_in (links_sound l i))

  round_sound : Every (InChart g ts) (round g ts R)
  round_sound = every_append (InChart g ts) (opened g g.start 0) begins_sound (every_append (InChart g ts) (gather (predicted g) R) predicted_sound made_sound)

module _ (g : Grammar) (ts : List Token) (R : List Item) where
  token_link : (x : Item) (q : Place) (σ : Summary) → x ∈ R → Awaits g x q → (t : Token) → nth ts x.to ≡ Some t → t.kind ≡ q.symbol → passed x.summary q.relation (Exact t.column) ≡ Some σ → link_to x leaf (suc x.to) σ ∈ links g ts R
  token_link x q σ m a t h e k =
      gather_in (links_from g ts R) m (gather_in (links_at g ts R x) (awaited_in g x q a) (Memᴰ.append_left (by_item g R x q)
      (gather_in (reads x q) (held_in (nth ts x.to) h) (when_in (eqb t.kind q.symbol) (eq-eqb t.kind q.symbol e)
      (Memᴰ.map (link_to x leaf (suc x.to)) (held_in (passed x.summary q.relation (Exact t.column)) k))))))

  item_link : (x y : Item) (q : Place) (σ : Summary) → x ∈ R → Awaits g x q → y ∈ R → Finished g y q.symbol → y.from ≡ x.to → passed x.summary q.relation y.summary ≡ Some σ → link_to x (sub y) y.to σ ∈ links g ts R
  item_link x y q σ m a n f e k =
      gather_in (links_from g ts R) m (gather_in (links_at g ts R x) (awaited_in g x q a) (Memᴰ.append_right (by_token ts x q)
      (gather_in (over g x q) n (gather_in (takes x q y) (held_in (nth g.rules y.rule) f.is) (when_in ((eqb y.dot (length f.of.places) && eqb f.of.left q.symbol) && eqb y.from x.to) tests
      (Memᴰ.map (link_to x (sub y) y.to) (held_in (passed x.summary q.relation y.summary) k)))))))
    where
      tests : ((eqb y.dot (length f.of.places) && eqb f.of.left q.symbol) && eqb y.from x.to) ≡ true
      tests = and_from (eqb y.dot (length f.of.places) && eqb f.of.left q.symbol) (eqb y.from x.to) (and_from (eqb y.dot (length f.of.places)) (eqb f.of.left q.symbol) (eq-eqb y.dot (length f.of.places) f.all) (eq-eqb f.of.left q.symbol f.left)) (eq-eqb y.from x.to e)

  -- rows that have all that a round makes of them are closed
  round_closed : Every (λ x. x ∈ R) (round g ts R) → Closed g ts R
  round_closed c = record {
    begins = λ r p h e. c (fresh r 0) (Memᴰ.append_left (gather (predicted g) R ++ map made_by (links g ts R)) (opened_in g g.start 0 r p h e));
    predicts = λ x q m a r p h e. c (fresh r x.to) (Memᴰ.append_right (opened g g.start 0) (Memᴰ.append_left (map made_by (links g ts R)) (gather_in (predicted g) m (gather_in (opened_at g x) (awaited_in g x q a) (opened_in g q.symbol x.to r p h e)))));
    scans = λ x q σ m a t h e k. c (advanced x (suc x.to) σ) (Memᴰ.append_right (opened g g.start 0) (Memᴰ.append_right (gather (predicted g) R) (Memᴰ.map made_by (token_link x q σ m a t h e k))));
    completes = λ x y q σ m a n f e k. c (advanced x y.to σ) (Memᴰ.append_right (opened g g.start 0) (Memᴰ.append_right (gather (predicted g) R) (Memᴰ.map made_by (item_link x y q σ m a n f e k))));
  }

  -- the links of rows that have the whole chart
  linked_in : ((x : Item) → InChart g ts x → x ∈ R) → {x y : Item} {c : Child} → Linked g ts x y c → record { item = x; before = y; child = c } ∈ links g ts R
  linked_in has (scanned {y = y} {σ = σ} q d a t h e k) = token_link y q σ (has y d) a t h e k
  linked_in has (completed {y = y} {z = z} {σ = σ} q d a b f e k) = item_link y z q σ (has y d) a (has z b) f e k

  pub links_exactly : Exactly (InChart g ts) R → once link_code (links g ts R) ≡ true → Exactly (InForest g ts) (links g ts R)
  links_exactly x e = record { distinct = once_distinct link_code same_link (links g ts R) e; only = links_sound g ts R x.only; every = λ l d. linked_in x.every d }

pub round_makes : (g : Grammar) (ts : List Token) → Makes (InChart g ts) (round g ts)
round_makes g ts = record { sound = λ R h. round_sound g ts R h; whole = λ R c x d. closed_holds R (round_closed g ts R c) d }
