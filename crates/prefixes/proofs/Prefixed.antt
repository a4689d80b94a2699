-- The readings with a prefix are those that finish the items that the prefix leaves open.
use Rattle.std.proofs.Common.{◌≡◌, ℕ, ◌↔◌, List, [], ◌∷◌, ◌++◌, length, Some, sym, refl, ap, ◌∙◌, subst, append_assoc, append-nil, arith}
use Rattle.indent.specs.declared.summary.Summary.{Summary}
use Rattle.indent.specs.Summaries.{passed}
use Rattle.tokens.specs.declared.token.Token.{Token}
use Rattle.lists.specs.Entries.{nth}
use Rattle.lists.specs.Begins.{Begins}
use Rattle.grammar.specs.Grammar.{Grammar, Rule, Place}
use Rattle.readings.specs.Reading.{Tree, Trees, token, rule, start, pass, Reading}
use Rattle.readings.proofs.Adequacy.{reading_spec}
use Rattle.charts.specs.Chart.{Item, Awaits, fresh, advanced}
use Rattle.charts.proofs.Complete.{item}
use Rattle.charts.proofs.Sound.{awaited, token_tree}
use Rattle.charts.proofs.Links.{one_place}
use Rattle.prefixes.specs.Walk.{Opens, opens, scans, closes, Follows, none, more, Walk, walks, Completes, ends, passes, closed, Continued}

-- a rule's tree, of the symbol that the rule is known to have
pub rule_of_lem : {g : Grammar} {ts : List Token} {a s e : ℕ} {σ : Summary} {xs : List ℕ} (r : ℕ) (p : Rule) → nth g.rules r ≡ Some p → Trees g ts p.places (length p.places) s e σ xs → p.left ≡ a → Tree g ts a s e σ (r ∷ xs)
rule_of_lem {g} {ts} {s} {e} {σ} {xs} r p h T l = subst (λ (b : ℕ). Tree g ts b s e σ (r ∷ xs)) l (rule r p h T)

-- trees before the dot are passed in turn
pub behind : {g : Grammar} {ts : List Token} {p : Rule} {k s e : ℕ} {σ : Summary} {xs : List ℕ} → Trees g ts p.places k s e σ xs → {us : List Item} {ys ws : List ℕ} (r : ℕ) → nth g.rules r ≡ Some p → Completes g ts (item r k s e σ) us ys → ws ≡ xs ++ ys → Completes g ts (fresh r s) us ws
behind start r h c e = rw e c
behind {p} (pass {xs} {ys = ts'} q there T t ok) {ys} r h c e =
    behind T r h (passes q (record { of = p; is = h; there = there }) t ok c refl) (e ∙ append_assoc xs ts' ys)

-- the open item that a rule comes next in, and what is left
pub record Next (g : Grammar) (ts : List Token) (x : Item) (us : List Item) (r : ℕ) (ys : List ℕ) : Type 0 where
  pub innermost : Item
  pub outwards : List Item
  pub is : Opens g ts r x us innermost outwards
  pub left : Completes g ts innermost outwards ys

next_tree : {g : Grammar} {ts : List Token} {a e : ℕ} {x : Item} {τ υ : Summary} {xs : List ℕ} → Tree g ts a x.to e τ xs → {us : List Item} {zs : List ℕ} (q : Place) → a ≡ q.symbol → Awaits g x q → passed x.summary q.relation τ ≡ Some υ → Completes g ts (advanced x e υ) us zs → (r : ℕ) (ys : List ℕ) → xs ++ zs ≡ r ∷ ys → ((r : ℕ) (ys : List ℕ) → zs ≡ r ∷ ys → Next g ts (advanced x e υ) us r ys) → Next g ts x us r ys
next_tree (token t h) q l a ok c r ys w f =
    let n = f r ys w in
    record { innermost = n.innermost; outwards = n.outwards; is = scans q t a h l ok n.is; left = n.left }
next_tree {x} (rule {xs} r' p h T) {us} {zs} q l a ok c r ys w f =
    let er : r' ≡ r = cc in
    let ey : ys ≡ xs ++ zs = cc in
    rw (← er) (record { innermost = fresh r' x.to; outwards = x ∷ us; is = opens q p a h l; left = behind T r' h (closed q a (record { of = p; is = h; all = refl; left = l }) refl ok c) ey })

pub next : {g : Grammar} {ts : List Token} {x : Item} {us : List Item} {ws : List ℕ} → Completes g ts x us ws → (r : ℕ) (ys : List ℕ) → ws ≡ r ∷ ys → Next g ts x us r ys
next (ends f a b) r ys e = let z : ◌≡◌ {A = ℕ} 0 1 = cc in absurd (omega arith)
next (passes q a t ok c e) r ys w = next_tree t q refl a ok c r ys (sym e ∙ w) (next c)
next (closed q a f e ok c) r ys w =
    let n = next c r ys w in
    record { innermost = n.innermost; outwards = n.outwards; is = closes q a f e ok n.is; left = n.left }

-- what the innermost item's places before the dot derive, with what is passed until it is finished
record Closing (g : Grammar) (ts : List Token) (p : Rule) (s : ℕ) (y : Item) (q : Place) (us : List Item) (xs ws : List ℕ) : Type 0 where
  end : ℕ
  summary : Summary
  after : Summary
  list : List ℕ
  rest : List ℕ
  trees : Trees g ts p.places (length p.places) s end summary (xs ++ list)
  ok : passed y.summary q.relation summary ≡ Some after
  left : Completes g ts (advanced y end after) us rest
  is : ws ≡ list ++ rest

closing : {g : Grammar} {ts : List Token} {x : Item} {vs : List Item} {ws : List ℕ} → Completes g ts x vs ws → {y : Item} {us : List Item} {xs : List ℕ} {p : Rule} (q : Place) → vs ≡ y ∷ us → nth g.rules x.rule ≡ Some p → Awaits g y q → Trees g ts p.places x.dot x.from x.to x.summary xs → Closing g ts p x.from y q us xs ws
closing (ends f a b) q v h a' T = let z : ◌≡◌ {A = ℕ} 0 1 = cc in absurd (omega arith)
closing {x} (passes {ys} {zs} q a t ok c e) {xs} q' v h a' T =
    let k = closing c q' v h a' (pass q (awaited a h) T t ok) in
    record { end = k.end; summary = k.summary; after = k.after; list = ys ++ k.list; rest = k.rest; trees = rw append_assoc at k.trees; ok = k.ok; left = k.left; is = e ∙ ap (λ (us : List ℕ). ys ++ us) k.is ∙ sym (append_assoc ys k.list k.rest) }
closing {g} {ts} {x} (closed {y = y'} {us = us'} {σ} {ys} q a f e ok c) {y} {us} {xs} {p} q' v h a' T =
    let ey : y' ≡ y = cc in
    let eu : us' ≡ us = cc in
    let ep : f.of ≡ p = cc (f.is, h) in
    let ek : x.dot ≡ length p.places = rw ep at f.all in
    let eq : q ≡ q' = one_place a (rw (← ey) at a') in
    record { end = x.to; summary = x.summary; after = σ; list = []; rest = ys; trees = rw append-nil (rw ek at T); ok = rw (ey, eq) at ok; left = rw (ey, eu) at c; is = refl }

-- the same at the outermost item
record Ending (g : Grammar) (ts : List Token) (p : Rule) (s : ℕ) (xs ws : List ℕ) : Type 0 where
  summary : Summary
  trees : Trees g ts p.places (length p.places) s (length ts) summary (xs ++ ws)
  start : s ≡ 0
  left : p.left ≡ g.start

ending : {g : Grammar} {ts : List Token} {x : Item} {vs : List Item} {ws : List ℕ} → Completes g ts x vs ws → {xs : List ℕ} {p : Rule} → vs ≡ [] → nth g.rules x.rule ≡ Some p → Trees g ts p.places x.dot x.from x.to x.summary xs → Ending g ts p x.from xs ws
ending {x} (ends f a b) {p} v h T =
    let ep : f.of ≡ p = cc (f.is, h) in
    let ek : x.dot ≡ length p.places = rw ep at f.all in
    record { summary = x.summary; trees = rw append-nil (rw (ek, b) at T); start = a; left = cc (f.left, ep) }
ending {g} {ts} {x} (passes {ys} {zs} q a t ok c e) {xs} {p} v h T =
    let k = ending c v h (pass q (awaited a h) T t ok) in
    record { summary = k.summary; trees = rw (e, ← append_assoc xs ys zs) k.trees; start = k.start; left = k.left }
ending (closed q a f e ok c) v h T = let z : ◌≡◌ {A = ℕ} 0 1 = cc in absurd (omega arith)

-- the list behind the rule that comes next, with that rule
pub back : {g : Grammar} {ts : List Token} {r : ℕ} {x x' : Item} {us us' : List Item} → Opens g ts r x us x' us' → (ys : List ℕ) → Completes g ts x' us' ys → Completes g ts x us (r ∷ ys)
back {g} {ts} {r} {x} (opens {us} q p a h l) ys c =
    let k = closing c {p = p} q refl h a start in
    let t = rule_of_lem r p h k.trees l in
    passes q a t k.ok k.left (ap (λ (zs : List ℕ). r ∷ zs) k.is)
back (scans q t a h l ok o) ys c = passes q a (token_tree t h l) ok (back o ys c) refl
back (closes q a f e ok o) ys c = closed q a f e ok (back o ys c)

pub next_spec : {g : Grammar} {ts : List Token} {x : Item} {us : List Item} (r : ℕ) (ys : List ℕ) → Completes g ts x us (r ∷ ys) ↔ Next g ts x us r ys
next_spec r ys = (λ c. next c r ys refl, λ n. back n.is ys n.left)

-- what is left of a reading behind a prefix
record Left (g : Grammar) (ts : List Token) (x : Item) (us : List Item) (P ys : List ℕ) : Type 0 where
  innermost : Item
  outwards : List Item
  is : Follows g ts x us P innermost outwards
  left : Completes g ts innermost outwards ys

forth_all : {g : Grammar} {ts : List Token} (P : List ℕ) {x : Item} {us : List Item} {ys : List ℕ} → Completes g ts x us (P ++ ys) → Left g ts x us P ys
forth_all [] {x} {us} c = record { innermost = x; outwards = us; is = none; left = c }
forth_all (r ∷ P) {ys} c =
    let n = next c r (P ++ ys) refl in
    let l = forth_all P n.left in
    record { innermost = l.innermost; outwards = l.outwards; is = more n.is l.is; left = l.left }

back_all : {g : Grammar} {ts : List Token} {x x' : Item} {us us' : List Item} {P : List ℕ} → Follows g ts x us P x' us' → {ys : List ℕ} → Completes g ts x' us' ys → Completes g ts x us (P ++ ys)
back_all none c = c
back_all (more {P} o f) {ys} c = back o (P ++ ys) (back_all f c)

-- a reading is what finishes its first rule
first : {g : Grammar} {ts : List Token} {a e : ℕ} {σ : Summary} {xs : List ℕ} → Tree g ts a 0 e σ xs → a ≡ g.start → e ≡ length ts → (r : ℕ) (ys : List ℕ) → xs ≡ r ∷ ys → (p : Rule) × (nth g.rules r ≡ Some p) × (p.left ≡ g.start) × Completes g ts (fresh r 0) [] ys
first (token t h) l m r ys e = let z : ◌≡◌ {A = ℕ} 0 1 = cc in absurd (omega arith)
first (rule {xs} r' p h T) l m r ys e =
    let er : r' ≡ r = cc in
    let ey : ys ≡ xs ++ [] = cc (append-nil xs) in
    (p, rw er at h, l, rw (← er) (behind T r' h (ends (record { of = p; is = h; all = refl; left = l }) refl m) ey))

pub first_back : {g : Grammar} {ts : List Token} (r : ℕ) (p : Rule) {ys : List ℕ} → nth g.rules r ≡ Some p → p.left ≡ g.start → Completes g ts (fresh r 0) [] ys → (σ : Summary) × Tree g ts g.start 0 (length ts) σ (r ∷ ys)
first_back {g} {ts} r p h l c =
    let k = ending c {p = p} refl h start in
    (k.summary, rule_of_lem r p h k.trees l)

-- the readings with a prefix
pub prefixed : (g : Grammar) (ts : List Token) (r : ℕ) (P xs : List ℕ) → (Reading g ts xs × Begins (r ∷ P) xs) ↔ Continued g ts (r ∷ P) xs
prefixed g ts r P xs = (there, back_again)
  where
    there : Reading g ts xs × Begins (r ∷ P) xs → Continued g ts (r ∷ P) xs
    there (d, b) =
        let (ys, e) = b in
        let (σ, t) = (reading_spec g ts xs).0 d in
        let (p, h, l, c) = first t refl refl r (P ++ ys) e in
        let k = forth_all P c in
        record { innermost = k.innermost; outwards = k.outwards; rest = ys; walk = walks r p h l k.is; is = e; completes = k.left }

    back_walk : {Q : List ℕ} {x : Item} {us : List Item} {ys : List ℕ} → Walk g ts Q x us → Completes g ts x us ys → Reading g ts (Q ++ ys)
    back_walk {ys} (walks {P = P'} r' p h l f) c = (reading_spec g ts (r' ∷ (P' ++ ys))).1 (first_back r' p h l (back_all f c))

    back_again : Continued g ts (r ∷ P) xs → Reading g ts xs × Begins (r ∷ P) xs
    back_again w = (rw w.is (back_walk w.walk w.completes), (w.rest, w.is))
