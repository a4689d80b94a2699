-- What comes next is decided by the innermost item, so a prefix leaves one stack, where no token is of a symbol that has
-- rules.
use Rattle.std.proofs.Common.{◌≡◌, ℕ, suc, ◌⊎◌, List, [], ◌∷◌, ◌++◌, length, Some, sym, refl, ◌∙◌, inl, inr, arith}
use Rattle.indent.specs.declared.summary.Summary.{Summary}
use Rattle.indent.specs.declared.summary.Summary.TheVariants.{Exact}
use Rattle.indent.specs.Summaries.{passed}
use Rattle.tokens.specs.declared.token.Token.{Token}
use Rattle.lists.specs.Entries.{nth}
use Rattle.lists.proofs.Entries.{nth_below}
use Rattle.grammar.specs.Grammar.{Grammar, Rule, Place}
use Rattle.readings.specs.Reading.{Separate}
use Rattle.charts.specs.Chart.{Item, Awaits, Finished, fresh, advanced}
use Rattle.charts.proofs.Links.{one_place}
use Rattle.prefixes.specs.Walk.{Opens, opens, scans, closes, Follows, none, more, Walk, walks}

pub not_both : {g : Grammar} {x : Item} {q : Place} {a : ℕ} → Awaits g x q → Finished g x a → ⊥
not_both {x} a f =
    let e : a.of ≡ f.of = cc (a.is, f.is) in
    let n = nth_below a.of.places x.dot a.there in
    let k : x.dot ≡ length a.of.places = cc f.all in
    omega arith

-- the rule is opened in the innermost item
pub record Opened (g : Grammar) (r : ℕ) (x : Item) (us : List Item) (q : Place) (y : Item) (vs : List Item) : Type 0 where
  pub of : Rule
  pub is : nth g.rules r ≡ Some of
  pub left : of.left ≡ q.symbol
  pub innermost : y ≡ fresh r x.to
  pub outwards : vs ≡ x ∷ us

-- the innermost item passes a token first
pub record Scans (g : Grammar) (ts : List Token) (r : ℕ) (x : Item) (us : List Item) (q : Place) (y : Item) (vs : List Item) : Type 0 where
  pub next : Token
  pub is : nth ts x.to ≡ Some next
  pub kind : next.kind ≡ q.symbol
  pub after : Summary
  pub ok : passed x.summary q.relation (Exact next.column) ≡ Some after
  pub then : Opens g ts r (advanced x (suc x.to) after) us y vs

-- the innermost item is passed first
pub record Closes (g : Grammar) (ts : List Token) (r : ℕ) (x : Item) (us : List Item) (y : Item) (vs : List Item) : Type 0 where
  pub outer : Item
  pub others : List Item
  pub is : us ≡ outer ∷ others
  pub place : Place
  pub awaits : Awaits g outer place
  pub finished : Finished g x place.symbol
  pub from : x.from ≡ outer.to
  pub after : Summary
  pub ok : passed outer.summary place.relation x.summary ≡ Some after
  pub then : Opens g ts r (advanced outer x.to after) others y vs

pub awaiting : {g : Grammar} {ts : List Token} {r : ℕ} {x y : Item} {us vs : List Item} → Opens g ts r x us y vs → (q : Place) → Awaits g x q → Opened g r x us q y vs ⊎ Scans g ts r x us q y vs
awaiting (opens q' p a h l) q b = let e = one_place a b in inl (record { of = p; is = h; left = cc; innermost = refl; outwards = refl })
awaiting (scans {σ} q' t a h l ok o) q b = let e = one_place a b in inr (record { next = t; is = h; kind = cc; after = σ; ok = rw e at ok; then = o })
awaiting (closes q' a f e ok o) q b = absurd (not_both b f)

pub finishing : {g : Grammar} {ts : List Token} {r : ℕ} {x y : Item} {us vs : List Item} → Opens g ts r x us y vs → (a : ℕ) → Finished g x a → Closes g ts r x us y vs
finishing (opens q p a h l) b f = absurd (not_both a f)
finishing (scans q t a h l ok o) b f = absurd (not_both a f)
finishing (closes {y} {us} {σ} q a f' e ok o) b f = record { outer = y; others = us; is = refl; place = q; awaits = a; finished = f'; from = e; after = σ; ok = ok; then = o }

-- a rule that comes next leaves one stack
pub one_opens : {g : Grammar} {ts : List Token} {r : ℕ} {x y : Item} {us vs : List Item} → Opens g ts r x us y vs → Separate g ts → {y' : Item} {vs' : List Item} → Opens g ts r x us y' vs' → (y ≡ y') × (vs ≡ vs')
one_opens {g} {ts} {r} {x} {us} (opens q p a h l) sep {y'} {vs'} o = go (awaiting o q a)
  where
    go : Opened g r x us q y' vs' ⊎ Scans g ts r x us q y' vs' → (fresh r x.to ≡ y') × (◌≡◌ {A = List Item} (x ∷ us) vs')
    go (inl k) = (sym k.innermost, sym k.outwards)
    go (inr k) = absurd (sep k.next x.to r p k.is h (k.kind ∙ sym l))
one_opens {g} {ts} {r} {x} {y} {us} {vs} (scans {σ} q t a h l ok o) sep {y'} {vs'} o' = go (awaiting o' q a) (λ p. one_opens o sep p)
  where
    go : Opened g r x us q y' vs' ⊎ Scans g ts r x us q y' vs' → (Opens g ts r (advanced x (suc x.to) σ) us y' vs' → (y ≡ y') × (vs ≡ vs')) → (y ≡ y') × (vs ≡ vs')
    go (inl k) f = absurd (sep t x.to r k.of h k.is (l ∙ sym k.left))
    go (inr k) f =
        let et : t ≡ k.next = cc (h, k.is) in
        let es : k.after ≡ σ = cc (ok, k.ok, et) in
        f (rw es at k.then)
one_opens {g} {ts} {r} (closes {x} {y} {us} {σ} q a f e ok o) sep o' =
    let k = finishing o' q.symbol f in
    let ey : k.outer ≡ y = cc k.is in
    let eu : k.others ≡ us = cc k.is in
    let eq : k.place ≡ q = one_place (rw ey at k.awaits) a in
    let es : k.after ≡ σ = cc (ok, k.ok, ey, eq) in
    one_opens o sep (rw (es, ey, eu) at k.then)

one_follows : {g : Grammar} {ts : List Token} {x y : Item} {us vs : List Item} {P : List ℕ} → Follows g ts x us P y vs → Separate g ts → {y' : Item} {vs' : List Item} → Follows g ts x us P y' vs' → (y ≡ y') × (vs ≡ vs')
one_follows none sep none = (refl, refl)
one_follows {g} {ts} (more {P} o f) sep (more o' f') =
    let (p, q) = one_opens o' sep o in
    one_follows f sep (rw (p, q) at f')

-- a prefix leaves one stack
pub one_walk : {g : Grammar} {ts : List Token} {x y : Item} {us vs : List Item} {P : List ℕ} → Separate g ts → Walk g ts P x us → Walk g ts P y vs → (x ≡ y) × (us ≡ vs)
one_walk sep (walks r p h l f) (walks r' p' h' l' f') = one_follows f sep f'

-- the first rule of a list, and the rest
pub record First (g : Grammar) (ts : List Token) (r : ℕ) (P : List ℕ) (x : Item) (us : List Item) (y : Item) (vs : List Item) : Type 0 where
  pub innermost : Item
  pub outwards : List Item
  pub opened_by : Opens g ts r x us innermost outwards
  pub then : Follows g ts innermost outwards P y vs

pub first : {g : Grammar} {ts : List Token} {r : ℕ} {P : List ℕ} {x y : Item} {us vs : List Item} → Follows g ts x us (r ∷ P) y vs → First g ts r P x us y vs
first (more {y} {vs} o f) = record { innermost = y; outwards = vs; opened_by = o; then = f }

-- a prefix that is one rule longer
follows_more : {g : Grammar} {ts : List Token} {r : ℕ} {x y z : Item} {us vs ws : List Item} {P : List ℕ} → Follows g ts x us P y vs → Opens g ts r y vs z ws → Follows g ts x us (P ++ (r ∷ [])) z ws
follows_more none o = more o none
follows_more (more o f) o' = more o (follows_more f o')

pub walk_more : {g : Grammar} {ts : List Token} {r : ℕ} {y z : Item} {vs ws : List Item} {P : List ℕ} → Walk g ts P y vs → Opens g ts r y vs z ws → Walk g ts (P ++ (r ∷ [])) z ws
walk_more (walks r p h l f) o = walks r p h l (follows_more f o)

-- the stack before the last rule
pub record LastStep (g : Grammar) (ts : List Token) (r : ℕ) (x : Item) (us : List Item) (P : List ℕ) (z : Item) (ws : List Item) : Type 0 where
  pub innermost : Item
  pub outwards : List Item
  pub follows : Follows g ts x us P innermost outwards
  pub last : Opens g ts r innermost outwards z ws

only_none : {g : Grammar} {ts : List Token} {x z : Item} {us ws : List Item} → Follows g ts x us [] z ws → (x ≡ z) × (us ≡ ws)
only_none none = (refl, refl)

before : {g : Grammar} {ts : List Token} {r : ℕ} (P : List ℕ) {x z : Item} {us ws : List Item} → Follows g ts x us (P ++ (r ∷ [])) z ws → LastStep g ts r x us P z ws
before [] {x} {us} f = let k = first f in let (p, q) = only_none k.then in record { innermost = x; outwards = us; follows = none; last = rw (p, q) at k.opened_by }
before (s ∷ P) f =
    let k = first f in
    let b = before P k.then in
    record { innermost = b.innermost; outwards = b.outwards; follows = more k.opened_by b.follows; last = b.last }

pub walk_last : {g : Grammar} {ts : List Token} {r s : ℕ} (P : List ℕ) {z : Item} {ws : List Item} → Walk g ts (s ∷ (P ++ (r ∷ []))) z ws → (y : Item) × (vs : List Item) × Walk g ts (s ∷ P) y vs × Opens g ts r y vs z ws
walk_last P (walks s p h l f) = let b = before P f in (b.innermost, b.outwards, walks s p h l b.follows, b.last)
