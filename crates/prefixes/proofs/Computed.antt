-- The computed stack is the one that a prefix leaves.
use Rattle.std.proofs.Common.{◌≡◌, ℕ, zero, suc, ◌<◌, Bool, true, false, cond, ◌&&◌, eqb, ◌⊎◌, ◌↔◌, List, [], ◌∷◌, length, Some, None, Option, refl, ◌∙◌, subst, inl, inr, arith}
use Rattle.std.proofs.lemmas.Bool.Decides.{Decides-eqb}
use Rattle.indent.specs.declared.summary.Summary.{Summary}
use Rattle.indent.specs.declared.summary.Summary.TheVariants.{Exact}
use Rattle.indent.specs.Summaries.{passed}
use Rattle.tokens.specs.declared.token.Token.{Token}
use Rattle.lists.specs.Entries.{nth}
use Rattle.lists.proofs.Entries.{nth_below}
use Rattle.grammar.specs.Grammar.{Grammar, Rule, Place}
use Rattle.readings.specs.Reading.{Separate}
use Rattle.charts.specs.Chart.{Item, Awaits, Finished, fresh, advanced}
use Rattle.charts.proofs.Links.{one_place}
use Rattle.prefixes.specs.Walk.{Opens, opens, scans, closes, Follows, none, more, Walk, walks}
use Rattle.prefixes.specs.Walking.{Stack, Move, stuck, opened, on, placed, place, is_of, is_whole, past, by_token, by_child, by_outer, by_place, move, room, continue, opening, bind, follow, walk}
use Rattle.prefixes.proofs.Steps.{Opened, Scans, Closes, awaiting, one_opens, one_walk, first}

pub awaits_of : {g : Grammar} {x : Item} {q : Place} → place g x ≡ Some q → Awaits g x q
awaits_of {g} {x} {q} e = go (nth g.rules x.rule) refl e
  where
    go : (m : Option Rule) → nth g.rules x.rule ≡ m → placed m x.dot ≡ Some q → Awaits g x q
    go None h k = let z : ◌≡◌ {A = ℕ} 0 1 = cc in absurd (omega arith)
    go (Some p) h k = record { of = p; is = h; there = k }

pub place_of : {g : Grammar} {x : Item} {q : Place} → Awaits g x q → place g x ≡ Some q
place_of {g} {x} a = rw a.is a.there

pub is_of_true : {a : ℕ} (m : Option Rule) → is_of m a ≡ true → (p : Rule) × (m ≡ Some p) × (p.left ≡ a)
is_of_true None e = let z : ◌≡◌ {A = ℕ} 0 1 = cc in absurd (omega arith)
is_of_true {a} (Some p) e = (p, refl, (Decides-eqb p.left a).0 e)

pub of_true : {a : ℕ} {m : Option Rule} (p : Rule) → m ≡ Some p → p.left ≡ a → is_of m a ≡ true
of_true {a} p h l = rw h ((Decides-eqb p.left a).1 l)

pub is_whole_true : {k : ℕ} (m : Option Rule) → is_whole m k ≡ true → (p : Rule) × (m ≡ Some p) × (k ≡ length p.places)
is_whole_true None e = let z : ◌≡◌ {A = ℕ} 0 1 = cc in absurd (omega arith)
is_whole_true {k} (Some p) e = (p, refl, (Decides-eqb k (length p.places)).0 e)

pub whole_true : {k : ℕ} {m : Option Rule} (p : Rule) → m ≡ Some p → k ≡ length p.places → is_whole m k ≡ true
whole_true {k} p h l = rw h ((Decides-eqb k (length p.places)).1 l)

pub both_true : (a b : Bool) → (a && b) ≡ true → (a ≡ true) × (b ≡ true)
both_true true b e = (refl, e)
both_true false b e = let z : ◌≡◌ {A = ℕ} 0 1 = cc in absurd (omega arith)

pub true_both : {a b : Bool} → a ≡ true → b ≡ true → (a && b) ≡ true
true_both p q = rw (p, q)

-- what a move says
abbrev pub Means : Grammar → List Token → ℕ → Item → List Item → Move → Type 0
Means g ts r x us stuck = (y : Item) (vs : List Item) → Opens g ts r x us y vs → ⊥
Means g ts r x us (opened y vs) = Opens g ts r x us y vs
Means g ts r x us (on y vs) = (room g y vs < room g x us) × ((z : Item) (ws : List Item) → Opens g ts r y vs z ws → Opens g ts r x us z ws) × ((z : Item) (ws : List Item) → Opens g ts r x us z ws → Opens g ts r y vs z ws)

room_less : {g : Grammar} {x : Item} {q : Place} (e : ℕ) (σ : Summary) (us : List Item) → Awaits g x q → room g (advanced x e σ) us < room g x us
room_less {g} {x} e σ [] a = let n = nth_below a.of.places x.dot a.there in rw a.is (omega arith)
room_less {g} {x} e σ (y ∷ us) a = let n = nth_below a.of.places x.dot a.there in rw a.is (omega arith)

module _ (g : Grammar) (ts : List Token) (r : ℕ) where
  -- x awaits q, and r is no rule of it
  module _ (x : Item) (us : List Item) (q : Place) (a : Awaits g x q) (other : (p : Rule) → nth g.rules r ≡ Some p → p.left ≡ q.symbol → ⊥) where
    scanning : {y : Item} {vs : List Item} → Opens g ts r x us y vs → Scans g ts r x us q y vs
    scanning {y} {vs} o = go (awaiting o q a)
      where
        go : Opened g r x us q y vs ⊎ Scans g ts r x us q y vs → Scans g ts r x us q y vs
        go (inl k) = absurd (other k.of k.is k.left)
        go (inr k) = k

    past_means : (t : Token) → nth ts x.to ≡ Some t → t.kind ≡ q.symbol → (s : Option Summary) → passed x.summary q.relation (Exact t.column) ≡ s → Means g ts r x us (past x (suc x.to) us s)
    past_means t h l None e = λ y vs o. let k = scanning o in let et : k.next ≡ t = cc k.is in let z : ◌≡◌ {A = ℕ} 0 1 = cc (k.ok, e) in omega arith
    past_means t h l (Some σ) e = (room_less (suc x.to) σ us a, (λ z ws o. scans q t a h l e o), (λ z ws o. let k = scanning o in let et : k.next ≡ t = cc k.is in let es : k.after ≡ σ = cc (k.ok, e) in rw es at k.then))

    kind_means : (t : Token) → nth ts x.to ≡ Some t → (b : Bool) → eqb t.kind q.symbol ≡ b → Means g ts r x us (cond b (past x (suc x.to) us (passed x.summary q.relation (Exact t.column))) stuck)
    kind_means t h true e = past_means t h ((Decides-eqb t.kind q.symbol).0 e) (passed x.summary q.relation (Exact t.column)) refl
    kind_means t h false e = λ y vs o. let k = scanning o in let et : k.next ≡ t = cc k.is in let d = (Decides-eqb t.kind q.symbol).1 (cc k.kind) in let z : ◌≡◌ {A = ℕ} 0 1 = cc in omega arith

    token_means : (m : Option Token) → nth ts x.to ≡ m → Means g ts r x us (by_token x us q m)
    token_means None h = λ y vs o. let k = scanning o in let z : ◌≡◌ {A = ℕ} 0 1 = cc k.is in omega arith
    token_means (Some t) h = kind_means t h (eqb t.kind q.symbol) refl

  -- x awaits nothing
  module _ (x : Item) (no_place : place g x ≡ None) where
    waiting : {q : Place} → Awaits g x q → ⊥
    waiting a = let e = place_of a in let z : ◌≡◌ {A = ℕ} 0 1 = cc in omega arith

    closing : {us : List Item} {y : Item} {vs : List Item} → Opens g ts r x us y vs → Closes g ts r x us y vs
    closing (opens q p a h l) = absurd (waiting a)
    closing (scans q t a h l ok o) = absurd (waiting a)
    closing (closes {y} {us} {σ} q a f e ok o) = record { outer = y; others = us; is = refl; place = q; awaits = a; finished = f; from = e; after = σ; ok = ok; then = o }

    module _ (y : Item) (us : List Item) (q : Place) (a : Awaits g y q) where
      outer_is : {z : Item} {ws : List Item} (k : Closes g ts r x (y ∷ us) z ws) → (k.outer ≡ y) × (k.others ≡ us) × (k.place ≡ q)
      outer_is k =
          let ey : k.outer ≡ y = cc k.is in
          let eu : k.others ≡ us = cc k.is in
          (ey, eu, one_place (rw ey at k.awaits) a)

      pass_means : Finished g x q.symbol → x.from ≡ y.to → (s : Option Summary) → passed y.summary q.relation x.summary ≡ s → Means g ts r x (y ∷ us) (past y x.to us s)
      pass_means f h None e = λ z ws o. let k = closing o in let (ey, eu, eq) = outer_is k in let n : ◌≡◌ {A = ℕ} 0 1 = cc (k.ok, e) in omega arith
      pass_means f h (Some σ) e = (let n = room_less x.to σ us a in room_outer n, (λ z ws o. closes q a f h e o), (λ z ws o. let k = closing o in let (ey, eu, eq) = outer_is k in let es : k.after ≡ σ = cc (k.ok, e) in rw (es, ey, eu) at k.then))
        where
          room_outer : room g (advanced y x.to σ) us < room g y us → room g (advanced y x.to σ) us < room g x (y ∷ us)
          room_outer n = omega arith

      test_means : (b : Bool) → (is_whole (nth g.rules x.rule) x.dot && is_of (nth g.rules x.rule) q.symbol && eqb x.from y.to) ≡ b → Means g ts r x (y ∷ us) (cond b (past y x.to us (passed y.summary q.relation x.summary)) stuck)
      test_means true e =
          let (d, d₂) = both_true (is_whole (nth g.rules x.rule) x.dot && is_of (nth g.rules x.rule) q.symbol) (eqb x.from y.to) e in
          let (c, d₁) = both_true (is_whole (nth g.rules x.rule) x.dot) (is_of (nth g.rules x.rule) q.symbol) d in
          let (p, h, l) = is_whole_true (nth g.rules x.rule) c in
          let (p', h', l') = is_of_true (nth g.rules x.rule) d₁ in
          let ep : p' ≡ p = cc in
          pass_means (record { of = p; is = h; all = l; left = cc }) ((Decides-eqb x.from y.to).0 d₂) (passed y.summary q.relation x.summary) refl
      test_means false e = λ z ws o.
          let k = closing o in
          let (ey, eu, eq) = outer_is k in
          let f = k.finished in
          let c = whole_true f.of f.is f.all in
          let d₁ : is_of (nth g.rules x.rule) q.symbol ≡ true = of_true f.of f.is (cc) in
          let d₂ = (Decides-eqb x.from y.to).1 (cc) in
          let n : ◌≡◌ {A = ℕ} 0 1 = cc (true_both (true_both c d₁) d₂) in
          omega arith

    child_means : (y : Item) (us : List Item) (m : Option Place) → place g y ≡ m → Means g ts r x (y ∷ us) (by_child g x y us m)
    child_means y us None h = λ z ws o. let k = closing o in let ey : k.outer ≡ y = cc k.is in let w = place_of (rw ey at k.awaits) in let n : ◌≡◌ {A = ℕ} 0 1 = cc in omega arith
    child_means y us (Some q) h = test_means y us q (awaits_of h) (is_whole (nth g.rules x.rule) x.dot && is_of (nth g.rules x.rule) q.symbol && eqb x.from y.to) refl

    outer_means : (us : List Item) → Means g ts r x us (by_outer g x us)
    outer_means [] = λ z ws o. let k = closing o in let n : ◌≡◌ {A = ℕ} 0 1 = cc k.is in omega arith
    outer_means (y ∷ us) = child_means y us (place g y) refl

  opened_means : (x : Item) (us : List Item) (q : Place) → Awaits g x q → (b : Bool) → is_of (nth g.rules r) q.symbol ≡ b → Means g ts r x us (cond b (opened (fresh r x.to) (x ∷ us)) (by_token x us q (nth ts x.to)))
  opened_means x us q a true e = let (p, h, l) = is_of_true (nth g.rules r) e in opens q p a h l
  opened_means x us q a false e = token_means x us q a (λ p h l. let c = of_true p h l in let n : ◌≡◌ {A = ℕ} 0 1 = cc in omega arith) (nth ts x.to) refl

  place_means : (x : Item) (us : List Item) (m : Option Place) → place g x ≡ m → Means g ts r x us (by_place g ts r x us m)
  place_means x us None h = outer_means x h us
  place_means x us (Some q) h = opened_means x us q (awaits_of h) (is_of (nth g.rules r) q.symbol) refl

  pub move_means : (x : Item) (us : List Item) → Means g ts r x us (move g ts r x us)
  move_means x us = place_means x us (place g x) refl

  -- what an answer says
  abbrev Answers : Item → List Item → Option Stack → Type 0
  Answers x us None = (y : Item) (vs : List Item) → Opens g ts r x us y vs → ⊥
  Answers x us (Some s) = Opens g ts r x us s.innermost s.outwards

  answers : (n : ℕ) (x : Item) (us : List Item) → room g x us < n → Answers x us (opening g ts r n x us)
  answers zero x us h = absurd (omega arith)
  answers (suc n) x us h = go (move g ts r x us) (move_means x us) (λ y vs b. answers n y vs b)
    where
      lift : (y : Item) (vs : List Item) → ((z : Item) (ws : List Item) → Opens g ts r y vs z ws → Opens g ts r x us z ws) → ((z : Item) (ws : List Item) → Opens g ts r x us z ws → Opens g ts r y vs z ws) → (m : Option Stack) → Answers y vs m → Answers x us m
      lift y vs f k None c = λ z ws o. c z ws (k z ws o)
      lift y vs f k (Some s) c = f s.innermost s.outwards c

      go : (m : Move) → Means g ts r x us m → ((y : Item) (vs : List Item) → room g y vs < n → Answers y vs (opening g ts r n y vs)) → Answers x us (continue m (λ y vs. opening g ts r n y vs))
      go stuck c ih = c
      go (opened y vs) c ih = c
      go (on y vs) c ih = let (b, f, k) = c in lift y vs f k (opening g ts r n y vs) (ih y vs (omega arith))

  pub opening_answers : (x : Item) (us : List Item) → Answers x us (opening g ts r (suc (room g x us)) x us)
  opening_answers x us = answers (suc (room g x us)) x us (omega arith)

-- what a prefix's answer says
abbrev Leaves : Grammar → List Token → List ℕ → Item → List Item → Option Stack → Type 0
Leaves g ts P x us None = (y : Item) (vs : List Item) → Follows g ts x us P y vs → ⊥
Leaves g ts P x us (Some s) = Follows g ts x us P s.innermost s.outwards

module _ (g : Grammar) (ts : List Token) (separate : Separate g ts) where
  leaves : (P : List ℕ) (s : Stack) → Leaves g ts P s.innermost s.outwards (follow g ts P s)
  leaves [] s = none
  leaves (r ∷ P) s = go (opening g ts r (suc (room g s.innermost s.outwards)) s.innermost s.outwards) (opening_answers g ts r s.innermost s.outwards) (λ t. leaves P t)
    where
      lift : (t : Stack) → Opens g ts r s.innermost s.outwards t.innermost t.outwards → (m : Option Stack) → Leaves g ts P t.innermost t.outwards m → Leaves g ts (r ∷ P) s.innermost s.outwards m
      lift t o None c = λ y vs f. let k = first f in let (p, q) = one_opens k.opened_by separate o in c y vs (rw (p, q) at k.then)
      lift t o (Some u) c = more o c

      go : (m : Option Stack) → Answers g ts r s.innermost s.outwards m → ((t : Stack) → Leaves g ts P t.innermost t.outwards (follow g ts P t)) → Leaves g ts (r ∷ P) s.innermost s.outwards (bind m (λ t. follow g ts P t))
      go None c ih = λ y vs f. let k = first f in c k.innermost k.outwards k.opened_by
      go (Some t) c ih = lift t c (follow g ts P t) (ih t)

  -- what the computed stack says
  abbrev pub LeftBy : List ℕ → Option Stack → Type 0
  LeftBy P None = (y : Item) (vs : List Item) → Walk g ts P y vs → ⊥
  LeftBy P (Some s) = Walk g ts P s.innermost s.outwards

  no_walk : {y : Item} {vs : List Item} → Walk g ts [] y vs → ⊥
  no_walk w = go w refl
    where
      go : {P : List ℕ} {y : Item} {vs : List Item} → Walk g ts P y vs → P ≡ [] → ⊥
      go (walks r p h l f) e = let n : ◌≡◌ {A = ℕ} 0 1 = cc in omega arith

  walk_start : {r : ℕ} {P : List ℕ} {y : Item} {vs : List Item} → Walk g ts (r ∷ P) y vs → (is_of (nth g.rules r) g.start ≡ true) × Follows g ts (fresh r 0) [] P y vs
  walk_start (walks r p h l f) = (of_true p h l, f)

  pub walk_left : (P : List ℕ) → LeftBy P (walk g ts P)
  walk_left [] = λ y vs w. no_walk w
  walk_left (r ∷ P) = go (is_of (nth g.rules r) g.start) refl
    where
      lift : is_of (nth g.rules r) g.start ≡ true → (m : Option Stack) → Leaves g ts P (fresh r 0) [] m → LeftBy (r ∷ P) m
      lift e None c = λ y vs w. c y vs (walk_start w).1
      lift e (Some t) c = let (p, h, l) = is_of_true (nth g.rules r) e in walks r p h l c

      go : (b : Bool) → is_of (nth g.rules r) g.start ≡ b → LeftBy (r ∷ P) (cond b (follow g ts P (record { innermost = fresh r 0; outwards = [] })) None)
      go true e = lift e (follow g ts P (record { innermost = fresh r 0; outwards = [] })) (leaves P (record { innermost = fresh r 0; outwards = [] }))
      go false e = λ y vs w. let (k, f) = walk_start w in let n : ◌≡◌ {A = ℕ} 0 1 = cc in omega arith

  -- the computed stack is the one that a prefix leaves
  pub walk_spec : (P : List ℕ) (x : Item) (us : List Item) → Walk g ts P x us ↔ (walk g ts P ≡ Some (record { innermost = x; outwards = us }))
  walk_spec P x us = (λ w. there (walk g ts P) refl (walk_left P) w, λ e. subst (LeftBy P) e (walk_left P))
    where
      there : (m : Option Stack) → walk g ts P ≡ m → LeftBy P m → Walk g ts P x us → walk g ts P ≡ Some (record { innermost = x; outwards = us })
      there None e c w = absurd (c x us w)
      there (Some t) e c w = let (p, q) = one_walk separate c w in e ∙ (λ i. Some (record { innermost = p i; outwards = q i }))
