-- The tables of a stack hold the sums over what completes it, and so the sum over the readings that begin with a prefix.
use Rattle.std.proofs.Common.{◌≡◌, ℕ, zero, suc, ◌<◌, List, [], ◌∷◌, length, sym, ◌∙◌, subst, map-id, arith}
use native.Mathlib.Decide.{ℕ_discrete, dec_lt}
use Rattle.tokens.specs.declared.token.Token.{Token}
use Rattle.lists.specs.Exactly.{Exactly}
use Rattle.lists.specs.Begins.{Begins}
use Rattle.grammar.specs.Grammar.{Grammar}
use Rattle.readings.specs.Reading.{Reading, Separate}
use Rattle.charts.specs.Chart.{Item, InChart, Finished, Root}
use Rattle.charts.specs.Links.{Child, leaf, sub, Linked, Derives, Way, Into}
use Rattle.charts.proofs.Readable.{readable}
use Rattle.charts.proofs.Links.{shape, passes, one_dot, before_in, child_in}
use Rattle.semiring.specs.Laws.{Ops, Lawful}
use Rattle.semiring.specs.Values.{value, total}
use Rattle.sums.specs.Sums.{Sums, joined}
use Rattle.sums.proofs.Unions.{transfer, nothing_sum}
use Rattle.prefixes.specs.Walk.{Walk, Completes}
use Rattle.prefixes.specs.Onward.{Onward, Shows, Closing, After, Begun, Handed, Rests, Ends, Behind}
use Rattle.prefixes.specs.Tables.{Later, Innermost, Outwards, Tables}
use Rattle.prefixes.proofs.Prefixed.{prefixed}
use Rattle.prefixes.proofs.Steps.{one_walk}
use Rattle.prefixes.proofs.Onwards.{later, closing_shows, handed_rows, further_rows, after_join}
use Rattle.prefixes.proofs.Ends.{ends_rows, behind_sum}
use Rattle.prefixes.proofs.Climbing.{walk_in, walk_fresh, completes_spec}

later_decided : (y w : Item) → Dec (Later y w)
later_decided y w = go (ℕ_discrete w.rule y.rule) (ℕ_discrete w.from y.from) (dec_lt y.dot w.dot)
  where
    go : Dec (w.rule ≡ y.rule) → Dec (w.from ≡ y.from) → Dec (y.dot < w.dot) → Dec (Later y w)
    go (yes a) (yes b) (yes c) = yes (record { rule = a; from = b; dot = c })
    go (yes a) (yes b) (no c) = no (λ l. c l.dot)
    go (yes a) (no b) c = no (λ l. b l.from)
    go (no a) b c = no (λ l. a l.rule)

-- a list shows the finished item of a rule and a start, and so the outermost item of what is handed outwards
module _ (g : Grammar) (ts : List Token) (separate : Separate g ts) where
  pub begun_shows : (r s : ℕ) → Shows (Closing g (Begun g ts r s))
  begun_shows r s z z' us us' vs vs' h h' e = readable g ts separate z z' us us' vs vs' h.list.list h'.list.list (h.list.rule ∙ sym h'.list.rule) (one_dot h.finished h'.finished (h.list.rule ∙ sym h'.list.rule)) (h.list.from ∙ sym h'.list.from) e

  pub handed_shows : (us : List Item) (H : Item → List ℕ → Type 0) → Shows H → Shows (Handed g ts H us)
  handed_shows [] H s = s
  handed_shows (y ∷ us) H s = handed_shows us (Closing g (Onward g ts y H)) (closing_shows separate (readable g ts separate) s)

module _ {g : Grammar} {ts : List Token} (separate : Separate g ts) {V : Type 0} (o : Ops V) (cost : ℕ → ℕ) (laws : Lawful o) (links : Item → List Way) (ways : (x : Item) → InChart g ts x → Exactly (Into g ts x) (links x)) (ups : Item → Item → List Item) (lifts : (y x : Item) → InChart g ts x → Exactly (λ (z : Item). Linked g ts x y (sub z)) (ups y x)) (v : Item → V) (values : (z : Item) → InChart g ts z → Sums o cost (Derives g ts z) (v z)) where
  -- a table has the sums over H at the finished items of the chart
  abbrev pub Hands : (Item → List ℕ → Type 0) → (Item → V) → Type 0
  Hands H table = (z : Item) (a : ℕ) → InChart g ts z → Finished g z a → Sums o cost (H z) (table z)

  module _ {H : Item → List ℕ → Type 0} (shows : Shows H) (y : Item) (hand table : Item → V) (given : Hands H hand) (out : Outwards o cost g ts links ups v y hand table) where
    abbrev Gets : Item → Type 0
    Gets w = Sums o cost (Onward g ts y H w) (table w)

    none_step : (w : Item) → InChart g ts w → (Later y w → ⊥) → Gets w
    none_step w i n = subst (Sums o cost (Onward g ts y H w)) (sym (out.none w i n)) (nothing_sum o cost (Onward g ts y H w) (λ us t. n (later t)))

    handed_step : (w : Item) → InChart g ts w → Later y w → w.dot ≡ suc y.dot → Gets w
    handed_step w i l d = subst (Sums o cost (Onward g ts y H w)) (sym (out.handed w i l d))
        (handed_rows separate (readable g ts separate) y shows o cost laws (ups y w) (λ z. z) hand d (subst (Exactly (λ (z : Item). Linked g ts w y (sub z))) (sym (map-id (ups y w))) (lifts y w i)) (λ z m. let k = (lifts y w i).only z m in let p = passes k in given z p.place.symbol (child_in k) p.finished))

    part : {w : Item} (x : Item) (c : Child) → Linked g ts w x c → Gets x → Sums o cost (After g ts y H x c) (joined o cost v (table x) c)
    part x leaf l s = s
    part x (sub z) l s = after_join separate (readable g ts separate) y shows o cost laws s (values z (child_in l))

    further_step : (w : Item) → InChart g ts w → Later y w → suc y.dot < w.dot → ((x : Item) → InChart g ts x → x.dot < w.dot → Gets x) → Gets w
    further_step w i l d low = subst (Sums o cost (Onward g ts y H w)) (sym (out.further w i l d))
        (further_rows separate (readable g ts separate) y shows o cost laws (links w) (λ a. a) (λ (a : Way). joined o cost v (table a.before) a.child) d (subst (Exactly (Into g ts w)) (sym (map-id (links w))) (ways w i)) (λ a m. let k = (ways w i).only a m in let s = shape k in part a.before a.child k (low a.before (before_in k) (omega (arith, s.dot)))))

    step : (w : Item) → InChart g ts w → ((x : Item) → InChart g ts x → x.dot < w.dot → Gets x) → Gets w
    step w i low = go (later_decided y w) (ℕ_discrete w.dot (suc y.dot))
      where
        go : Dec (Later y w) → Dec (w.dot ≡ suc y.dot) → Gets w
        go (no n) d = none_step w i n
        go (yes l) (yes d) = handed_step w i l d
        go (yes l) (no d) = further_step w i l (omega (arith, l.dot)) low

    -- the table outwards has the sums over the lists with which y gets to each item
    pub outwards_sum : (w : Item) → InChart g ts w → Gets w
    outwards_sum w i = go (suc w.dot) w (omega arith) i
      where
        go : (n : ℕ) (w : Item) → w.dot < n → InChart g ts w → Gets w
        go zero w b i = absurd (omega arith)
        go (suc n) w b i = step w i (λ x j l. go n x (omega arith) j)

  closing_sum : {H : Item → List ℕ → Type 0} {z : Item} {t : V} (a : ℕ) → Finished g z a → Sums o cost (H z) t → Sums o cost (Closing g H z) t
  closing_sum a f s = transfer o cost (λ us h. record { symbol = a; finished = f; list = h }) (λ us h. h.list) s

  -- the last table has the sums over what is handed to the outermost level
  pub tables_sum : (us : List Item) {H : Item → List ℕ → Type 0} → Shows H → (hand table : Item → V) → Hands H hand → Tables o cost g ts links ups v hand us table → Hands (Handed g ts H us) table
  tables_sum [] {H} shows hand table given t = λ z a i f. subst (Sums o cost (H z)) (sym (t z i)) (given z a i f)
  tables_sum (y ∷ us) {H} shows hand table given t =
      let (next, out, rest) = t in
      tables_sum us (closing_shows separate (readable g ts separate) shows) next table (λ z a i f. closing_sum a f (outwards_sum shows y hand next given out z i)) rest

  -- the innermost table has the sums over the lists of a rule from a start
  pub innermost_sum : (r s : ℕ) (table : Item → V) → Innermost o g ts r s v table → Hands (Closing g (Begun g ts r s)) table
  innermost_sum r s table t z a i f = closing_sum a f (go (ℕ_discrete z.rule r) (ℕ_discrete z.from s))
    where
      away : ((z.rule ≡ r) × (z.from ≡ s) → ⊥) → Sums o cost (Begun g ts r s z) (table z)
      away n = subst (Sums o cost (Begun g ts r s z)) (sym (t.none z i n)) (nothing_sum o cost (Begun g ts r s z) (λ us b. n (b.rule, b.from)))

      go : Dec (z.rule ≡ r) → Dec (z.from ≡ s) → Sums o cost (Begun g ts r s z) (table z)
      go (yes p) (yes q) = subst (Sums o cost (Begun g ts r s z)) (sym (t.here z i p q)) (transfer o cost (λ us d. record { list = d; rule = p; from = q }) (λ us b. b.list) (values z i))
      go (yes p) (no q) = away (λ h. q h.1)
      go (no p) q = away (λ h. p h.0)

-- the readings that begin with a prefix are the prefix followed by what completes the stack that it leaves
module _ {g : Grammar} {ts : List Token} (separate : Separate g ts) {r : ℕ} {P : List ℕ} {x : Item} {us : List Item} (w : Walk g ts (r ∷ P) x us) where
  pub behind_there : (xs : List ℕ) → Behind (r ∷ P) (Ends g ts (length ts) (Rests g ts x.rule x.to us)) xs → Reading g ts xs × Begins (r ∷ P) xs
  behind_there xs t =
      let (ys, q, e) = t in
      let (i, d) = walk_in w in
      let c = (completes_spec g ts x.rule x.to us (subst (InChart g ts) (walk_fresh w) i) d ys).1 q in
      (prefixed g ts r P xs).1 (record { innermost = x; outwards = us; rest = ys; walk = w; is = e; completes = subst (λ (y : Item). Completes g ts y us ys) (sym (walk_fresh w)) c })

  pub behind_back : (xs : List ℕ) → Reading g ts xs × Begins (r ∷ P) xs → Behind (r ∷ P) (Ends g ts (length ts) (Rests g ts x.rule x.to us)) xs
  behind_back xs d =
      let k = (prefixed g ts r P xs).0 d in
      let (p, q) = one_walk separate k.walk w in
      let (i, a) = walk_in w in
      let c : Completes g ts x us k.rest = rw (p, q) at k.completes in
      (k.rest, (completes_spec g ts x.rule x.to us (subst (InChart g ts) (walk_fresh w) i) a k.rest).0 (subst (λ (y : Item). Completes g ts y us k.rest) (walk_fresh w) c), k.is)

  -- so their sum is the value of the prefix times the sum over what completes the stack
  pub prefix_sum : {V : Type 0} (o : Ops V) (cost : ℕ → ℕ) (laws : Lawful o) {v : V} → Sums o cost (Ends g ts (length ts) (Rests g ts x.rule x.to us)) v → Sums o cost (λ xs. Reading g ts xs × Begins (r ∷ P) xs) (o.product (value o cost (r ∷ P)) v)
  prefix_sum o cost laws s = transfer o cost behind_there behind_back (behind_sum o cost laws (r ∷ P) s)

-- and the last table of the stack has it at the roots
pub table_sum : {g : Grammar} {ts : List Token} (separate : Separate g ts) {V : Type 0} (o : Ops V) (cost : ℕ → ℕ) (laws : Lawful o) (links : Item → List Way) → ((x : Item) → InChart g ts x → Exactly (Into g ts x) (links x)) → (ups : Item → Item → List Item) → ((y x : Item) → InChart g ts x → Exactly (λ (z : Item). Linked g ts x y (sub z)) (ups y x)) → (v : Item → V) → ((z : Item) → InChart g ts z → Sums o cost (Derives g ts z) (v z)) → (F : List Item) → Exactly (Root g ts (length ts)) F → {r : ℕ} {P : List ℕ} {x : Item} {us : List Item} → Walk g ts (r ∷ P) x us → (hand table : Item → V) → Innermost o g ts x.rule x.to v hand → Tables o cost g ts links ups v hand us table → Sums o cost (λ xs. Reading g ts xs × Begins (r ∷ P) xs) (o.product (value o cost (r ∷ P)) (total o table F))
table_sum {g} {ts} separate o cost laws links ways ups lifts v values F roots {x} {us} w hand table inner outer =
    let H = Closing g (Begun g ts x.rule x.to) in
    let shows = begun_shows g ts separate x.rule x.to in
    let sums = tables_sum separate o cost laws links ways ups lifts v values us shows hand table (innermost_sum separate o cost laws links ways ups lifts v values x.rule x.to hand inner) outer in
    prefix_sum separate w o cost laws (ends_rows o cost laws (length ts) F (λ z. z) table (Rests g ts x.rule x.to us) (handed_shows g ts separate us H shows) (subst (Exactly (Root g ts (length ts))) (sym (map-id F)) roots) (λ z m. let t = roots.only z m in sums z g.start t.inside t.finished))
