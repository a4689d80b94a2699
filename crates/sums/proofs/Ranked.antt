-- Values computed along the links of a part of the chart exist and are the sums over all lists, where some number falls
-- along every link of that part.
use Rattle.std.proofs.Common.{◌≡◌, ℕ, zero, suc, ◌<◌, List, sym, refl, ap, ◌∙◌, subst, ap₂, arith}
use Rattle.tokens.specs.declared.token.Token.{Token}
use Rattle.lists.specs.Exactly.{Exactly}
use Rattle.grammar.specs.Grammar.{Grammar}
use Rattle.charts.specs.Chart.{Item, InChart}
use Rattle.charts.specs.Links.{Derives, Child, leaf, sub, Linked, Way, Into, Unique, Uses, back, down}
use Rattle.charts.proofs.Links.{used_in}
use Rattle.semiring.specs.Laws.{Ops, Lawful}
use Rattle.semiring.specs.Values.{total}
use Rattle.sums.specs.Sums.{Sums, joined, Kept, Valued, Under, at, below}
use Rattle.sums.proofs.Totals.{total_same}
use Rattle.sums.proofs.Values.{item_value, first_sum}

-- the whole chart is a part that has what its items are made from
pub all_kept : (g : Grammar) (ts : List Token) → Kept g ts (InChart g ts)
all_kept g ts = record { inside = λ x c. c; down = λ x y c u. used_in u }

-- and so is what a set of its items is made from
under_in : {g : Grammar} {ts : List Token} {R : Item → Type 0} {x : Item} → Under g ts R x → ((x : Item) → R x → InChart g ts x) → InChart g ts x
under_in {x} (at r) h = h x r
under_in (below u k) h = used_in k

pub under_kept : {g : Grammar} {ts : List Token} (R : Item → Type 0) → ((x : Item) → R x → InChart g ts x) → Kept g ts (Under g ts R)
under_kept R h = record { inside = λ x u. under_in u h; down = λ x y u k. below u k }

module _ {g : Grammar} {ts : List Token} (unique : Unique g ts) {V : Type 0} (o : Ops V) (cost : ℕ → ℕ) (laws : Lawful o) {K : Item → Type 0} (kept : Kept g ts K) where
  -- such values are the sums over the lists of their items
  pub valued : (links : Item → List Way) (v : Item → V) → Valued o cost g ts K links v → (rank : Item → ℕ) → ((x y : Item) → K x → Uses g ts x y → rank y < rank x) → (x : Item) → K x → Sums o cost (Derives g ts x) (v x)
  valued links v h rank falls x c = go (suc (rank x)) x (omega arith) c
    where
      step : (x : Item) → K x → ((y : Item) → rank y < rank x → K y → Sums o cost (Derives g ts y) (v y)) → (k : ℕ) → x.dot ≡ k → Sums o cost (Derives g ts x) (v x)
      step x c lower zero e = subst (λ (t : V). Sums o cost (Derives g ts x) t) (sym (h.first x c e)) (first_sum o cost laws (kept.inside x c) e)
      step x c lower (suc k) e =
          let n : 0 < x.dot = omega arith in
          subst (λ (t : V). Sums o cost (Derives g ts x) t) (sym (h.later x c n)) (item_value unique o cost laws (links x) v (kept.inside x c) n (h.ways x c) (λ w l. lower w.before (falls x w.before c (back l)) (kept.down x w.before c (back l))) (λ y z l. lower z (falls x z c (down l)) (kept.down x z c (down l))))

      go : (n : ℕ) (x : Item) → rank x < n → K x → Sums o cost (Derives g ts x) (v x)
      go zero x b c = absurd (omega arith)
      go (suc n) x b c = step x c (λ y b' c'. go n y (omega arith) c') x.dot refl

-- unit where the dot is 0, else a value
abbrev begun : {V : Type 0} → Ops V → ℕ → V → V
begun o zero v = o.unit
begun o (suc d) v = v

-- the values by n rounds along the links
abbrev rounds : {V : Type 0} → Ops V → (ℕ → ℕ) → (Item → List Way) → ℕ → Item → V
rounds o cost links zero x = o.unit
rounds o cost links (suc n) x = begun o x.dot (total o (λ (w : Way). joined o cost (rounds o cost links n) (rounds o cost links n w.before) w.child) (links x))

begun_later : {V : Type 0} (o : Ops V) (d : ℕ) (v : V) → 0 < d → begun o d v ≡ v
begun_later o zero v h = absurd (omega arith)
begun_later o (suc d) v h = refl

module _ {g : Grammar} {ts : List Token} {V : Type 0} (o : Ops V) (cost : ℕ → ℕ) {K : Item → Type 0} (kept : Kept g ts K) (links : Item → List Way) (ways : (x : Item) → K x → Exactly (Into g ts x) (links x)) (rank : Item → ℕ) (falls : (x y : Item) → K x → Uses g ts x y → rank y < rank x) where
  child_same : (n m : ℕ) (x y : Item) (c : Child) → K x → Linked g ts x y c → rounds o cost links n y ≡ rounds o cost links m y → ((z : Item) → K z → rank z < rank x → rounds o cost links n z ≡ rounds o cost links m z) → joined o cost (rounds o cost links n) (rounds o cost links n y) c ≡ joined o cost (rounds o cost links m) (rounds o cost links m y) c
  child_same n m x y leaf i l e f = e
  child_same n m x y (sub z) i l e f = ap₂ (λ (a b : V). o.product a (o.product (o.weight z.rule (cost z.rule)) b)) e (f z (kept.down x z i (down l)) (falls x z i (down l)))

  -- more rounds than the rank change nothing
  settled : (n m : ℕ) (x : Item) → K x → rank x < n → rank x < m → rounds o cost links n x ≡ rounds o cost links m x
  settled zero m x i a b = absurd (omega arith)
  settled (suc n) zero x i a b = absurd (omega arith)
  settled (suc n) (suc m) x i a b = ap (begun o x.dot) (total_same o (λ (w : Way). joined o cost (rounds o cost links n) (rounds o cost links n w.before) w.child) (λ (w : Way). joined o cost (rounds o cost links m) (rounds o cost links m w.before) w.child) (links x) (λ w k. part (λ z q h. settled n m z q (omega arith) (omega arith)) w ((ways x i).only w k)))
    where
      part : ((z : Item) → K z → rank z < rank x → rounds o cost links n z ≡ rounds o cost links m z) → (w : Way) → Into g ts x w → joined o cost (rounds o cost links n) (rounds o cost links n w.before) w.child ≡ joined o cost (rounds o cost links m) (rounds o cost links m w.before) w.child
      part lower w l = child_same n m x w.before w.child i l (lower w.before (kept.down x w.before i (back l)) (falls x w.before i (back l))) lower

  -- so values along the links exist
  pub values : (v : Item → V) × Valued o cost g ts K links v
  values = (v, record { ways = ways; first = first; later = later })
    where
      v : Item → V
      v x = rounds o cost links (suc (rank x)) x

      first : (x : Item) → K x → x.dot ≡ 0 → v x ≡ o.unit
      first x i e = ap (λ (d : ℕ). begun o d (total o (λ (w : Way). joined o cost (rounds o cost links (rank x)) (rounds o cost links (rank x) w.before) w.child) (links x))) e

      lower : (x z : Item) → K x → K z → rank z < rank x → rounds o cost links (rank x) z ≡ v z
      lower x z i k h = settled (rank x) (suc (rank z)) z k h (omega arith)

      part : (x : Item) → K x → (w : Way) (c : Child) → Linked g ts x w.before c → joined o cost (rounds o cost links (rank x)) (rounds o cost links (rank x) w.before) c ≡ joined o cost v (v w.before) c
      part x i w leaf l = lower x w.before i (kept.down x w.before i (back l)) (falls x w.before i (back l))
      part x i w (sub z) l = ap₂ (λ (a b : V). o.product a (o.product (o.weight z.rule (cost z.rule)) b)) (lower x w.before i (kept.down x w.before i (back l)) (falls x w.before i (back l))) (lower x z i (kept.down x z i (down l)) (falls x z i (down l)))

      later : (x : Item) → K x → 0 < x.dot → v x ≡ total o (λ (w : Way). joined o cost v (v w.before) w.child) (links x)
      later x i n = begun_later o x.dot _ n ∙ total_same o (λ (w : Way). joined o cost (rounds o cost links (rank x)) (rounds o cost links (rank x) w.before) w.child) (λ (w : Way). joined o cost v (v w.before) w.child) (links x) (λ w k. part x i w w.child ((ways x i).only w k))
