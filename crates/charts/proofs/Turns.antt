-- The items of one end grow turn by turn; when each has had its turn, they and those of lower ends are the chart.
use Rattle.std.proofs.Common.{◌≡◌, ℕ, suc, ◌<◌, ◌⊎◌, List, [], ◌∷◌, ◌++◌, length, take, Some, sym, ap, ◌∙◌, subst, inl, inr, ⊎_elim, arith}
use mathlib.Core.List.Memᴰ
use native.Mathlib.Decide.{dec_lt}
use lib.Seq.{take-length}
use Rattle.indent.specs.declared.summary.Summary.{Summary}
use Rattle.indent.specs.declared.summary.Summary.TheVariants.{Exact}
use Rattle.indent.specs.Summaries.{passed}
use Rattle.tokens.specs.declared.token.Token.{Token}
use Rattle.lists.specs.Entries.{nth}
use Rattle.lists.specs.Members.{◌∈◌}
use Rattle.lists.proofs.Entries.{nth_more, nth_last, nth_within, take_next, take_member, take_at}
use Rattle.grammar.specs.Grammar.{Grammar, Rule, Place}
use Rattle.charts.specs.Chart.{Item, Awaits, Finished, fresh, advanced, InChart, begin, predict, scan, complete}
use Rattle.charts.specs.Rows.{Rows}
use Rattle.charts.specs.Turns.{Agenda, Turn, Fed, First}
use Rattle.charts.proofs.Stable.{within, stays}
use Rattle.charts.proofs.Closure.{closed_is_chart}

pub turns_start : (g : Grammar) (us : List Token) (d : ℕ) (R N : List Item) → ((x : Item) → x ∈ N → x.to ≡ d) → ((x : Item) → x ∈ N → InChart g us x) → Agenda g us d R N 0
turns_start g us d R N h s = record { here = h; sound = s; predicts = λ x q m. elim m [ ]; completes = λ x y q σ n a m. elim m [ ] }

module _ {g : Grammar} {us : List Token} {d : ℕ} {R N M : List Item} {k : ℕ} {z : Item} (h : nth N k ≡ Some z) (a : Agenda g us d R N k) (u : Turn g us d R N k z M) where
  old : {x : Item} → x ∈ N → x ∈ (N ++ M)
  old m = Memᴰ.append_left M m

  turn_predicts : (x : Item) (q : Place) → (x ∈ take k N) ⊎ (x ≡ z) → Awaits g x q → (r : ℕ) (p : Rule) → nth g.rules r ≡ Some p → p.left ≡ q.symbol → fresh r d ∈ (N ++ M)
  turn_predicts x q (inl m) w r p i l = old (a.predicts x q m w r p i l)
  turn_predicts x q (inr e) w r p i l = u.predicts q (subst (λ (y : Item). Awaits g y q) e w) r p i l

  -- where x stands: in the rows before, among the first k, or at k
  place : (x : Item) → x ∈ (R ++ take (suc k) (N ++ M)) → (x ∈ (R ++ take k N)) ⊎ (x ≡ z)
  place x m = go (Memᴰ.append_cases R m)
    where
      under : (x ∈ take k N) ⊎ (x ≡ z) → (x ∈ (R ++ take k N)) ⊎ (x ≡ z)
      under (inl i) = inl (Memᴰ.append_right R i)
      under (inr e) = inr e

      go : (x ∈ R) ⊎ (x ∈ take (suc k) (N ++ M)) → (x ∈ (R ++ take k N)) ⊎ (x ≡ z)
      go (inl i) = inl (Memᴰ.append_left (take k N) i)
      go (inr i) = under (take_next N M k h i)

  widen : {x : Item} → x ∈ (R ++ take k N) → x ∈ (R ++ take (suc k) N)
  widen {x} m = ⊎_elim (λ i. Memᴰ.append_left (take (suc k) N) i) (λ i. Memᴰ.append_right R (take_member N k i)) (Memᴰ.append_cases R m)

  turn_completes : (x y : Item) (q : Place) (σ : Summary) → (x ∈ (R ++ take k N)) ⊎ (x ≡ z) → Awaits g x q → (y ∈ take k N) ⊎ (y ≡ z) → Finished g y q.symbol → y.from ≡ x.to → passed x.summary q.relation y.summary ≡ Some σ → advanced x d σ ∈ (N ++ M)
  turn_completes x y q σ (inl m) w (inl n) f e l = old (a.completes x y q σ m w n f e l)
  turn_completes x y q σ (inr o) w (inl n) f e l =
      subst (λ (v : Item). Awaits g v q → y.from ≡ v.to → passed v.summary q.relation y.summary ≡ Some σ → advanced v d σ ∈ (N ++ M)) (sym o) (λ w e l. u.awaits y q σ w n f e l) w e l
  turn_completes x y q σ (inl m) w (inr o) f e l =
      subst (λ (v : Item). Finished g v q.symbol → v.from ≡ x.to → passed x.summary q.relation v.summary ≡ Some σ → advanced x d σ ∈ (N ++ M)) (sym o) (λ f e l. u.ends x q σ (widen m) w f e l) f e l
  turn_completes x y q σ (inr c) w (inr o) f e l =
      subst (λ (v : Item). Finished g v q.symbol → v.from ≡ x.to → passed x.summary q.relation v.summary ≡ Some σ → advanced x d σ ∈ (N ++ M)) (sym o)
      (λ f e l. u.ends x q σ (Memᴰ.append_right R (Memᴰ.cast c (take_at N k h))) w f e l) f e l

  -- one turn
  pub agenda_turn : Agenda g us d R (N ++ M) (suc k)
  agenda_turn = record {
    here = λ x m. ⊎_elim (λ i. a.here x i) (λ i. u.here x i) (Memᴰ.append_cases N m);
    sound = λ x m. ⊎_elim (λ i. a.sound x i) (λ i. u.sound x i) (Memᴰ.append_cases N m);
    predicts = λ x q m. turn_predicts x q (take_next N M k h m);
    completes = λ x y q σ m w n. turn_completes x y q σ (place x m) w (take_next N M k h n);
  }

-- where every item has had its turn
whole : (N : List Item) {x : Item} → x ∈ N → x ∈ take (length N) N
whole N {x} m = subst (λ (l : List Item). x ∈ l) (sym (take-length N)) m

-- one token's items, added to the chart so far, make the chart of one token more
module _ {g : Grammar} {ts : List Token} {t : Token} {R N : List Item} (e : Rows g ts R) (f : Fed g ts t R N) where
  kept : {x : Item} → InChart g ts x → x ∈ (R ++ N)
  kept {x} d = Memᴰ.append_left N ((e x).1 d)

  fed_predict : {x : Item} (q : Place) → (x ∈ R) ⊎ (x ∈ N) → Awaits g x q → (r : ℕ) (p : Rule) → nth g.rules r ≡ Some p → p.left ≡ q.symbol → fresh r x.to ∈ (R ++ N)
  fed_predict {x} q (inl m) a r p h k = kept (predict q ((e x).0 m) a r p h k)
  fed_predict {x} q (inr m) a r p h k = Memᴰ.append_right R (Memᴰ.cast (ap (fresh r) (f.agenda.here x m)) (f.agenda.predicts x q (whole N m) a r p h k))

  fed_scan : {x : Item} {σ : Summary} (q : Place) → (x ∈ R) ⊎ (x ∈ N) → Dec (x.to < length ts) → Awaits g x q → (u : Token) → nth (ts ++ t ∷ []) x.to ≡ Some u → u.kind ≡ q.symbol → passed x.summary q.relation (Exact u.column) ≡ Some σ → advanced x (suc x.to) σ ∈ (R ++ N)
  fed_scan {x} q (inl m) (yes b) a u h k l = kept (scan q ((e x).0 m) a u (sym (nth_more ts (t ∷ []) x.to b) ∙ h) k l)
  fed_scan {x} {σ} q (inl m) (no b) a u h k l =
      let c : x.to ≡ length ts = omega (arith, nth_within ts t u x.to h) in
      let w = nth_last ts t x.to c in
      let v : t ≡ u = cc in
      Memᴰ.append_right R (Memᴰ.cast (ap (λ (n : ℕ). advanced x (suc n) σ) c) (f.scans x q σ m c a (ap (λ (z : Token). z.kind) v ∙ k) (ap (λ (z : Token). passed x.summary q.relation (Exact z.column)) v ∙ l)))
  fed_scan {x} q (inr m) b a u h k l = absurd (omega (arith, f.agenda.here x m, nth_within ts t u x.to h))

  widened : (x : Item) → (x ∈ R) ⊎ (x ∈ N) → x ∈ (R ++ take (length N) N)
  widened x (inl i) = Memᴰ.append_left (take (length N) N) i
  widened x (inr i) = Memᴰ.append_right R (whole N i)

  fed_complete : {x y : Item} {σ : Summary} (q : Place) → (x ∈ R) ⊎ (x ∈ N) → Awaits g x q → (y ∈ R) ⊎ (y ∈ N) → Finished g y q.symbol → y.from ≡ x.to → passed x.summary q.relation y.summary ≡ Some σ → x ∈ (R ++ N) → advanced x y.to σ ∈ (R ++ N)
  fed_complete {x} {y} q (inl m) a (inl n) k j l o = kept (complete q ((e x).0 m) a ((e y).0 n) k j l)
  fed_complete {x} {y} q (inr m) a (inl n) k j l o = absurd (omega (arith, f.agenda.here x m, within ((e y).0 n)))
  fed_complete {x} {y} {σ} q m a (inr n) k j l o = Memᴰ.append_right R (Memᴰ.cast (ap (λ (i : ℕ). advanced x i σ) (f.agenda.here y n)) (f.agenda.completes x y q σ (widened x m) a (whole N n) k j l))

  abbrev split : {x : Item} → x ∈ (R ++ N) → (x ∈ R) ⊎ (x ∈ N)
  split m = Memᴰ.append_cases R m

  fed_holds : {x : Item} → InChart g (ts ++ t ∷ []) x → x ∈ (R ++ N)
  fed_holds (begin r p h k) = kept (begin r p h k)
  fed_holds (predict q d a r p h k) = fed_predict q (split (fed_holds d)) a r p h k
  fed_holds (scan {x = x} q d a u h k l) = fed_scan q (split (fed_holds d)) (dec_lt x.to (length ts)) a u h k l
  fed_holds (complete q d a c k j l) = let m = fed_holds d in fed_complete q (split m) a (split (fed_holds c)) k j l m

  pub fed_spec : Rows g (ts ++ t ∷ []) (R ++ N)
  fed_spec x = (
    λ m. ⊎_elim (λ k. stays ((e x).0 k) (t ∷ [])) (λ k. f.agenda.sound x k) (split m),
    λ d. fed_holds d,
  )

-- before the first token every item begins and ends at 0
pub first_spec : (g : Grammar) (N : List Item) → First g N → Rows g [] N
first_spec g N f = closed_is_chart g [] N (record {
  begins = f.begins;
  predicts = λ x q m a r p h k. Memᴰ.cast (ap (fresh r) (f.agenda.here x m)) (f.agenda.predicts x q (whole N m) a r p h k);
  scans = λ x q σ m a t h k l. let z : ◌≡◌ {A = ℕ} 0 1 = cc in absurd (omega arith);
  completes = λ x y q σ m a n k e l. Memᴰ.cast (ap (λ (i : ℕ). advanced x i σ) (f.agenda.here y n)) (f.agenda.completes x y q σ (whole N m) a (whole N n) k e l);
}) f.agenda.sound
