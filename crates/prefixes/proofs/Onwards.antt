-- The sums over the lists by which an open item goes on.
use Rattle.std.proofs.Common.{◌≡◌, ℕ, suc, ◌<◌, List, [], ◌∷◌, ◌++◌, map, sym, refl, ap, ◌∙◌, subst, append_assoc, append-nil, arith}
use mathlib.Core.List.Memᴰ
use mathlib.Core.List.{append_cancel_left}
use Rattle.tokens.specs.declared.token.Token.{Token}
use Rattle.lists.specs.Members.{◌∈◌}
use Rattle.lists.specs.Exactly.{Exactly}
use Rattle.lists.proofs.Distinct.{map_distinct, map_one}
use Rattle.grammar.specs.Grammar.{Grammar}
use Rattle.readings.specs.Reading.{Separate}
use Rattle.charts.specs.Chart.{Item}
use Rattle.charts.specs.Links.{Derives, Child, leaf, sub, Linked, Way, Into, Unique}
use Rattle.charts.proofs.Links.{shape, passes, one_dot, same_made, same_scanned, never_both}
use Rattle.semiring.specs.Laws.{Ops, Lawful}
use Rattle.semiring.specs.Values.{total}
use Rattle.sums.specs.Sums.{Sums}
use Rattle.sums.proofs.Unions.{SomeOf, transfer, union, joined_sum}
use Rattle.prefixes.specs.Tables.{Later}
use Rattle.prefixes.specs.Onward.{Onward, hand, past, join, Shows, Closing, After}

-- an item that x gets to has x's rule and start, and a higher dot
pub later : {g : Grammar} {ts : List Token} {x : Item} {H : Item → List ℕ → Type 0} {w : Item} {us : List ℕ} → Onward g ts x H w us → Later x w
later (hand l h) = let s = shape l in record { rule = sym s.rule; from = sym s.from; dot = omega arith }
later (past l o) = let s = shape l in let t = later o in record { rule = sym s.rule ∙ t.rule; from = sym s.from ∙ t.from; dot = omega arith }
later (join l o d e) = let s = shape l in let t = later o in record { rule = sym s.rule ∙ t.rule; from = sym s.from ∙ t.from; dot = omega arith }

regroup : {xs ys : List ℕ} (us : List ℕ) (r : ℕ) (ws vs : List ℕ) → xs ≡ us ++ (r ∷ ws) → xs ++ vs ≡ ys → us ++ ((r ∷ ws) ++ vs) ≡ ys
regroup us r ws vs n e = sym (append_assoc us (r ∷ ws) vs) ∙ ap (λ (z : List ℕ). z ++ vs) (sym n) ∙ e

regroup_both : {xs xs' : List ℕ} (us : List ℕ) (r : ℕ) (ws vs us' : List ℕ) (r' : ℕ) (ws' vs' : List ℕ) → xs ≡ us ++ (r ∷ ws) → xs' ≡ us' ++ (r' ∷ ws') → xs ++ vs ≡ xs' ++ vs' → us ++ ((r ∷ ws) ++ vs) ≡ us' ++ ((r' ∷ ws') ++ vs')
regroup_both us r ws vs us' r' ws' vs' n n' e = regroup us r ws vs n (sym (regroup us' r' ws' vs' n' (sym e)))

lower : {g : Grammar} {ts : List Token} {w w' y y' : Item} {c c' : Child} → Linked g ts w y c → Linked g ts w' y' c' → w.dot ≡ w'.dot → y.dot ≡ y'.dot
lower l l' d = let s = shape l in let s' = shape l' in omega arith

too_low : {g : Grammar} {ts : List Token} {x : Item} {H : Item → List ℕ → Type 0} {w w' y : Item} {c c' : Child} {us : List ℕ} → Linked g ts w x c → Linked g ts w' y c' → Onward g ts x H y us → w.dot ≡ w'.dot → ⊥
too_low l l' o d = let s = shape l in let s' = shape l' in let t = later o in omega arith

module _ {g : Grammar} {ts : List Token} (unique : Unique g ts) where
  join_one : {w w' y y' z z' : Item} {us us' ws ws' xs xs' : List ℕ} (vs vs' : List ℕ) → Linked g ts w y (sub z) → Linked g ts w' y' (sub z') → Derives g ts z ws → Derives g ts z' ws' → xs ≡ us ++ (z.rule ∷ ws) → xs' ≡ us' ++ (z'.rule ∷ ws') → us ++ ((z.rule ∷ ws) ++ vs) ≡ us' ++ ((z'.rule ∷ ws') ++ vs') → (y ≡ y') × (us ≡ us') → (w ≡ w') × (xs ≡ xs')
  join_one {z} {z'} {us} {us'} {ws} {ws'} {xs} {xs'} vs vs' l l' k k' n n' h pq =
      let t = append_cancel_left us ((z.rule ∷ ws) ++ vs) ((z'.rule ∷ ws') ++ vs') (h ∙ ap (λ (u : List ℕ). u ++ ((z'.rule ∷ ws') ++ vs')) (sym pq.1)) in
      let r : z.rule ≡ z'.rule = cc in
      let c : ws ++ vs ≡ ws' ++ vs' = cc in
      let a = passes l in
      let b = passes l' in
      let i = unique z z' ws ws' vs vs' k k' r (one_dot a.finished b.finished r) (a.from ∙ ap (λ (y : Item). y.to) pq.0 ∙ sym b.from) c in
      (same_made l l' pq.0 i.0, cc (n, n', pq.1, r, i.1))

hand_one : {g : Grammar} {ts : List Token} {x w w' z z' : Item} {us us' : List ℕ} → Linked g ts w x (sub z) → Linked g ts w' x (sub z') → (z ≡ z') × (us ≡ us') → (w ≡ w') × (us ≡ us')
hand_one l l' pq = (same_made l l' refl pq.0, pq.1)

past_one : {g : Grammar} {ts : List Token} {w w' y y' : Item} {us us' : List ℕ} → Linked g ts w y leaf → Linked g ts w' y' leaf → (y ≡ y') × (us ≡ us') → (w ≡ w') × (us ≡ us')
past_one l l' pq = (same_scanned l l' pq.0, pq.1)

module _ {g : Grammar} {ts : List Token} (separate : Separate g ts) (unique : Unique g ts) {x : Item} {H : Item → List ℕ → Type 0} (shows : Shows H) where
  -- a list shows the item with a given dot that x gets to
  pub onward_one : {w w' : Item} {us us' : List ℕ} → Onward g ts x H w us → Onward g ts x H w' us' → w.dot ≡ w'.dot → (vs vs' : List ℕ) → us ++ vs ≡ us' ++ vs' → (w ≡ w') × (us ≡ us')
  onward_one {us} {us'} (hand {z} l h) (hand {z = z'} l' h') d vs vs' e = hand_one l l' (shows z z' us us' vs vs' h h' e)
  onward_one (hand l h) (past l' o') d vs vs' e = absurd (too_low l l' o' d)
  onward_one (hand l h) (join l' o' k' n') d vs vs' e = absurd (too_low l l' o' d)
  onward_one (past l o) (hand l' h') d vs vs' e = absurd (too_low l' l o (sym d))
  onward_one (join l o k n) (hand l' h') d vs vs' e = absurd (too_low l' l o (sym d))
  onward_one (past l o) (past l' o') d vs vs' e = past_one l l' (onward_one o o' (lower l l' d) vs vs' e)
  onward_one (past l o) (join {z} {us} {vs = ws} l' o' k' n') d vs vs' e = absurd (never_both separate l l' (onward_one o o' (lower l l' d) vs ((z.rule ∷ ws) ++ vs') (sym (regroup us z.rule ws vs' n' (sym e)))).0)
  onward_one (join {z} {us} {vs = ws} l o k n) (past l' o') d vs vs' e = absurd (never_both separate l' l (sym (onward_one o o' (lower l l' d) ((z.rule ∷ ws) ++ vs) vs' (regroup us z.rule ws vs n e)).0))
  onward_one (join {z} {us} {vs = ws} l o k n) (join {z = z'} {us = us'} {vs = ws'} l' o' k' n') d vs vs' e = join_one unique vs vs' l l' k k' n n' (regroup_both us z.rule ws vs us' z'.rule ws' vs' n n' e) (onward_one o o' (lower l l' d) ((z.rule ∷ ws) ++ vs) ((z'.rule ∷ ws') ++ vs') (regroup_both us z.rule ws vs us' z'.rule ws' vs' n n' e))

  -- so do the finished items that x gets to
  pub closing_shows : Shows (Closing g (Onward g ts x H))
  closing_shows z z' us us' vs vs' h h' e =
      let a = later h.list in
      let b = later h'.list in
      onward_one h.list h'.list (one_dot h.finished h'.finished (cc (a.rule, b.rule))) vs vs' e

handed_only : {g : Grammar} {ts : List Token} {x : Item} {H : Item → List ℕ → Type 0} {w : Item} {us : List ℕ} → Onward g ts x H w us → w.dot ≡ suc x.dot → (z : Item) × Linked g ts w x (sub z) × H z us
handed_only (hand {z} l h) d = (z, l, h)
handed_only (past l o) d = let s = shape l in let t = later o in absurd (omega arith)
handed_only (join l o k n) d = let s = shape l in let t = later o in absurd (omega arith)

further_only : {g : Grammar} {ts : List Token} {x : Item} {H : Item → List ℕ → Type 0} {w : Item} {us : List ℕ} → Onward g ts x H w us → suc x.dot < w.dot → (v : Way) × Into g ts w v × After g ts x H v.before v.child us
further_only (hand l h) d = let s = shape l in absurd (omega arith)
further_only (past {y} l o) d = (record { before = y; child = leaf }, l, o)
further_only (join {y} {z} {us} {vs} l o k n) d = (record { before = y; child = sub z }, l, (us, vs, o, k, n))

further_back : {g : Grammar} {ts : List Token} {x : Item} {H : Item → List ℕ → Type 0} {w : Item} {us : List ℕ} (y : Item) (c : Child) → Linked g ts w y c → After g ts x H y c us → Onward g ts x H w us
further_back y leaf l a = past l a
further_back y (sub z) l a = join l a.2 a.3 a.4

module _ {g : Grammar} {ts : List Token} (unique : Unique g ts) where
  child_one : {w w' y y' z z' : Item} (us us' ws ws' : List ℕ) → Linked g ts w y (sub z) → Linked g ts w' y' (sub z') → Derives g ts z ws → Derives g ts z' ws' → us ++ (z.rule ∷ ws) ≡ us' ++ (z'.rule ∷ ws') → (y ≡ y') × (us ≡ us') → z ≡ z'
  child_one {z} {z'} us us' ws ws' l l' k k' h pq =
      let t = append_cancel_left us (z.rule ∷ ws) (z'.rule ∷ ws') (h ∙ ap (λ (u : List ℕ). u ++ (z'.rule ∷ ws')) (sym pq.1)) in
      let r : z.rule ≡ z'.rule = cc in
      let c : ws ≡ ws' = cc in
      let a = passes l in
      let b = passes l' in
      (unique z z' ws ws' [] [] k k' r (one_dot a.finished b.finished r) (a.from ∙ ap (λ (y : Item). y.to) pq.0 ∙ sym b.from) (ap (λ (u : List ℕ). u ++ []) c)).0

module _ {g : Grammar} {ts : List Token} (separate : Separate g ts) (unique : Unique g ts) (x : Item) {H : Item → List ℕ → Type 0} (shows : Shows H) where
  after_one : {w : Item} (y y' : Item) (c c' : Child) (xs : List ℕ) → Linked g ts w y c → Linked g ts w y' c' → After g ts x H y c xs → After g ts x H y' c' xs → (y ≡ y') × (c ≡ c')
  after_one y y' leaf leaf xs l l' a a' = ((onward_one separate unique shows a a' (lower l l' refl) [] [] refl).0, refl)
  after_one y y' leaf (sub z) xs l l' a a' = absurd (never_both separate l l' (onward_one separate unique shows a a'.2 (lower l l' refl) [] (z.rule ∷ a'.1) (append-nil xs ∙ a'.4)).0)
  after_one y y' (sub z) leaf xs l l' a a' = absurd (never_both separate l' l (onward_one separate unique shows a' a.2 (lower l' l refl) [] (z.rule ∷ a.1) (append-nil xs ∙ a.4)).0)
  after_one y y' (sub z) (sub z') xs l l' a a' =
      let h : a.0 ++ (z.rule ∷ a.1) ≡ a'.0 ++ (z'.rule ∷ a'.1) = sym a.4 ∙ a'.4 in
      let pq = onward_one separate unique shows a.2 a'.2 (lower l l' refl) (z.rule ∷ a.1) (z'.rule ∷ a'.1) h in
      (pq.0, ap sub (child_one unique a.0 a'.0 a.1 a'.1 l l' a.3 a'.3 h pq))

  module _ {V : Type 0} (o : Ops V) (cost : ℕ → ℕ) (laws : Lawful o) where
    -- at the place that x waits for
    pub handed_rows : {A : Type 0} {w : Item} (L : List A) (z : A → Item) (f : A → V) → w.dot ≡ suc x.dot → Exactly (λ y. Linked g ts w x (sub y)) (map z L) → ((a : A) → a ∈ L → Sums o cost (H (z a)) (f a)) → Sums o cost (Onward g ts x H w) (total o f L)
    handed_rows {A} {w} L z f d l s = transfer o cost into back (union o cost laws L (λ a. H (z a)) f (map_distinct z L l.distinct) s one)
      where
        into : (us : List ℕ) → SomeOf L (λ a. H (z a)) us → Onward g ts x H w us
        into us t = hand (l.only (z t.0) (Memᴰ.map z t.1)) t.2

        back : (us : List ℕ) → Onward g ts x H w us → SomeOf L (λ a. H (z a)) us
        back us t =
            let (y, k, h) = handed_only t d in
            let (a, m, e) = Memᴰ.of_map z L (l.every y k) in
            (a, m, subst (λ (y : Item). H y us) (sym e) h)

        one : (a b : A) (us : List ℕ) → a ∈ L → b ∈ L → H (z a) us → H (z b) us → a ≡ b
        one a b us m n h k = map_one z L l.distinct m n (shows (z a) (z b) us us [] [] h k refl).0

    -- at a further place
    pub further_rows : {A : Type 0} {w : Item} (L : List A) (way : A → Way) (f : A → V) → suc x.dot < w.dot → Exactly (Into g ts w) (map way L) → ((a : A) → a ∈ L → Sums o cost (After g ts x H (way a).before (way a).child) (f a)) → Sums o cost (Onward g ts x H w) (total o f L)
    further_rows {A} {w} L way f d l s = transfer o cost into back (union o cost laws L (λ a. After g ts x H (way a).before (way a).child) f (map_distinct way L l.distinct) s one)
      where
        link : (a : A) → a ∈ L → Into g ts w (way a)
        link a m = l.only (way a) (Memᴰ.map way m)

        into : (us : List ℕ) → SomeOf L (λ a. After g ts x H (way a).before (way a).child) us → Onward g ts x H w us
        into us t = further_back (way t.0).before (way t.0).child (link t.0 t.1) t.2

        back : (us : List ℕ) → Onward g ts x H w us → SomeOf L (λ a. After g ts x H (way a).before (way a).child) us
        back us t =
            let (v, k, h) = further_only t d in
            let (a, m, e) = Memᴰ.of_map way L (l.every v k) in
            (a, m, subst (λ (v : Way). After g ts x H v.before v.child us) (sym e) h)

        one : (a b : A) (us : List ℕ) → a ∈ L → b ∈ L → After g ts x H (way a).before (way a).child us → After g ts x H (way b).before (way b).child us → a ≡ b
        one a b us m n h k = let (p, q) = after_one (way a).before (way b).before (way a).child (way b).child us (link a m) (link b n) h k in map_one way L l.distinct m n (λ i. record { before = p i; child = q i })

    pub after_join : {y z : Item} {v w : V} → Sums o cost (Onward g ts x H y) v → Sums o cost (Derives g ts z) w → Sums o cost (After g ts x H y (sub z)) (o.product v (o.product (o.weight z.rule (cost z.rule)) w))
    after_join {y} {z} s t = joined_sum o cost laws z.rule s t (λ us us' vs vs' a b e. (onward_one separate unique shows a b refl (z.rule ∷ vs) (z.rule ∷ vs') e).1)
