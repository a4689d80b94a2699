-- The sum over the lists of an item, from the sums over those of its links' items, and over all trees, from the sums
-- over those of the finished items.
use Rattle.std.proofs.Common.{◌≡◌, ℕ, ◌<◌, List, [], ◌∷◌, ◌++◌, map, sym, refl, ap, ◌∙◌, subst, map-id, arith}
use mathlib.Core.List.Memᴰ
use Rattle.indent.specs.declared.summary.Summary.{Summary}
use Rattle.tokens.specs.declared.token.Token.{Token}
use Rattle.lists.specs.Members.{◌∈◌}
use Rattle.lists.specs.Exactly.{Exactly}
use Rattle.lists.proofs.Distinct.{map_distinct, map_one}
use Rattle.grammar.specs.Grammar.{Grammar, Place}
use Rattle.readings.specs.Reading.{Trees, start, pass, Whole, Separate, Headed}
use Rattle.charts.specs.Chart.{Item, InChart, Root}
use Rattle.charts.specs.Links.{Derives, Child, leaf, sub, Linked, Gives, past, join, Way, Into, Written, Unique}
use Rattle.charts.proofs.Sound.{sound}
use Rattle.charts.proofs.Complete.{origin}
use Rattle.charts.proofs.Decomposing.{decomposes, composes}
use Rattle.charts.proofs.Readable.{same_way}
use Rattle.charts.proofs.Roots.{root_of, whole_of, one_root}
use Rattle.semiring.specs.Laws.{Ops, Lawful}
use Rattle.semiring.specs.Values.{total}
use Rattle.sums.specs.Sums.{Sums, joined}
use Rattle.sums.proofs.Unions.{SomeOf, Joined, transfer, union, joined_sum, sums_in, nil_sum}

only_past : {g : Grammar} {ts : List Token} {y : Item} {xs : List ℕ} → Gives g ts y leaf xs → Derives g ts y xs
only_past (past d) = d

only_join : {g : Grammar} {ts : List Token} {y z : Item} {xs : List ℕ} → Gives g ts y (sub z) xs → Joined (Derives g ts y) z.rule (Derives g ts z) xs
only_join (join {us} {vs} d b e) = (us, vs, d, b, e)

module _ {g : Grammar} {ts : List Token} (unique : Unique g ts) {V : Type 0} (o : Ops V) (cost : ℕ → ℕ) (laws : Lawful o) where
  pub gives_past : {y : Item} {v : V} → Sums o cost (Derives g ts y) v → Sums o cost (Gives g ts y leaf) v
  gives_past s = transfer o cost (λ xs d. past d) (λ xs d. only_past d) s

  pub gives_join : {y z : Item} {v w : V} → Sums o cost (Derives g ts y) v → Sums o cost (Derives g ts z) w → Sums o cost (Gives g ts y (sub z)) (o.product v (o.product (o.weight z.rule (cost z.rule)) w))
  gives_join {y} {z} s t = transfer o cost (λ xs j. join j.2 j.3 j.4) (λ xs j. only_join j) (joined_sum o cost laws z.rule s t (λ us us' vs vs' d d' e. (unique y y us us' (z.rule ∷ vs) (z.rule ∷ vs') d d' refl refl refl e).1))

  -- an item's sum is the sum over the rows of its links
  pub link_rows : {A : Type 0} {x : Item} (L : List A) (way : A → Way) (f : A → V) → InChart g ts x → 0 < x.dot → Exactly (Into g ts x) (map way L) → ((a : A) → a ∈ L → Sums o cost (Gives g ts (way a).before (way a).child) (f a)) → Sums o cost (Derives g ts x) (total o f L)
  link_rows {A} {x} L way f c n l s = transfer o cost into back (union o cost laws L (λ a xs. Gives g ts (way a).before (way a).child xs) f (map_distinct way L l.distinct) s one)
    where
      link : (a : A) → a ∈ L → Into g ts x (way a)
      link a m = l.only (way a) (Memᴰ.map way m)

      into : (xs : List ℕ) → SomeOf L (λ a xs. Gives g ts (way a).before (way a).child xs) xs → Derives g ts x xs
      into xs t = composes (record { way = way t.0; link = link t.0 t.1; gives = t.2 })

      back : (xs : List ℕ) → Derives g ts x xs → SomeOf L (λ a xs. Gives g ts (way a).before (way a).child xs) xs
      back xs d =
          let t = decomposes (origin c) n d in
          let (a, m, e) = Memᴰ.of_map way L (l.every t.way t.link) in
          (a, m, subst (λ (w : Way). Gives g ts w.before w.child xs) (sym e) t.gives)

      one : (a b : A) (xs : List ℕ) → a ∈ L → b ∈ L → Gives g ts (way a).before (way a).child xs → Gives g ts (way b).before (way b).child xs → a ≡ b
      one a b xs m n h k = let (p, q) = same_way unique (link a m) (link b n) h k in map_one way L l.distinct m n (λ i. record { before = p i; child = q i })

  pub item_sum : {x : Item} (L : List Way) (f : Way → V) → InChart g ts x → 0 < x.dot → Exactly (Into g ts x) L → ((w : Way) → Into g ts x w → Sums o cost (Gives g ts w.before w.child) (f w)) → Sums o cost (Derives g ts x) (total o f L)
  item_sum {x} L f c n l s = link_rows L (λ w. w) f c n (subst (Exactly (Into g ts x)) (sym (map-id L)) l) (λ w m. s w (l.only w m))

  pub shared : {x : Item} (v : Item → V) → ((w : Way) → Into g ts x w → Sums o cost (Derives g ts w.before) (v w.before)) → ((y z : Item) → Linked g ts x y (sub z) → Sums o cost (Derives g ts z) (v z)) → (y : Item) (c : Child) → Linked g ts x y c → Sums o cost (Gives g ts y c) (joined o cost v (v y) c)
  shared v s t y leaf l = gives_past (s (record { before = y; child = leaf }) l)
  shared v s t y (sub z) l = gives_join (s (record { before = y; child = sub z }) l) (t y z l)

  -- the same from a value for each item
  pub item_value : {x : Item} (L : List Way) (v : Item → V) → InChart g ts x → 0 < x.dot → Exactly (Into g ts x) L → ((w : Way) → Into g ts x w → Sums o cost (Derives g ts w.before) (v w.before)) → ((y z : Item) → Linked g ts x y (sub z) → Sums o cost (Derives g ts z) (v z)) → Sums o cost (Derives g ts x) (total o (λ (w : Way). joined o cost v (v w.before) w.child) L)
  item_value L v c n l s t = item_sum L (λ (w : Way). joined o cost v (v w.before) w.child) c n l (λ w k. shared v s t w.before w.child k)

pub empty : {g : Grammar} {ts : List Token} {ps : List Place} {k s e : ℕ} {σ : Summary} {xs : List ℕ} → Trees g ts ps k s e σ xs → k ≡ 0 → xs ≡ []
empty start n = refl
empty (pass q h T t ok) n = absurd (omega arith)

module _ {V : Type 0} (o : Ops V) (cost : ℕ → ℕ) (laws : Lawful o) where
  -- an item whose dot is at the start has the empty list alone
  pub first_sum : {g : Grammar} {ts : List Token} {x : Item} → InChart g ts x → x.dot ≡ 0 → Sums o cost (Derives g ts x) o.unit
  first_sum {g} {ts} {x} c n = nil_sum o cost laws (Derives g ts x) (let (xs, d) = sound c in subst (Derives g ts x) (empty d.trees n) d) (λ xs d. empty d.trees n)

module _ {g : Grammar} {ts : List Token} (unique : Unique g ts) {V : Type 0} (o : Ops V) (cost : ℕ → ℕ) (laws : Lawful o) where
  pub rooted_sum : {z : Item} {v : V} → Sums o cost (Derives g ts z) v → Sums o cost (Written g ts z) (o.product (o.weight z.rule (cost z.rule)) v)
  rooted_sum {z} {v} s = subst (λ (t : V). Sums o cost (Written g ts z) t) (laws.unit_product (o.product (o.weight z.rule (cost z.rule)) v) (laws.product_in (o.weight z.rule (cost z.rule)) v (laws.weight_in z.rule (cost z.rule)) (sums_in o cost laws s))) (transfer o cost into back (joined_sum o cost laws z.rule (nil_sum o cost laws (λ us. us ≡ []) refl (λ us e. e)) s (λ us us' vs vs' p q e. p ∙ sym q)))
    where
      into : (xs : List ℕ) → Joined (λ us. us ≡ []) z.rule (Derives g ts z) xs → Written g ts z xs
      into xs j = let (us, vs, p, d, e) = j in (vs, d, e ∙ ap (λ (ws : List ℕ). ws ++ (z.rule ∷ vs)) p)

      back : (xs : List ℕ) → Written g ts z xs → Joined (λ us. us ≡ []) z.rule (Derives g ts z) xs
      back xs j = let (vs, d, e) = j in ([], vs, refl, d, e)

  -- the sum over all trees of the start symbol, from the rows of the finished items
  pub root_rows : {A : Type 0} (e : ℕ) (F : List A) (z : A → Item) (v : A → V) → Separate g ts → Headed g → Exactly (Root g ts e) (map z F) → ((a : A) → a ∈ F → Sums o cost (Derives g ts (z a)) (v a)) → Sums o cost (Whole g ts e) (total o (λ (a : A). o.product (o.weight (z a).rule (cost (z a).rule)) (v a)) F)
  root_rows {A} e F z v separate headed l s = transfer o cost into back (union o cost laws F (λ a. Written g ts (z a)) (λ (a : A). o.product (o.weight (z a).rule (cost (z a).rule)) (v a)) (map_distinct z F l.distinct) (λ a m. rooted_sum (s a m)) (λ a b xs m n q r. map_one z F l.distinct m n (one_root unique (root a m) (root b n) q r)))
    where
      root : (a : A) → a ∈ F → Root g ts e (z a)
      root a m = l.only (z a) (Memᴰ.map z m)

      into : (xs : List ℕ) → SomeOf F (λ a. Written g ts (z a)) xs → Whole g ts e xs
      into xs t = whole_of (root t.0 t.1) t.2

      back : (xs : List ℕ) → Whole g ts e xs → SomeOf F (λ a. Written g ts (z a)) xs
      back xs w =
          let (y, r, q) = root_of separate headed w in
          let (a, m, k) = Memᴰ.of_map z F (l.every y r) in
          (a, m, subst (λ (y : Item). Written g ts y xs) (sym k) q)
