-- Tables cut to fewer tokens: the rows of lower ends stand first, and are the chart of the first tokens.
use Rattle.std.proofs.Common.{◌≡◌, ℕ, zero, suc, ◌+◌, ◌-◌, ◌<◌, ◌≤◌, ◌⊎◌, List, [], ◌∷◌, ◌++◌, map, length, get_or, take, drop, replicate, sym, refl, ap, ◌∙◌, subst, inl, inr, arith}
use mathlib.Core.List.Memᴰ
use Rattle.std.proofs.lemmas.List.{take-map, take-take, take-append-drop, take_at, drop_at, get_or-take, length-take-le, length-append, length-replicate}
use Rattle.std.proofs.lemmas.Bool.{cases_lt}
use Rattle.tokens.specs.declared.token.Token.{Token}
use Rattle.lists.specs.Members.{◌∈◌, Distinct}
use Rattle.lists.specs.Exactly.{Exactly}
use Rattle.grammar.specs.Grammar.{Grammar}
use Rattle.charts.specs.Chart.{Item, InChart}
use Rattle.charts.specs.Links.{Child, sub, Link, Linked, scanned, completed, InForest}
use Rattle.charts.proofs.Stable.{within, cut, uncut, link_cut, link_uncut}
use Rattle.table.specs.declared.row.ItemRow.{ItemRow}
use Rattle.table.specs.declared.row.LinkRow.{LinkRow}
use Rattle.table.specs.Rows.{no_item, no_link, item_of, row_at, item_at, child_of, link_of}
use Rattle.table.specs.Order.{Rising, Narrowed}
use Rattle.table.specs.Standing.{ItemTable, Numbered, LinkTable}
use Rattle.table.proofs.Rising.{member_at, get_or_member, rising_take, rising_sorted}
use Rattle.table.proofs.Since.{since_has, index_of, item_kept}

abbrev end : ItemRow → ℕ
end x = x.end

abbrev row : LinkRow → ℕ
row l = l.item

-- the first of a list
pub take_member : {A : Type 0} (n : ℕ) (xs : List A) {x : A} → x ∈ take n xs → x ∈ xs
take_member zero xs m = elim m [ ]
take_member (suc n) [] m = elim m [ ]
take_member (suc n) (y ∷ xs) (Memᴰ.head e) = Memᴰ.head e
take_member (suc n) (y ∷ xs) (Memᴰ.tail m) = Memᴰ.tail (take_member n xs m)

distinct_take : {A : Type 0} (n : ℕ) (xs : List A) → Distinct xs → Distinct (take n xs)
distinct_take zero xs d = tt
distinct_take (suc n) [] d = tt
distinct_take (suc n) (x ∷ xs) d = ((λ m. d.0 (take_member n xs m)), distinct_take n xs d.1)

-- the first n rows, and unused ones behind them
module _ {A : Type 0} (z : A) (n : ℕ) (xs ys : List A) (h : n ≤ length xs) (e : ys ≡ take n xs ++ replicate (length xs - n) z) where
  pub cleared_front : take n ys ≡ take n xs
  cleared_front = ap (take n) e ∙ take_at (take n xs) (replicate (length xs - n) z) n (length-take-le n xs h)

  pub cleared_length : length ys ≡ length xs
  cleared_length = ap length e ∙ length-append (take n xs) (replicate (length xs - n) z) ∙ omega (arith, length-take-le n xs h, length-replicate (length xs - n) z)

  pub cleared_rest : drop n ys ≡ replicate (length ys - n) z
  cleared_rest = ap (drop n) e ∙ drop_at (take n xs) (replicate (length xs - n) z) n (length-take-le n xs h) ∙ ap (λ (k : ℕ). replicate (k - n) z) (sym cleared_length)

-- a table that was unused behind its first n rows is as it was when those behind are cleared again
pub restored : {A : Type 0} (z : A) (n : ℕ) (es ys zs : List A) → length ys ≡ length es → take n ys ≡ take n es → drop n es ≡ replicate (length es - n) z → zs ≡ take n ys ++ replicate (length ys - n) z → zs ≡ es
restored z n es ys zs long old rest e = e ∙ rw (old, long, ← rest) (take-append-drop n es)

-- an item that a link is of ends last
link_ends : {g : Grammar} {ts : List Token} {x y : Item} {c : Child} → Linked g ts x y c → y.to ≤ x.to
link_ends (scanned q d a t h k ok) = omega arith
link_ends (completed q d a d' f e ok) = omega (arith, within d')

child_ends : {g : Grammar} {ts : List Token} {x y z : Item} → Linked g ts x y (sub z) → z.to ≤ x.to
child_ends (completed q d a d' f e ok) = omega arith

module _ {g : Grammar} {ts : List Token} {xs : List ItemRow} {n : ℕ} (h : ItemTable g ts xs n) (k i : ℕ) (p : Narrowed end xs 0 n (k + 1) i i) where
  -- the rows before i end at k or before, and the others do not
  before : (j : ℕ) → j < i → (row_at xs j).end ≤ k
  before j l = omega (arith, p.below (rising_sorted end xs n h.room h.rising) j no_item (omega arith) l)

  among : (j : ℕ) → j < n → (row_at xs j).end ≤ k → j < i
  among j l e = go (cases_lt j i)
    where
      go : (j < i) ⊎ (i ≤ j) → j < i
      go (inl r) = r
      go (inr r) = absurd (omega (arith, p.above (rising_sorted end xs n h.room h.rising) j no_item r l))

  fits : i ≤ length xs
  fits = omega (arith, p.high, h.room)

  item_in : (j : ℕ) → j < n → InChart g ts (item_at xs j)
  item_in j l = h.exact.only (item_at xs j) (since_has 0 j n xs (omega arith) l h.room)

  module _ (ys : List ItemRow) (c : ys ≡ take i xs ++ replicate (length xs - i) no_item) where
    kept : take i ys ≡ take i xs
    kept = cleared_front no_item i xs ys fits c

    pub cut_items : ItemTable g (take k ts) ys i
    cut_items = record {
      room = omega (arith, fits, cleared_length no_item i xs ys fits c);
      exact = subst (λ (l : List ItemRow). Exactly (InChart g (take k ts)) (map item_of l)) (sym kept) (record {
        distinct = subst (λ (l : List Item). Distinct l) (take-map item_of i (take n xs) ∙ ap (map item_of) (take-take i n xs p.high)) (distinct_take i (map item_of (take n xs)) h.exact.distinct);
        only = λ x m.
            let (j, a, b, e) = index_of 0 i xs fits x m in
            cut ts k (subst (λ (v : Item). InChart g ts v) e (item_in j (omega (arith, p.high)))) (omega (arith, before j b, ap (λ (v : Item). v.to) e));
        every = λ x d.
            let (u, v) = uncut ts k d in
            let (j, a, b, e) = index_of 0 n xs h.room x (h.exact.every x u) in
            Memᴰ.cast (sym e) (since_has 0 j i xs (omega arith) (among j b (omega (arith, ap (λ (v : Item). v.to) e))) fits);
      });
      rising = subst (λ (l : List ItemRow). Rising end l) (take-take i n xs p.high ∙ sym kept) (rising_take end i (take n xs) h.rising);
      unused = cleared_rest no_item i xs ys fits c;
    }

    module _ {ks : List LinkRow} {q : ℕ} (b : LinkTable g ts xs n ks q) (j : ℕ) (r : Narrowed row ks 0 q i j j) where
      -- the links before j are of items before i, and the others are not
      link_before : (l : LinkRow) → l ∈ take j ks → l.item < i
      link_before l m =
          let (o, a, e) = member_at no_link m in
          let u : o < j = omega (arith, length-take-le j ks (omega (arith, r.high, b.room))) in
          omega (arith, r.below (rising_sorted row ks q b.room b.rising) o no_link (omega arith) u, ap row (sym (get_or-take j ks o no_link u) ∙ e))

      link_among : (l : LinkRow) → l ∈ take q ks → l.item < i → l ∈ take j ks
      link_among l m a =
          let (o, s, e) = member_at no_link m in
          let u : o < q = omega (arith, length-take-le q ks b.room) in
          let f : get_or ks o no_link ≡ l = sym (get_or-take q ks o no_link u) ∙ e in
          let v : o < j = go o u (ap row f) (cases_lt o j) in
          Memᴰ.cast (sym (get_or-take j ks o no_link v ∙ f)) (get_or_member (take j ks) o no_link (omega (arith, length-take-le j ks (omega (arith, r.high, b.room)))))
        where
          go : (o : ℕ) → o < q → (get_or ks o no_link).item ≡ l.item → (o < j) ⊎ (j ≤ o) → o < j
          go o u f (inl v) = v
          go o u f (inr v) = absurd (omega (arith, r.above (rising_sorted row ks q b.room b.rising) o no_link v u))

      old_link : (l : LinkRow) → l ∈ take j ks → l ∈ take q ks
      old_link l m = subst (λ (v : List LinkRow). l ∈ v) refl (wide m)
        where
          wide : l ∈ take j ks → l ∈ take q ks
          wide m = take_member j (take q ks) (subst (λ (v : List LinkRow). l ∈ v) (sym (take-take j q ks r.high)) m)

      linked : (l : LinkRow) → l ∈ take j ks → InForest g ts (link_of xs l)
      linked l m = b.exact.only (link_of xs l) (Memᴰ.map (link_of xs) (old_link l m))

      ends : (l : LinkRow) → l ∈ take j ks → (item_at xs l.item).to ≤ k
      ends l m = before l.item (link_before l m)

      child_numbered : (x y : Item) (a : ℕ) → a ≤ n → Linked g ts x y (child_of xs a) → x.to ≤ k → a ≤ i
      child_numbered x y zero l d e = omega arith
      child_numbered x y (suc a) l d e = among a l (omega (arith, child_ends d))

      numbered : (l : LinkRow) → l ∈ take j ks → Numbered i l
      numbered l m =
          let o = b.numbered l (old_link l m) in
          let d = linked l m in
          let e = ends l m in
          record { item = link_before l m; earlier = among l.earlier o.earlier (omega (arith, link_ends d)); child = child_numbered (item_at xs l.item) (item_at xs l.earlier) l.child o.child d e }

      child_kept : (a : ℕ) → a ≤ i → child_of ys a ≡ child_of xs a
      child_kept zero l = refl
      child_kept (suc a) l = ap sub (item_kept i a xs ys l kept)

      link_kept : (l : LinkRow) → Numbered i l → link_of ys l ≡ link_of xs l
      link_kept l o =
          let a = item_kept i l.item xs ys o.item kept in
          let e = item_kept i l.earlier xs ys o.earlier kept in
          let f = child_kept l.child o.child in
          λ v. record { item = a v; before = e v; child = f v }

      same : map (link_of ys) (take j ks) ≡ map (link_of xs) (take j ks)
      same = map_same (take j ks) (λ l m. link_kept l (numbered l m))
        where
          map_same : (l : List LinkRow) → ((x : LinkRow) → x ∈ l → link_of ys x ≡ link_of xs x) → map (link_of ys) l ≡ map (link_of xs) l
          map_same [] f = refl
          map_same (x ∷ l) f =
              let e = f x (Memᴰ.head refl) in
              let u = map_same l (λ y m. f y (Memᴰ.tail m)) in
              λ v. e v ∷ u v

      pub cut_links : (ls : List LinkRow) → ls ≡ take j ks ++ replicate (length ks - j) no_link → LinkTable g (take k ts) ys i ls j
      cut_links ls s =
          let room : j ≤ length ks = omega (arith, r.high, b.room) in
          let f = cleared_front no_link j ks ls room s in
          record {
            room = omega (arith, cleared_length no_link j ks ls room s);
            numbered = λ l m. numbered l (subst (λ (v : List LinkRow). l ∈ v) f m);
            exact = subst (λ (v : List LinkRow). Exactly (InForest g (take k ts)) (map (link_of ys) v)) (sym f) (subst (λ (v : List Link). Exactly (InForest g (take k ts)) v) (sym same) (record {
              distinct = subst (λ (v : List Link). Distinct v) (take-map (link_of xs) j (take q ks) ∙ ap (map (link_of xs)) (take-take j q ks r.high)) (distinct_take j (map (link_of xs) (take q ks)) b.exact.distinct);
              only = λ z m. let (l, a, e) = Memᴰ.of_map (link_of xs) (take j ks) m in subst (λ (v : Link). InForest g (take k ts) v) e (link_cut ts k (linked l a) (ends l a));
              every = λ z d.
                  let (u, v) = link_uncut ts k d in
                  let (l, a, e) = Memᴰ.of_map (link_of xs) (take q ks) (b.exact.every z u) in
                  Memᴰ.cast (sym e) (Memᴰ.map (link_of xs) (link_among l a (among l.item (b.numbered l a).item (omega (arith, ap (λ (v : Link). v.item.to) e)))));
            }));
            rising = subst (λ (v : List LinkRow). Rising row v) (take-take j q ks r.high ∙ sym f) (rising_take row j (take q ks) b.rising);
            unused = cleared_rest no_link j ks ls room s;
          }
