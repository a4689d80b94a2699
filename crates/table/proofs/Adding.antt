-- Items added to a table: none, one, and one growth behind another.
use Rattle.std.proofs.Common.{◌≡◌, ℕ, ◌+◌, ◌<◌, ◌≤◌, true, false, ◌⊎◌, List, [], ◌∷◌, ◌++◌, map, length, set, Some, None, Option, is_some, sym, ap, ◌∙◌, subst, inl, inr, ⊎_elim, append_assoc, append-nil, arith}
use mathlib.Core.List.Memᴰ
use mathlib.Core.List.{map-append}
use Rattle.std.proofs.lemmas.Bool.{cases_lt, false≢true}
use Rattle.lists.specs.Members.{◌∈◌, Distinct}
use Rattle.lists.proofs.Distinct.{distinct_push}
use Rattle.charts.specs.Chart.{Item}
use Rattle.table.specs.declared.row.ItemRow.{ItemRow}
use Rattle.table.specs.Rows.{item_of, item_at}
use Rattle.table.specs.Growth.{since, Adds, Overfull, AddsR, Finds, Is, OnlyR, Range}
use Rattle.table.proofs.Growing.{grown_old, grown_none, grown_push, spilt_push, grown_join, spilt_join}
use Rattle.table.proofs.Since.{since_front, since_has, item_kept}

-- the items that stand after a growth
pub adds_new : {base : ℕ} {P : Item → Type 0} {xs ys : List ItemRow} {n m : ℕ} (a : Adds base P xs ys n m) → since base m ys ≡ since base n xs ++ map item_of a.more
adds_new {base} {P} {xs} {ys} {n} {m} a = since_front base n m xs ys a.more a.low (omega (arith, a.grown.sum, a.grown.high, a.grown.long)) a.grown.front

-- nothing to add
pub adds_none : (base : ℕ) (P : Item → Type 0) (xs : List ItemRow) (n : ℕ) → base ≤ n → n ≤ length xs → ((x : Item) → P x → x ∈ since base n xs) → Adds base P xs xs n n
adds_none base P xs n l h f = record {
  more = [];
  low = l;
  grown = grown_none xs n h;
  only = λ x m. elim m [ ];
  all = λ x p. Memᴰ.append_left [] (f x p);
  once = λ d. subst (λ (l : List Item). Distinct l) (sym (append-nil (since base n xs))) d;
}

-- one row that was not there
pub adds_push : (base n : ℕ) (xs : List ItemRow) (row : ItemRow) → base ≤ n → n < length xs → (item_of row ∈ since base n xs → ⊥) → Adds base (λ x. x ≡ item_of row) xs (set xs n row) n (n + 1)
adds_push base n xs row lo hi out = record {
  more = row ∷ [];
  low = lo;
  grown = grown_push xs n row hi;
  only = λ x m. Memᴰ.eq_of_singleton m;
  all = λ x e. Memᴰ.append_right (since base n xs) (Memᴰ.head e);
  once = λ d. distinct_push (since base n xs) (item_of row) d out;
}

-- one row too many
pub over_push : (base n : ℕ) (xs : List ItemRow) (row : ItemRow) → base ≤ n → n ≤ length xs → length xs ≤ n → (item_of row ∈ since base n xs → ⊥) → Overfull base (λ x. x ≡ item_of row) xs xs n
over_push base n xs row lo hi full out = record {
  more = row ∷ [];
  low = lo;
  spilt = spilt_push xs n row hi full;
  only = λ x m. Memᴰ.eq_of_singleton m;
  once = λ d. distinct_push (since base n xs) (item_of row) d out;
}

-- the same items said in another way
pub over_widen : {base : ℕ} {P S : Item → Type 0} {xs ys : List ItemRow} {n : ℕ} → Overfull base P xs ys n → ((x : Item) → P x → S x) → Overfull base S xs ys n
over_widen o f = record { more = o.more; low = o.low; spilt = o.spilt; only = λ x m. f x (o.only x m); once = o.once }

pub adds_same : {base : ℕ} {P S : Item → Type 0} {xs ys : List ItemRow} {n m : ℕ} → Adds base P xs ys n m → ((x : Item) → P x → S x) → ((x : Item) → S x → P x) → Adds base S xs ys n m
adds_same a f g = record { more = a.more; low = a.low; grown = a.grown; only = λ x m. f x (a.only x m); all = λ x s. a.all x (g x s); once = a.once }

pub adds_r_same : (base : ℕ) (P S : Item → Type 0) (xs ys : List ItemRow) (n : ℕ) (r : Option ℕ) → AddsR base P xs ys n r → ((x : Item) → P x → S x) → ((x : Item) → S x → P x) → AddsR base S xs ys n r
adds_r_same base P S xs ys n (Some m) a f g = adds_same a f g
adds_r_same base P S xs ys n None o f g = over_widen o f

module _ {base : ℕ} {P Q S : Item → Type 0} {es xs : List ItemRow} {n m : ℕ} (a : Adds base P es xs n m) (f : (x : Item) → P x → S x) (g : (x : Item) → Q x → S x) where
  both : (more : List ItemRow) → since base m xs ++ map item_of more ≡ since base n es ++ map item_of (a.more ++ more)
  both more = ap (λ (l : List Item). l ++ map item_of more) (adds_new a) ∙ append_assoc (since base n es) (map item_of a.more) (map item_of more) ∙ ap (λ (l : List Item). since base n es ++ l) (sym (map-append item_of a.more more))

  either : (more : List ItemRow) → ((x : Item) → x ∈ map item_of more → Q x) → (x : Item) → x ∈ map item_of (a.more ++ more) → S x
  either more h x i = ⊎_elim (λ j. f x (a.only x j)) (λ j. g x (h x j)) (Memᴰ.append_cases (map item_of a.more) (subst (λ (l : List Item). x ∈ l) (map-append item_of a.more more) i))

  once_both : (more : List ItemRow) → (Distinct (since base m xs) → Distinct (since base m xs ++ map item_of more)) → Distinct (since base n es) → Distinct (since base n es ++ map item_of (a.more ++ more))
  once_both more h d = subst (λ (l : List Item). Distinct l) (both more) (h (subst (λ (l : List Item). Distinct l) (sym (adds_new a)) (a.once d)))

  -- two growths, one after the other
  pub adds_join : {ys : List ItemRow} {k : ℕ} → Adds base Q xs ys m k → ((x : Item) → S x → P x ⊎ Q x) → Adds base S es ys n k
  adds_join b h = record {
    more = a.more ++ b.more;
    low = a.low;
    grown = grown_join a.grown b.grown;
    only = either b.more b.only;
    all = λ x s. subst (λ (l : List Item). x ∈ l) (both b.more)
        (⊎_elim (λ p. Memᴰ.append_left (map item_of b.more) (subst (λ (l : List Item). x ∈ l) (sym (adds_new a)) (a.all x p))) (λ q. b.all x q) (h x s));
    once = once_both b.more b.once;
  }

  -- a growth, and then one too many
  pub over_join : {ys : List ItemRow} → Overfull base Q xs ys m → Overfull base S es ys n
  over_join b = record {
    more = a.more ++ b.more;
    low = a.low;
    spilt = spilt_join a.grown b.spilt;
    only = either b.more b.only;
    once = once_both b.more b.once;
  }

  pub adds_r_join : (ys : List ItemRow) (r : Option ℕ) → AddsR base Q xs ys m r → ((x : Item) → S x → P x ⊎ Q x) → AddsR base S es ys n r
  adds_r_join ys (Some k) b h = adds_join b h
  adds_r_join ys None b h = over_join b

-- the row that was made, if one was
is_at : (made : Option ItemRow) (row : ItemRow) → made ≡ Some row → (z : Item) → Is made z → z ≡ item_of row
is_at made row e z i = subst (λ (v : Option ItemRow). Is v z) e i

at_is : (made : Option ItemRow) (row : ItemRow) → made ≡ Some row → (z : Item) → z ≡ item_of row → Is made z
at_is made row e z i = subst (λ (v : Option ItemRow). Is v z) (sym e) i

pub adds_nothing : (base : ℕ) (xs : List ItemRow) (n : ℕ) (made : Option ItemRow) → made ≡ None → base ≤ n → n ≤ length xs → Adds base (Is made) xs xs n n
adds_nothing base xs n made e l h = adds_none base (Is made) xs n l h (λ z i. absurd (subst (λ (v : Option ItemRow). Is v z) e i))

-- what a search for the row says, by whether it found one
found_there : (base n : ℕ) (xs : List ItemRow) (row : ItemRow) (r : Option ℕ) → n ≤ length xs → Finds xs base n row r → is_some r ≡ true → item_of row ∈ since base n xs
found_there base n xs row (Some k) h f e = Memᴰ.cast (sym (ap item_of f.2)) (since_has base k n xs f.0 f.1 h)
found_there base n xs row None h f e = absurd (false≢true e)

not_there : (base n : ℕ) (xs : List ItemRow) (row : ItemRow) (r : Option ℕ) → Finds xs base n row r → is_some r ≡ false → item_of row ∈ since base n xs → ⊥
not_there base n xs row (Some k) f e = absurd (false≢true (sym e))
not_there base n xs row None f e = f

module _ (base : ℕ) (xs : List ItemRow) (n : ℕ) (made : Option ItemRow) (row : ItemRow) (e : made ≡ Some row) (r : Option ℕ) (f : Finds xs base n row r) where
  pub adds_there : base ≤ n → n ≤ length xs → is_some r ≡ true → Adds base (Is made) xs xs n n
  adds_there l h q = adds_none base (Is made) xs n l h (λ z j. Memᴰ.cast (is_at made row e z j) (found_there base n xs row r h f q))

  pub adds_made : base ≤ n → n < length xs → is_some r ≡ false → Adds base (Is made) xs (set xs n row) n (n + 1)
  adds_made l h q = adds_same (adds_push base n xs row l h (not_there base n xs row r f q)) (at_is made row e) (is_at made row e)

  pub over_made : base ≤ n → n ≤ length xs → length xs ≤ n → is_some r ≡ false → Overfull base (Is made) xs xs n
  over_made l h full q = over_widen (over_push base n xs row l h full (not_there base n xs row r f q)) (at_is made row e)

-- what was made is the only item with P
pub is_to : (P : Item → Type 0) (made : Option ItemRow) → OnlyR P made → (z : Item) → Is made z → P z
is_to P None h z i = absurd i
is_to P (Some row) h z i = subst P (sym i) h.0

pub to_is : (P : Item → Type 0) (made : Option ItemRow) → OnlyR P made → (z : Item) → P z → Is made z
to_is P None h z p = h z p
to_is P (Some row) h z p = h.1 z p

pub adds_only : {base : ℕ} {P : Item → Type 0} (made : Option ItemRow) {xs ys : List ItemRow} {n m : ℕ} → OnlyR P made → Adds base (Is made) xs ys n m → Adds base P xs ys n m
adds_only {P = P} made h a = adds_same a (is_to P made h) (to_is P made h)

pub over_only : {base : ℕ} {P : Item → Type 0} (made : Option ItemRow) {xs ys : List ItemRow} {n : ℕ} → OnlyR P made → Overfull base (Is made) xs ys n → Overfull base P xs ys n
over_only {P = P} made h o = over_widen o (is_to P made h)

-- a loop over the numbers from lo on
pub adds_range_start : (F : ℕ → Item → Type 0) (base lo : ℕ) (xs : List ItemRow) (n : ℕ) → base ≤ n → n ≤ length xs → Adds base (Range F lo lo) xs xs n n
adds_range_start F base lo xs n l h = adds_none base (Range F lo lo) xs n l h (λ z r. absurd (omega (arith, r.from, r.below)))

module _ (F : ℕ → Item → Type 0) (lo j : ℕ) {base : ℕ} {es xs : List ItemRow} {n m : ℕ} (b : lo ≤ j) (a : Adds base (Range F lo j) es xs n m) where
  wider : (e : ℕ) → j ≤ e → (z : Item) → Range F lo j z → Range F lo e z
  wider e h z r = record { number = r.number; from = r.from; below = omega (arith, r.below); is = r.is }

  this : (e : ℕ) → j < e → (z : Item) → F j z → Range F lo e z
  this e h z p = record { number = j; from = b; below = h; is = p }

  split : (z : Item) → Range F lo (j + 1) z → Range F lo j z ⊎ F j z
  split z r = ⊎_elim
      (λ l. inl (record { number = r.number; from = r.from; below = l; is = r.is }))
      (λ l. let e : r.number ≡ j = omega (arith, r.below) in inr (subst (λ (i : ℕ). F i z) e r.is))
      (cases_lt r.number j)

  pub adds_range_step : {ys : List ItemRow} {k : ℕ} → Adds base (F j) xs ys m k → Adds base (Range F lo (j + 1)) es ys n k
  adds_range_step c = adds_join a (wider (j + 1) (omega arith)) (this (j + 1) (omega arith)) c split

  pub adds_range_skip : ((z : Item) → F j z → ⊥) → Adds base (Range F lo (j + 1)) es xs n m
  adds_range_skip f = adds_same a (wider (j + 1) (omega arith)) (λ z r. ⊎_elim (λ i. i) (λ i. absurd (f z i)) (split z r))

  pub adds_range_over : {ys : List ItemRow} (e : ℕ) → j < e → Overfull base (F j) xs ys m → Overfull base (Range F lo e) es ys n
  adds_range_over e h o = over_join a (wider e (omega arith)) (this e h) o

-- a loop over rows that stood before it: what row j makes by Q
module _ (Q : Item → Item → Type 0) (lo j : ℕ) {base : ℕ} {es xs : List ItemRow} {n m : ℕ} (made : Option ItemRow) (b : lo ≤ j) (h : j < n) (a : Adds base (Range (λ i. Q (item_at es i)) lo j) es xs n m) (o : OnlyR (Q (item_at xs j)) made) where
  same : OnlyR (Q (item_at es j)) made
  same = subst (λ (x : Item). OnlyR (Q x) made) (item_kept n j es xs h (grown_old a.grown)) o

  pub rows_step : {ys : List ItemRow} {k : ℕ} → Adds base (Is made) xs ys m k → Adds base (Range (λ i. Q (item_at es i)) lo (j + 1)) es ys n k
  rows_step c = adds_range_step (λ i. Q (item_at es i)) lo j b a (adds_only made same c)

  pub rows_over : {ys : List ItemRow} (e : ℕ) → j < e → Overfull base (Is made) xs ys m → Overfull base (Range (λ i. Q (item_at es i)) lo e) es ys n
  rows_over e l c = adds_range_over (λ i. Q (item_at es i)) lo j b a e l (over_only made same c)
