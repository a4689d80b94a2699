-- Tables that grow: what a growth leaves, one row more, and one growth behind another.
use Rattle.std.proofs.Common.{◌≡◌, ℕ, ◌+◌, ◌-◌, ◌<◌, ◌≤◌, ◌⊎◌, List, [], ◌∷◌, ◌++◌, length, get_or, take, drop, set, Some, None, Option, sym, refl, ap, ◌∙◌, subst, inl, inr, ⊎_elim, append_assoc, append-nil, arith, length-append}
use mathlib.Core.List.Memᴰ
use Rattle.std.proofs.lemmas.List.{length-take-le, take_more_set, take-take, take_at, drop_at, drop-set-lt, length-set, drop-drop, get_or-take}
use Rattle.std.proofs.lemmas.Bool.{cases_lt}
use Rattle.lists.specs.Members.{◌∈◌, Distinct}
use Rattle.lists.proofs.Distinct.{distinct_append}
use Rattle.table.specs.Growth.{Grown, Spilt, Puts, Overputs, PutsR, PutsIf, OverputsIf, PutsIfR, Range}

module _ {A : Type 0} where
  pub drop_kept : (m k : ℕ) (xs ys : List A) → m ≤ k → drop m ys ≡ drop m xs → drop k ys ≡ drop k xs
  drop_kept m k xs ys h e =
      let d : m + (k - m) ≡ k = omega arith in
      ap (λ (i : ℕ). drop i ys) (sym d) ∙ sym (drop-drop (k - m) m ys) ∙ ap (drop (k - m)) e ∙ drop-drop (k - m) m xs ∙ ap (λ (i : ℕ). drop i xs) d

  pub take_kept : (n m : ℕ) (xs ys : List A) → n ≤ m → take m ys ≡ take m xs → take n ys ≡ take n xs
  take_kept n m xs ys h e = sym (take-take n m ys h) ∙ ap (take n) e ∙ take-take n m xs h

  pub get_d_kept : (n j : ℕ) (d : A) (xs ys : List A) → j < n → take n ys ≡ take n xs → get_or ys j d ≡ get_or xs j d
  get_d_kept n j d xs ys h e = sym (get_or-take n ys j d h) ∙ ap (λ (l : List A). get_or l j d) e ∙ get_or-take n xs j d h

  module _ {xs ys : List A} {n m : ℕ} {more : List A} (g : Grown xs ys n m more) where
    pub grown_low : n ≤ m
    grown_low = omega (arith, g.sum)

    grown_room : n ≤ length xs
    grown_room = omega (arith, g.sum, g.high, g.long)

    -- the old rows are as they were
    pub grown_old : take n ys ≡ take n xs
    grown_old =
        let w = length-take-le n xs grown_room in
        sym (take-take n m ys grown_low) ∙ ap (take n) g.front ∙ take_at (take n xs) more n w

    -- the new rows are the last ones
    pub grown_new : drop n (take m ys) ≡ more
    grown_new = ap (drop n) g.front ∙ drop_at (take n xs) more n (length-take-le n xs grown_room)

  pub grown_none : (xs : List A) (n : ℕ) → n ≤ length xs → Grown xs xs n n []
  grown_none xs n h = record { long = refl; sum = omega arith; high = h; front = sym (append-nil (take n xs)); rest = refl }

  pub grown_push : (xs : List A) (n : ℕ) (x : A) → n < length xs → Grown xs (set xs n x) n (n + 1) (x ∷ [])
  grown_push xs n x h = record { long = length-set xs n x; sum = refl; high = omega (arith, length-set xs n x); front = take_more_set xs n x h; rest = drop-set-lt (n + 1) xs n x (omega arith) }

  pub spilt_push : (xs : List A) (n : ℕ) (x : A) → n ≤ length xs → length xs ≤ n → Spilt xs xs n (x ∷ [])
  spilt_push xs n x h l = record { long = refl; over = omega arith; old = refl }

  pub grown_join : {es xs ys : List A} {n m k : ℕ} {more rest : List A} → Grown es xs n m more → Grown xs ys m k rest → Grown es ys n k (more ++ rest)
  grown_join {es} {xs} {ys} {n} {m} {k} {more} {rest} a b = record {
    long = b.long ∙ a.long;
    sum = omega (arith, a.sum, b.sum, length-append more rest);
    high = b.high;
    front = b.front ∙ ap (λ (l : List A). l ++ rest) a.front ∙ append_assoc (take n es) more rest;
    rest = b.rest ∙ drop_kept m k es xs (grown_low b) a.rest;
  }

  pub spilt_join : {es xs ys : List A} {n m : ℕ} {more rest : List A} → Grown es xs n m more → Spilt xs ys m rest → Spilt es ys n (more ++ rest)
  spilt_join {es} {xs} {ys} {n} {m} {more} {rest} a b = record {
    long = b.long ∙ a.long;
    over = omega (arith, a.sum, b.over, a.long, length-append more rest);
    old = take_kept n m xs ys (grown_low a) b.old ∙ grown_old a;
  }

  -- nothing to put, and one row
  pub puts_none : (P : A → Type 0) (xs : List A) (n : ℕ) → n ≤ length xs → ((x : A) → P x → ⊥) → Puts P xs xs n n
  puts_none P xs n h f = record { more = []; grown = grown_none xs n h; exact = record { distinct = tt; only = λ x m. elim m [ ]; every = λ x p. absurd (f x p) } }

  pub puts_one : (P : A → Type 0) (xs : List A) (n : ℕ) (x : A) → n < length xs → P x → ((y : A) → P y → y ≡ x) → Puts P xs (set xs n x) n (n + 1)
  puts_one P xs n x h p f = record {
    more = x ∷ [];
    grown = grown_push xs n x h;
    exact = record { distinct = ((λ m. elim m [ ]), tt); only = λ y m. rw (Memᴰ.eq_of_singleton m) p; every = λ y q. Memᴰ.head (f y q) };
  }

  pub overputs_one : (P : A → Type 0) (xs : List A) (n : ℕ) (x : A) → n ≤ length xs → length xs ≤ n → P x → Overputs P xs xs n
  overputs_one P xs n x h l p = record { more = x ∷ []; spilt = spilt_push xs n x h l; distinct = ((λ m. elim m [ ]), tt); only = λ y m. rw (Memᴰ.eq_of_singleton m) p }

  -- the same rows said in another way
  pub puts_same : {P S : A → Type 0} {xs ys : List A} {n m : ℕ} → Puts P xs ys n m → ((x : A) → P x → S x) → ((x : A) → S x → P x) → Puts S xs ys n m
  puts_same a f g = record { more = a.more; grown = a.grown; exact = record { distinct = a.exact.distinct; only = λ x m. f x (a.exact.only x m); every = λ x s. a.exact.every x (g x s) } }

  pub overputs_widen : {P S : A → Type 0} {xs ys : List A} {n : ℕ} → Overputs P xs ys n → ((x : A) → P x → S x) → Overputs S xs ys n
  overputs_widen a f = record { more = a.more; spilt = a.spilt; distinct = a.distinct; only = λ x m. f x (a.only x m) }

  -- the rows of two growths, of which no row is one of both
  module _ {P Q S : A → Type 0} {es xs : List A} {n m : ℕ} (a : Puts P es xs n m) (f : (x : A) → P x → S x) (g : (x : A) → Q x → S x) (apart : (x : A) → P x → Q x → ⊥) where
    either : (more : List A) → ((x : A) → x ∈ more → Q x) → (x : A) → x ∈ (a.more ++ more) → S x
    either more o x i = ⊎_elim (λ j. f x (a.exact.only x j)) (λ j. g x (o x j)) (Memᴰ.append_cases a.more i)

    both : (more : List A) → Distinct more → ((x : A) → x ∈ more → Q x) → Distinct (a.more ++ more)
    both more d o = distinct_append a.more a.exact.distinct d (λ x i j. apart x (a.exact.only x i) (o x j))

    pub puts_join : {ys : List A} {k : ℕ} → Puts Q xs ys m k → ((x : A) → S x → P x ⊎ Q x) → Puts S es ys n k
    puts_join b h = record {
      more = a.more ++ b.more;
      grown = grown_join a.grown b.grown;
      exact = record {
        distinct = both b.more b.exact.distinct b.exact.only;
        only = either b.more b.exact.only;
        every = λ x s. ⊎_elim (λ p. Memᴰ.append_left b.more (a.exact.every x p)) (λ q. Memᴰ.append_right a.more (b.exact.every x q)) (h x s);
      };
    }

    pub overputs_join : {ys : List A} → Overputs Q xs ys m → Overputs S es ys n
    overputs_join b = record { more = a.more ++ b.more; spilt = spilt_join a.grown b.spilt; distinct = both b.more b.distinct b.only; only = either b.more b.only }

  -- a loop over the numbers from lo on
  pub range_start : (F : ℕ → A → Type 0) (lo : ℕ) (xs : List A) (n : ℕ) → n ≤ length xs → Puts (Range F lo lo) xs xs n n
  range_start F lo xs n h = puts_none (Range F lo lo) xs n h (λ x r. omega (arith, r.from, r.below))

  module _ (F : ℕ → A → Type 0) (one : (i j : ℕ) (x : A) → F i x → F j x → i ≡ j) (lo j : ℕ) {es xs : List A} {n m : ℕ} (b : lo ≤ j) (a : Puts (Range F lo j) es xs n m) where
    wider : (e : ℕ) → j ≤ e → (x : A) → Range F lo j x → Range F lo e x
    wider e h x r = record { number = r.number; from = r.from; below = omega (arith, r.below); is = r.is }

    this : (e : ℕ) → j < e → (x : A) → F j x → Range F lo e x
    this e h x p = record { number = j; from = b; below = h; is = p }

    apart : (x : A) → Range F lo j x → F j x → ⊥
    apart x r p = omega (arith, r.below, one r.number j x r.is p)

    pub range_step : {ys : List A} {k : ℕ} → Puts (F j) xs ys m k → Puts (Range F lo (j + 1)) es ys n k
    range_step c = puts_join a (wider (j + 1) (omega arith)) (this (j + 1) (omega arith)) apart c
        (λ x r. ⊎_elim
        (λ l. inl (record { number = r.number; from = r.from; below = l; is = r.is }))
        (λ l. let e : r.number ≡ j = omega (arith, r.below) in inr (rw e at r.is))
        (cases_lt r.number j))

    pub range_over : {ys : List A} (e : ℕ) → j < e → Overputs (F j) xs ys m → Overputs (Range F lo e) es ys n
    range_over e h c = overputs_join a (wider e (omega arith)) (this e h) apart c

  -- the same under a hypothesis
  pub puts_if : (H : Type 0) {P S : A → Type 0} (xs ys : List A) (n : ℕ) (r : Option ℕ) → PutsR P xs ys n r → (H → (x : A) → P x → S x) → (H → (x : A) → S x → P x) → PutsIfR H S xs ys n r
  puts_if H xs ys n (Some m) a f g = record { long = a.grown.long; low = grown_low a.grown; high = a.grown.high; old = grown_old a.grown; puts = λ h. puts_same a (f h) (g h) }
  puts_if H xs ys n None a f g = record { long = a.spilt.long; old = a.spilt.old; over = λ h. overputs_widen a (f h) }

  pub puts_if_none : (H : Type 0) (P : A → Type 0) (xs : List A) (n : ℕ) → n ≤ length xs → ((x : A) → P x → ⊥) → PutsIf H P xs xs n n
  puts_if_none H P xs n h f = record { long = refl; low = omega arith; high = h; old = refl; puts = λ _. puts_none P xs n h f }

  module _ {H : Type 0} {P Q S : A → Type 0} {es xs : List A} {n m : ℕ} (a : PutsIf H P es xs n m) (f : (x : A) → P x → S x) (g : (x : A) → Q x → S x) (apart : (x : A) → P x → Q x → ⊥) where
    pub puts_if_join : {ys : List A} {k : ℕ} → PutsIf H Q xs ys m k → ((x : A) → S x → P x ⊎ Q x) → PutsIf H S es ys n k
    puts_if_join {ys} b h = record {
      long = b.long ∙ a.long;
      low = omega (arith, a.low, b.low);
      high = b.high;
      old = take_kept n m xs ys a.low b.old ∙ a.old;
      puts = λ u. puts_join (a.puts u) f g apart (b.puts u) h;
    }

    pub overputs_if_join : {ys : List A} → OverputsIf H Q xs ys m → OverputsIf H S es ys n
    overputs_if_join {ys} b = record { long = b.long ∙ a.long; old = take_kept n m xs ys a.low b.old ∙ a.old; over = λ u. overputs_join (a.puts u) f g apart (b.over u) }

    pub puts_if_r_join : (ys : List A) (r : Option ℕ) → PutsIfR H Q xs ys m r → ((x : A) → S x → P x ⊎ Q x) → PutsIfR H S es ys n r
    puts_if_r_join ys (Some k) b h = puts_if_join b h
    puts_if_r_join ys None b h = overputs_if_join b

  module _ {H : Type 0} (F : ℕ → A → Type 0) (one : (i j : ℕ) (x : A) → F i x → F j x → i ≡ j) (lo j : ℕ) {es xs : List A} {n m : ℕ} (b : lo ≤ j) (a : PutsIf H (Range F lo j) es xs n m) where
    more_of : (e : ℕ) → j ≤ e → (x : A) → Range F lo j x → Range F lo e x
    more_of e h x r = record { number = r.number; from = r.from; below = omega (arith, r.below); is = r.is }

    one_of : (e : ℕ) → j < e → (x : A) → F j x → Range F lo e x
    one_of e h x p = record { number = j; from = b; below = h; is = p }

    not_both : (x : A) → Range F lo j x → F j x → ⊥
    not_both x r p = omega (arith, r.below, one r.number j x r.is p)

    pub range_if_step : {ys : List A} {k : ℕ} → PutsIf H (F j) xs ys m k → PutsIf H (Range F lo (j + 1)) es ys n k
    range_if_step c = puts_if_join a (more_of (j + 1) (omega arith)) (one_of (j + 1) (omega arith)) not_both c
        (λ x r. ⊎_elim
        (λ l. inl (record { number = r.number; from = r.from; below = l; is = r.is }))
        (λ l. let e : r.number ≡ j = omega (arith, r.below) in inr (subst (λ (i : ℕ). F i x) e r.is))
        (cases_lt r.number j))

    pub range_if_over : {ys : List A} (e : ℕ) → j < e → OverputsIf H (F j) xs ys m → OverputsIf H (Range F lo e) es ys n
    range_if_over e h c = overputs_if_join a (more_of e (omega arith)) (one_of e h) not_both c
