-- Rows that stand by a rising key: put together, read by number, and searched by halves.
use Rattle.std.proofs.Common.{◌≡◌, ℕ, zero, suc, ◌+◌, ◌<◌, ◌≤◌, ◌⊎◌, List, [], ◌∷◌, ◌++◌, length, get_or, take, sym, refl, ap, inl, inr, ⊎_elim, arith}
use mathlib.Core.List.Memᴰ
use Rattle.std.proofs.lemmas.List.{get_or-take, length-take-le}
use Rattle.std.proofs.lemmas.Bool.{cases_lt}
use Rattle.std.specs.List.Sorted.{IsNonDecreasingBy}
use Rattle.lists.specs.Members.{◌∈◌}
use Rattle.table.specs.Order.{Rising, Sorted, Narrowed}

-- the number of a member
pub member_at : {A : Type 0} (d : A) {x : A} {l : List A} → x ∈ l → (i : ℕ) × (i < length l) × (get_or l i d ≡ x)
member_at d (Memᴰ.head e) = (0, omega arith, sym e)
member_at d (Memᴰ.tail k) = let (i, h, e) = member_at d k in (suc i, omega arith, e)

pub get_or_member : {A : Type 0} (xs : List A) (i : ℕ) (d : A) → i < length xs → get_or xs i d ∈ xs
get_or_member [] i d h = absurd (omega arith)
get_or_member (x ∷ xs) zero d h = Memᴰ.head refl
get_or_member (x ∷ xs) (suc i) d h = Memᴰ.tail (get_or_member xs i d (omega arith))

module _ {A : Type 0} (key : A → ℕ) where
  -- the keys of one list are at most those of the other
  pub rising_append : (xs ys : List A) → Rising key xs → Rising key ys → ((x y : A) → x ∈ xs → y ∈ ys → key x ≤ key y) → Rising key (xs ++ ys)
  rising_append [] ys d e f = e
  rising_append (x ∷ xs) ys d e f = ((λ y m. ⊎_elim (λ k. d.0 y k) (λ k. f x y (Memᴰ.head refl) k) (Memᴰ.append_cases xs m)), rising_append xs ys d.1 e (λ a b m k. f a b (Memᴰ.tail m) k))

  -- all keys are the same
  pub rising_level : (xs : List A) (e : ℕ) → ((x : A) → x ∈ xs → key x ≡ e) → Rising key xs
  rising_level [] e f = tt
  rising_level (x ∷ xs) e f = ((λ y m. omega (arith, f x (Memᴰ.head refl), f y (Memᴰ.tail m))), rising_level xs e (λ y m. f y (Memᴰ.tail m)))

  -- the first rows of rows that rise
  pub rising_take : (n : ℕ) (xs : List A) → Rising key xs → Rising key (take n xs)
  rising_take zero xs r = tt
  rising_take (suc n) [] r = tt
  rising_take (suc n) (x ∷ xs) r = ((λ y m. r.0 y (front n xs m)), rising_take n xs r.1)
    where
      front : (n : ℕ) (xs : List A) {y : A} → y ∈ take n xs → y ∈ xs
      front zero xs m = elim m [ ]
      front (suc n) [] m = elim m [ ]
      front (suc n) (x ∷ xs) (Memᴰ.head e) = Memᴰ.head e
      front (suc n) (x ∷ xs) (Memᴰ.tail m) = Memᴰ.tail (front n xs m)

  by_number : (xs : List A) → Rising key xs → (j k : ℕ) (d : A) → j ≤ k → k < length xs → key (get_or xs j d) ≤ key (get_or xs k d)
  by_number [] r j k d h l = absurd (omega arith)
  by_number (x ∷ xs) r zero zero d h l = omega arith
  by_number (x ∷ xs) r zero (suc k) d h l = r.0 (get_or xs k d) (get_or_member xs k d (omega arith))
  by_number (x ∷ xs) r (suc j) zero d h l = absurd (omega arith)
  by_number (x ∷ xs) r (suc j) (suc k) d h l = by_number xs r.1 j k d (omega arith) (omega arith)

  pub rising_sorted : (xs : List A) (n : ℕ) → n ≤ length xs → Rising key (take n xs) → Sorted key xs n
  rising_sorted xs n h r j k d l b =
      let s = by_number (take n xs) r j k d l (omega (arith, length-take-le n xs h)) in
      omega (arith, ap key (get_or-take n xs j d (omega arith)), ap key (get_or-take n xs k d b))

  pub sorted_rising : (xs : List A) → IsNonDecreasingBy key xs → Rising key xs
  sorted_rising [] r = tt
  sorted_rising (x ∷ xs) r = (
    (λ y m. let (i, h, e) = member_at x m in omega (arith, r 0 (suc i) x (omega arith) (omega arith), ap key e)),
    sorted_rising xs (λ i j d h l. r (suc i) (suc j) d (omega arith) (omega arith)),
  )

  pub sorted_less : (xs : List A) (m n : ℕ) → m ≤ n → Sorted key xs n → Sorted key xs m
  sorted_less xs m n h s j k d l r = s j k d l (omega arith)

  -- a search by halves: the middle row is before what is wanted, or not
  module _ (xs : List A) (a n e lo hi mid : ℕ) (s : Narrowed key xs a n e lo hi) (l : lo ≤ mid) (h : mid < hi) where
    pub narrow_up : ((d : A) → key (get_or xs mid d) < e) → Narrowed key xs a n e (mid + 1) hi
    narrow_up f = record {
      low = omega (arith, s.low);
      order = omega arith;
      high = s.high;
      below = λ r k d i j. omega (arith, f d, r k mid d (omega arith) (omega (arith, s.high)));
      above = s.above;
    }

    pub narrow_down : ((d : A) → e ≤ key (get_or xs mid d)) → Narrowed key xs a n e lo mid
    narrow_down f = record {
      low = s.low;
      order = l;
      high = omega (arith, s.high);
      below = s.below;
      above = λ r k d i j. omega (arith, f d, r mid k d i j);
    }

  -- the rows from lo up to hi have all those below n with the key e
  abbrev pub Spanned : List A → ℕ → ℕ → ℕ → ℕ → Type 0
  Spanned xs n e lo hi = (k : ℕ) (d : A) → k < n → key (get_or xs k d) ≡ e → (lo ≤ k) × (k < hi)

  pub spanned : (xs : List A) (n e lo hi : ℕ) → Sorted key xs n → Narrowed key xs 0 n e lo lo → Narrowed key xs lo n (e + 1) hi hi → Spanned xs n e lo hi
  spanned xs n e lo hi s a b k d l i = (go (cases_lt k lo), stay (cases_lt k hi))
    where
      go : (k < lo) ⊎ (lo ≤ k) → lo ≤ k
      go (inl j) = absurd (omega (arith, a.below s k d (omega arith) j))
      go (inr j) = j

      stay : (k < hi) ⊎ (hi ≤ k) → k < hi
      stay (inl j) = j
      stay (inr j) = absurd (omega (arith, b.above s k d j l))
