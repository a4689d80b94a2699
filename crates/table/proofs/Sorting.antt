-- Sorting keeps the elements of a list, and puts the links in rising order of their items' rows.
use Rattle.std.proofs.Common.{◌≡◌, ℕ, ◌+◌, ◌-◌, ◌≤◌, false, ◌⊎◌, List, [], ◌∷◌, length, get_or, take, drop, Ordering, Less, Equal, Greater, sym, refl, ap, ◌∙◌, subst, inl, inr, ⊎_elim, arith}
use mathlib.Core.List.Memᴰ
use borrow.Rule.Slice.PartMut.{put_mid}
use Rattle.std.specs.List.Sorted.{IsPermutation, IsSortedWithin}
use Rattle.std.specs.Ordering.{is_lt, ordering_then, nat_cmp}
use Rattle.std.specs.Cmp.{IsTotalOrder, nat_cmp_is}
use Rattle.std.proofs.lemmas.Cmp.{then_total, on_total, nat_cmp_total}
use Rattle.std.specs.List.{AllByRecursion as All}
use Rattle.std.proofs.lemmas.List.Sorted.{IsPermutation-sym, length_permutation, IsNonDecreasingBy-from_all_adjacent}
use Rattle.std.proofs.ByRecursion.{all_shuffled}
use Rattle.std.proofs.lemmas.Slice.{take-put_mid, drop-put_mid}
use Rattle.std.proofs.lemmas.List.{drop-take, length-drop, length-take-le}
use Rattle.std.proofs.lemmas.Bool.{cases_lt}
use Rattle.lists.specs.Members.{◌∈◌, Distinct}
use Rattle.lists.specs.Exactly.{Exactly}
use Rattle.lists.proofs.Without.{without, without_length, without_back, without_keeps, without_distinct, without_gone, no_longer}
use Rattle.table.specs.declared.row.LinkRow.{LinkRow}
use Rattle.table.specs.Order.{Rising, Sorts}
use Rattle.table.proofs.Rising.{sorted_rising}

-- two lists of one length with the same members: if one has nothing twice, neither has the other
pub distinct_same : {A : Type 0} (R S : List A) → Distinct R → ((x : A) → x ∈ R → x ∈ S) → ((x : A) → x ∈ S → x ∈ R) → length S ≡ length R → Distinct S
distinct_same R [] d f g l = tt
distinct_same {A} R (y ∷ S) d f g l = (new, distinct_same (without m) S (without_distinct m d) back on (omega (arith, without_length m)))
  where
    m : y ∈ R
    m = g y (Memᴰ.head refl)

    other : (x : A) → y ∈ S → (x ≡ y) ⊎ (x ∈ S) → x ∈ S
    other x i (inl e) = Memᴰ.cast e i
    other x i (inr k) = k

    new : y ∈ S → ⊥
    new i = omega (arith, no_longer R S d (λ x k. other x i (Memᴰ.cases_cons (f x k))))

    back : (x : A) → x ∈ without m → x ∈ S
    back x k = go (Memᴰ.cases_cons (f x (without_back m k)))
      where
        go : (x ≡ y) ⊎ (x ∈ S) → x ∈ S
        go (inl e) = absurd (without_gone m d (Memᴰ.cast (sym e) k))
        go (inr i) = i

    on : (x : A) → x ∈ S → x ∈ without m
    on x k = go (without_keeps m (g x (Memᴰ.tail k)))
      where
        go : (x ≡ y) ⊎ (x ∈ without m) → x ∈ without m
        go (inl e) = absurd (new (Memᴰ.cast (sym e) k))
        go (inr i) = i

all_member : {A : Type 0} (P : A → Type 0) (l : List A) → All P l → (x : A) → x ∈ l → P x
all_member P [] a x m = elim m [ ]
all_member P (y ∷ l) a x (Memᴰ.head e) = subst P (sym e) a.0
all_member P (y ∷ l) a x (Memᴰ.tail m) = all_member P l a.1 x m

member_all : {A : Type 0} (P : A → Type 0) (l : List A) → ((x : A) → x ∈ l → P x) → All P l
member_all P [] f = tt
member_all P (y ∷ l) f = (f y (Memᴰ.head refl), member_all P l (λ x m. f x (Memᴰ.tail m)))

pub shuffled_member : {A : Type 0} (xs ys : List A) → IsPermutation xs ys → (x : A) → x ∈ ys → x ∈ xs
shuffled_member xs ys s x m = all_member (λ y. y ∈ xs) ys (all_shuffled (λ y. y ∈ xs) xs ys s (member_all (λ y. y ∈ xs) xs (λ y k. k))) x m

-- the same set in another order
pub shuffled_exactly : {A : Type 0} (P : A → Type 0) (xs ys : List A) → IsPermutation xs ys → Exactly P xs → Exactly P ys
shuffled_exactly P xs ys s e =
    let back = shuffled_member xs ys s in
    let on = shuffled_member ys xs (IsPermutation-sym xs ys s) in
    record {
      distinct = distinct_same xs ys e.distinct on back (length_permutation xs ys s);
      only = λ x m. e.only x (back x m);
      every = λ x p. on x (e.every x p);
    }

-- the order that is derived for links compares their items' rows first
abbrev pub by_parts : LinkRow → LinkRow → Ordering
by_parts x y = ordering_then (nat_cmp x.item y.item) (ordering_then (nat_cmp x.earlier y.earlier) (nat_cmp x.child y.child))

-- that order is total
pub by_parts_total : IsTotalOrder by_parts
by_parts_total = then_total (on_total (λ l. l.item) nat_cmp_total) (then_total (on_total (λ l. l.earlier) nat_cmp_total) (on_total (λ l. l.child) nat_cmp_total))

first_not_less : (a b : Ordering) → is_lt (ordering_then a b) ≡ false → a ≡ Less → ⊥
first_not_less Less b h e = let z : ◌≡◌ {A = ℕ} 0 1 = cc in omega arith
first_not_less Equal b h e = let z : ◌≡◌ {A = ℕ} 0 1 = cc in omega arith
first_not_less Greater b h e = let z : ◌≡◌ {A = ℕ} 0 1 = cc in omega arith

in_order : (x y : LinkRow) → is_lt (by_parts y x) ≡ false → x.item ≤ y.item
in_order x y h = ⊎_elim
    (λ l. absurd (first_not_less (nat_cmp y.item x.item) _ h (sym (nat_cmp_is y.item x.item Less l))))
    (λ l. l)
    (cases_lt y.item x.item)

pub ascends_rising : (xs : List LinkRow) (n : ℕ) → length xs ≡ n → IsSortedWithin (λ x y. is_lt (by_parts x y)) xs 0 n → Rising (λ l. l.item) xs
ascends_rising xs n e a = sorted_rising (λ l. l.item) xs (IsNonDecreasingBy-from_all_adjacent (λ l. l.item) xs (λ k d h. in_order (get_or xs k d) (get_or xs (k + 1) d) (a k d (omega arith) (omega arith))))

pub sorts : (xs part : List LinkRow) (n m : ℕ) → n ≤ m → m ≤ length xs → IsPermutation (take (m - n) (drop n xs)) part → Rising (λ l. l.item) part → Sorts xs (put_mid n (m - n) xs part) n m
sorts xs part n m h l s r =
    let w : n + (m - n) ≡ m = omega arith in
    let e : drop n (take m xs) ≡ take (m - n) (drop n xs) = ap (λ (k : ℕ). drop n (take k xs)) (sym w) ∙ drop-take n (m - n) xs in
    let b : length part ≡ m - n = length_permutation _ _ s ∙ length-take-le (m - n) (drop n xs) (omega (arith, length-drop n xs)) in
    record {
      part = part;
      front = take-put_mid n (m - n) xs part m (omega arith) (omega arith);
      rest = drop-put_mid n (m - n) xs part m (omega arith) (omega arith) b;
      same = subst (λ (v : List LinkRow). IsPermutation v part) (sym e) s;
      rising = r;
    }
