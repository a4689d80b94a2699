-- The items of the rows from one number up to another.
use Rattle.std.proofs.Common.{◌≡◌, ℕ, zero, suc, ◌+◌, ◌-◌, ◌<◌, ◌≤◌, List, [], ◌∷◌, ◌++◌, map, length, get_or, take, drop, Some, sym, refl, ap, ◌∙◌, arith}
use mathlib.Core.List.Memᴰ
use mathlib.Core.List.{map-append}
use Rattle.std.proofs.lemmas.List.{take_more, take-map, take-take, take-append-drop, drop-take, drop-append-le, length-map, length-drop, length-take-le, get_or-take, get_or-drop}
use Rattle.std.specs.List.{AllWithin}
use Rattle.lists.specs.Entries.{nth}
use Rattle.lists.specs.Members.{◌∈◌, Distinct}
use Rattle.lists.proofs.Mapped.{mapped_from}
use Rattle.lists.proofs.Entries.{nth_member}
use Rattle.charts.specs.Chart.{Item}
use Rattle.table.specs.declared.row.ItemRow.{ItemRow}
use Rattle.table.specs.Rows.{no_item, item_of, row_at, item_at}
use Rattle.table.specs.Growth.{since}
use Rattle.table.proofs.Growing.{get_d_kept}
use Rattle.table.proofs.Meaning.{item_same}
use Rattle.table.proofs.Rising.{member_at}

pub since_length : (base m : ℕ) (xs : List ItemRow) → m ≤ length xs → length (since base m xs) ≡ m - base
since_length base m xs l = length-map (drop base (take m xs)) item_of ∙ length-drop base (take m xs) ∙ ap (λ (i : ℕ). i - base) (length-take-le m xs l)

-- one row more
pub since_more : (base j : ℕ) (xs : List ItemRow) → base ≤ j → j < length xs → since base (j + 1) xs ≡ since base j xs ++ item_at xs j ∷ []
since_more base j xs lo hi =
    let l : base ≤ length (take j xs) = omega (arith, length-take-le j xs (omega arith)) in
    ap (λ (l : List ItemRow). map item_of (drop base l)) (take_more xs j no_item hi)
    ∙ ap (map item_of) (drop-append-le base (take j xs) (row_at xs j ∷ []) l)
    ∙ map-append item_of (drop base (take j xs)) (row_at xs j ∷ [])

-- what stands among the first n does not see what is put behind
pub since_kept : (base j n : ℕ) (xs ys : List ItemRow) → j ≤ n → take n ys ≡ take n xs → since base j ys ≡ since base j xs
since_kept base j n xs ys h e = ap (λ (l : List ItemRow). map item_of (drop base l)) (sym (take-take j n ys h) ∙ ap (take j) e ∙ take-take j n xs h)

pub item_kept : (n j : ℕ) (xs ys : List ItemRow) → j < n → take n ys ≡ take n xs → item_at ys j ≡ item_at xs j
item_kept n j xs ys h e = ap item_of (get_d_kept n j no_item xs ys h e)

-- rows put behind the first n
pub since_front : (base n m : ℕ) (xs ys more : List ItemRow) → base ≤ n → n ≤ length xs → take m ys ≡ take n xs ++ more → since base m ys ≡ since base n xs ++ map item_of more
since_front base n m xs ys more lo hi e =
    ap (λ (l : List ItemRow). map item_of (drop base l)) e
    ∙ ap (map item_of) (drop-append-le base (take n xs) more (omega (arith, length-take-le n xs hi)))
    ∙ map-append item_of (drop base (take n xs)) more

pub since_split : (base j n : ℕ) (xs : List ItemRow) → base ≤ j → j ≤ n → n ≤ length xs → since base n xs ≡ since base j xs ++ since j n xs
since_split base j n xs b h l =
    since_front base j n xs xs (drop j (take n xs)) b (omega arith)
    (sym (take-append-drop j (take n xs)) ∙ ap (λ (l : List ItemRow). l ++ drop j (take n xs)) (take-take j n xs h))

pub since_has : (base j n : ℕ) (xs : List ItemRow) → base ≤ j → j < n → n ≤ length xs → item_at xs j ∈ since base n xs
since_has base j n xs b h l = rw (since_split base (j + 1) n xs (omega arith) (omega arith) l)
    (Memᴰ.append_left (since (j + 1) n xs) (rw (since_more base j xs b (omega arith)) (Memᴰ.append_right (since base j xs) (Memᴰ.head refl))))

pub since_nth : (base m i : ℕ) (xs : List ItemRow) → base ≤ i → i < m → m ≤ length xs → nth (since base m xs) (i - base) ≡ Some (item_at xs i)
since_nth base m i xs lo lt hi =
    let d : base + (i - base) ≡ i = omega arith in
    let w : i - base < length (drop base (take m xs)) = omega (arith, length-drop base (take m xs), length-take-le m xs hi) in
    mapped_from item_of no_item (drop base (take m xs)) (i - base) w
    ∙ ap (λ (x : ItemRow). Some (item_of x)) (get_or-drop base (take m xs) (i - base) no_item ∙ ap (λ (k : ℕ). get_or (take m xs) k no_item) d ∙ get_or-take m xs i no_item lt)

pub since_take : (base m j : ℕ) (xs : List ItemRow) → base ≤ j → j ≤ m → take (j - base) (since base m xs) ≡ since base j xs
since_take base m j xs lo hi =
    let d : base + (j - base) ≡ j = omega arith in
    take-map item_of (j - base) (drop base (take m xs))
    ∙ ap (map item_of) (sym (drop-take base (j - base) (take m xs)) ∙ ap (λ (k : ℕ). drop base (take k (take m xs))) d ∙ ap (drop base) (take-take j m xs hi))

-- the number of a row
pub index_of : (lo m : ℕ) (xs : List ItemRow) → m ≤ length xs → (x : Item) → x ∈ since lo m xs → (k : ℕ) × (lo ≤ k) × (k < m) × (item_at xs k ≡ x)
index_of lo m xs h x k =
    let (r, j, e) = Memᴰ.of_map item_of (drop lo (take m xs)) k in
    let (i, l, d) = member_at no_item j in
    let w : lo + i < m = omega (arith, length-drop lo (take m xs), length-take-le m xs h) in
    (lo + i, omega arith, w, ap item_of (sym (get_or-take m xs (lo + i) no_item w) ∙ sym (get_or-drop lo (take m xs) i no_item) ∙ d) ∙ e)

-- the rows of one stretch are rows of a wider one
pub since_within : (a b lo hi : ℕ) (xs : List ItemRow) → a ≤ lo → hi ≤ b → b ≤ length xs → (x : Item) → x ∈ since lo hi xs → x ∈ since a b xs
since_within a b lo hi xs h l r x k = let (n, i, j, e) = index_of lo hi xs (omega arith) x k in Memᴰ.cast (sym e) (since_has a n b xs (omega arith) (omega arith) r)

distinct_nth : {A : Type 0} (l : List A) → Distinct l → (j k : ℕ) {x : A} → nth l j ≡ Some x → nth l k ≡ Some x → j ≡ k
distinct_nth [] d j k h i = let o : ◌≡◌ {A = ℕ} 0 1 = cc in absurd (omega arith)
distinct_nth (y ∷ l) d zero zero h i = refl
distinct_nth (y ∷ l) d zero (suc k) {x} h i = let e : y ≡ x = cc in absurd (d.0 (Memᴰ.cast e (nth_member l k i)))
distinct_nth (y ∷ l) d (suc j) zero {x} h i = let e : y ≡ x = cc in absurd (d.0 (Memᴰ.cast e (nth_member l j h)))
distinct_nth (y ∷ l) d (suc j) (suc k) h i = ap suc (distinct_nth l d.1 j k h i)

-- where no item stands twice, equal items have one number
pub index_one : (base m : ℕ) (xs : List ItemRow) → m ≤ length xs → Distinct (since base m xs) → (j k : ℕ) → base ≤ j → base ≤ k → j < m → k < m → item_at xs j ≡ item_at xs k → j ≡ k
index_one base m xs h d j k p q a b e = omega (arith, distinct_nth (since base m xs) d (j - base) (k - base) (since_nth base m j xs p a h) (since_nth base m k xs q b h ∙ ap Some (sym e)))

-- what stands at no number of a stretch is not there
pub since_none : (lo hi : ℕ) (xs : List ItemRow) (row : ItemRow) → lo ≤ hi → hi ≤ length xs → AllWithin (λ x. x ≡ row → ⊥) (take (hi - lo) (drop lo xs)) 0 (length (take (hi - lo) (drop lo xs))) → item_of row ∈ since lo hi xs → ⊥
since_none lo hi xs row h l none m =
    let (k, i, j, e) = index_of lo hi xs l (item_of row) m in
    let w : lo + (k - lo) ≡ k = omega arith in
    let long = length-take-le (hi - lo) (drop lo xs) (omega (arith, length-drop lo xs)) in
    let at = get_or-take (hi - lo) (drop lo xs) (k - lo) no_item (omega arith) ∙ get_or-drop lo xs (k - lo) no_item ∙ ap (row_at xs) w in
    none (k - lo) no_item (omega arith) (omega arith) (at ∙ item_same _ _ e)
