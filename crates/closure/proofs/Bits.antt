-- The bits of a machine word, read and set as the code does it.
use Rattle.std.proofs.Common.{◌≡◌, ℕ, zero, suc, ◌+◌, ◌-◌, ◌*◌, ◌/◌, ◌%◌, ◌^◌, ◌<◌, ◌≤◌, max, Bool, false, cond, ◌||◌, eqb, ◌⊎◌, sym, refl, ap, ◌∙◌, subst, inl, inr, zero-add, div-one, add-one, one-add, arith, pow-add, shr-shr}
use native.Mathlib.Nat.{zero-div, div-eq_of_lt, div_self}
use lib.Bits.{bit_or, bit_and, or_shr, or_step, or_add_and, and_le_r}
use lib.Count.{ones, ones_step}
use lib.Pow.{pow-lt, shl-shr}
use Rattle.std.proofs.lemmas.Nat.{pow_pos, one_shl, and_mask, shr_below, ones-le}
use Rattle.std.proofs.lemmas.Bool.{eq-eqb, ne_eqb, cases_order}
use Rattle.lists.specs.Tallies.{tally, up_from}
use Rattle.lists.proofs.Tallies.{tally_runs}
use Rattle.closure.specs.Sets.{has}

or_bit : (a b : ℕ) → bit_or a b % 2 ≡ max (a % 2) (b % 2)
or_bit a b = rw (or_step a b) (omega arith)

max_bit : (x y : ℕ) → x < 2 → y < 2 → eqb (max x y) 1 ≡ (eqb x 1 || eqb y 1)
max_bit zero zero a b = refl
max_bit zero (suc zero) a b = refl
max_bit (suc zero) zero a b = refl
max_bit (suc zero) (suc zero) a b = refl
max_bit zero (suc (suc y)) a b = absurd (omega arith)
max_bit (suc zero) (suc (suc y)) a b = absurd (omega arith)
max_bit (suc (suc x)) y a b = absurd (omega arith)

pub has_or : (a b k : ℕ) → has (bit_or a b) k ≡ (has a k || has b k)
unfolding has
has_or a b k = rw (or_shr a b k, or_bit (a / 2 ^ k) (b / 2 ^ k)) (max_bit (a / 2 ^ k % 2) (b / 2 ^ k % 2) (omega arith) (omega arith))

pub has_none : (k : ℕ) → has 0 k ≡ false
unfolding has
has_none k = rw (zero-div (2 ^ k))

below : (j k : ℕ) → j < k → 2 ^ j / 2 ^ k % 2 ≡ 0
below j k h = let e : 2 ^ j / 2 ^ k ≡ 0 = div-eq_of_lt (pow-lt h) in omega arith

here : (k : ℕ) → 2 ^ k / 2 ^ k % 2 ≡ 1
here k = let e : 2 ^ k / 2 ^ k ≡ 1 = div_self (pow_pos k) in omega arith

above : (d k : ℕ) → 2 ^ ((d + 1) + k) / 2 ^ k % 2 ≡ 0
above d k =
    let e : 2 ^ ((d + 1) + k) ≡ 2 ^ (d + 1) * 2 ^ k = pow-add 2 (d + 1) k in
    let f : 2 ^ ((d + 1) + k) / 2 ^ k ≡ 2 ^ (d + 1) = rw e (shl-shr (2 ^ (d + 1)) k) in
    let h : 2 ^ (d + 1) ≡ 2 ^ d * 2 = pow-add 2 d 1 in
    omega arith

-- the set of j alone
pub has_one : (j k : ℕ) → has (2 ^ j) k ≡ eqb j k
unfolding has
has_one j k = go (cases_order j k)
  where
    go : (j ≡ k) ⊎ ((j < k) ⊎ (k < j)) → eqb (2 ^ j / 2 ^ k % 2) 1 ≡ eqb j k
    go (inl e) = eq-eqb (2 ^ j / 2 ^ k % 2) 1 (rw e (here k)) ∙ sym (eq-eqb j k e)
    go (inr (inl h)) = let e = below j k h in ne_eqb (2 ^ j / 2 ^ k % 2) 1 (λ f. omega arith) ∙ sym (ne_eqb j k (λ f. omega arith))
    go (inr (inr h)) =
        let w : j ≡ ((j - k - 1) + 1) + k = omega arith in
        let e : 2 ^ j / 2 ^ k % 2 ≡ 0 = subst (λ (x : ℕ). 2 ^ x / 2 ^ k % 2 ≡ 0) (sym w) (above (j - k - 1) k) in
        ne_eqb (2 ^ j / 2 ^ k % 2) 1 (λ f. omega arith) ∙ sym (ne_eqb j k (λ f. omega arith))

pub or_grows : (a b : ℕ) → a ≤ bit_or a b
or_grows a b = omega (arith, or_add_and a b, and_le_r a b)

-- how the code tests a member and adds one
pub has_read : (w k : ℕ) → eqb (bit_and (w / 2 ^ k) 1) 1 ≡ has w k
unfolding has
has_read w k = rw (and_mask (w / 2 ^ k) 1)

pub has_with : (w k : ℕ) → k < 64 → (j : ℕ) → has (bit_or w ((1 * 2 ^ k) % 18446744073709551616)) j ≡ (has w j || eqb k j)
has_with w k h j = rw (one_shl k 64 h, has_or w (2 ^ k) j, has_one k j)

has_half : (x k : ℕ) → has x (suc k) ≡ has (x / 2) k
unfolding has
has_half x k = let e : x / 2 / 2 ^ k ≡ x / 2 ^ (1 + k) = shr-shr x 1 k in let f : 1 + k ≡ suc k = one-add k in rw (e, f)

has_low : (x : ℕ) → has x 0 ≡ eqb (x % 2) 1
unfolding has
has_low x = rw (div-one x)

-- the ones of a word are its members
pub ones_tally : (d x : ℕ) → x < 2 ^ d → ones x ≡ tally (has x) (up_from 0 d)
unfolding up_from
ones_tally zero x h = omega (arith, ones-le 0 x h)
ones_tally (suc d) x h =
    let a = ones_step x in
    let b : x / 2 < 2 ^ d = shr_below x d 1 (let e : d + 1 ≡ suc d = add-one d in rw e h) in
    let c = ones_tally d (x / 2) b in
    let f : tally (has x) (up_from 1 d) ≡ tally (has (x / 2)) (up_from 0 d) = tally_runs (has x) (has (x / 2)) 1 0 d (λ k l. let u : 1 + k ≡ suc k = one-add k in let v : 0 + k ≡ k = zero-add k in rw (u, v) (has_half x k)) in
    let g : tally (has x) (up_from 0 (suc d)) ≡ cond (has x 0) (suc (ones (x / 2))) (ones (x / 2)) = rw (f, sym c) in
    sym (g ∙ ap (λ (t : Bool). cond t (suc (ones (x / 2))) (ones (x / 2))) (has_low x) ∙ low (x % 2) (ones (x / 2)) (ones x) (omega arith) (omega arith))
  where
    low : (b m n : ℕ) → b < 2 → n ≡ b + m → cond (eqb b 1) (suc m) m ≡ n
    low zero m n h e = omega arith
    low (suc zero) m n h e = omega arith
    low (suc (suc b)) m n h e = absurd (omega arith)
