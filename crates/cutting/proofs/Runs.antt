-- A run of bytes: an entry that passes a test, and the longest front of those behind it that do.
use Rattle.std.proofs.Common.{◌≡◌, ℕ, zero, suc, ◌+◌, ◌-◌, ◌<◌, ◌≤◌, Bool, true, false, List, length, get_or, drop, sym, ap, ◌∙◌, arith}
use Rattle.std.specs.List.{prefix_len}
use Rattle.std.proofs.lemmas.List.{get_or-drop, length-drop}
use Rattle.std.proofs.lemmas.List.Sums.{prefix_len_passes, prefix_len_stops, prefix_len_is}

-- an entry behind the one at a
pub tail_byte : (xs : List ℕ) (a j i : ℕ) → i ≡ a + 1 + j → get_or xs i 0 ≡ get_or (drop (a + 1) xs) j 0
tail_byte xs a j i e = ap (λ k. get_or xs k 0) e ∙ sym (get_or-drop (a + 1) xs j 0)

-- a run is an entry that passes and the front behind it
pub run_all : (p : ℕ → Bool) (xs : List ℕ) (a : ℕ) → p (get_or xs a 0) ≡ true → (k : ℕ) → k < 1 + prefix_len p (drop (a + 1) xs) → p (get_or xs (a + k) 0) ≡ true
run_all p xs a h zero l = let q : a + 0 ≡ a = omega arith in rw q h
run_all p xs a h (suc j) l = ap p (tail_byte xs a j (a + suc j) (omega arith)) ∙ prefix_len_passes p (drop (a + 1) xs) j 0 (omega arith)

pub run_end : (p : ℕ → Bool) (xs : List ℕ) (a : ℕ) → a + (1 + prefix_len p (drop (a + 1) xs)) < length xs → p (get_or xs (a + (1 + prefix_len p (drop (a + 1) xs))) 0) ≡ false
run_end p xs a h =
    let d = length-drop (a + 1) xs in
    ap p (tail_byte xs a (prefix_len p (drop (a + 1) xs)) (a + (1 + prefix_len p (drop (a + 1) xs))) (omega arith)) ∙ prefix_len_stops p (drop (a + 1) xs) 0 (omega arith)

pub run_is : (p : ℕ → Bool) (xs : List ℕ) (a n : ℕ) → 0 < n → a + n ≤ length xs → ((k : ℕ) → 0 < k → k < n → p (get_or xs (a + k) 0) ≡ true) → (a + n < length xs → p (get_or xs (a + n) 0) ≡ false) → 1 + prefix_len p (drop (a + 1) xs) ≡ n
run_is p xs a n z h all whole =
    let d = length-drop (a + 1) xs in
    let r = prefix_len_is p (drop (a + 1) xs) (n - 1) 0 (omega arith) (λ k l. ap p (sym (tail_byte xs a k (a + suc k) (omega arith))) ∙ all (suc k) (omega arith) (omega arith)) (λ l. ap p (sym (tail_byte xs a (n - 1) (a + n) (omega arith))) ∙ whole (omega arith)) in
    omega arith
