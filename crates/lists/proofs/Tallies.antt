-- Lemmas on how many elements of a list pass a test.
use Rattle.std.proofs.Common.{◌≡◌, ℕ, zero, suc, ◌+◌, ◌<◌, ◌≤◌, Bool, true, false, cond, ◌⊎◌, List, [], ◌∷◌, length, refl, subst, inl, inr, add-zero, arith}
use mathlib.Core.List.Memᴰ
use Rattle.std.proofs.lemmas.Bool.{or_cases, or_right}
use Rattle.lists.specs.Members.{◌∈◌}
use Rattle.lists.specs.Tallies.{Under, tally, any_of, up_from}

pub any_at : {A : Type 0} (f : A → Bool) (l : List A) → any_of f l ≡ true → (c : A) × (c ∈ l) × (f c ≡ true)
any_at f [] e = let z : ◌≡◌ {A = ℕ} 0 1 = cc in absurd (omega arith)
any_at {A} f (a ∷ l) e = go (or_cases (f a) (any_of f l) e) (λ k. any_at f l k)
  where
    go : (f a ≡ true) ⊎ (any_of f l ≡ true) → (any_of f l ≡ true → (c : A) × (c ∈ l) × (f c ≡ true)) → (c : A) × (c ∈ (a ∷ l)) × (f c ≡ true)
    go (inl k) ih = (a, Memᴰ.head refl, k)
    go (inr k) ih = let (c, m, h) = ih k in (c, Memᴰ.tail m, h)

pub any_from : {A : Type 0} (f : A → Bool) {c : A} {l : List A} → c ∈ l → f c ≡ true → any_of f l ≡ true
any_from f {c} (Memᴰ.head {x = a} e) h = let k : f a ≡ true = cc in rw k
any_from f (Memᴰ.tail {x = a} {xs = l} m) h = or_right (f a) (any_of f l) (any_from f m h)

pub tally_all : {A : Type 0} (f : A → Bool) (l : List A) → tally f l ≤ length l
tally_all f [] = omega arith
tally_all f (a ∷ l) = go (f a) (tally_all f l)
  where
    go : (b : Bool) → tally f l ≤ length l → cond b (suc (tally f l)) (tally f l) ≤ suc (length l)
    go true h = omega arith
    go false h = omega arith

pub tally_under : {A : Type 0} (f h : A → Bool) (l : List A) → Under f h → tally f l ≤ tally h l
tally_under f h [] u = omega arith
tally_under f h (a ∷ l) u = go (f a) (h a) (u a) (tally_under f h l u)
  where
    go : (b c : Bool) → (b ≡ true → c ≡ true) → tally f l ≤ tally h l → cond b (suc (tally f l)) (tally f l) ≤ cond c (suc (tally h l)) (tally h l)
    go true true v k = omega arith
    go true false v k = let w = v refl in let z : ◌≡◌ {A = ℕ} 0 1 = cc in absurd (omega arith)
    go false true v k = omega arith
    go false false v k = k

level : (b c : Bool) (m n : ℕ) → (b ≡ true → c ≡ true) → cond c (suc n) n ≤ cond b (suc m) m → m ≤ n → (c ≡ true → b ≡ true) × (n ≤ m)
level true true m n u k l = ((λ e. refl), omega arith)
level true false m n u k l = let w = u refl in let z : ◌≡◌ {A = ℕ} 0 1 = cc in absurd (omega arith)
level false true m n u k l = absurd (omega arith)
level false false m n u k l = ((λ e. e), k)

-- no more pass, so the same pass
pub tally_same : {A : Type 0} (f h : A → Bool) {a : A} {l : List A} → a ∈ l → Under f h → tally h l ≤ tally f l → h a ≡ true → f a ≡ true
tally_same f h {a} (Memᴰ.head {x = b} {xs = l} i) u k e =
    let v = (level (f b) (h b) (tally f l) (tally h l) (u b) k (tally_under f h l u)).0 (cc) in
    cc
tally_same f h (Memᴰ.tail {x = b} {xs = l} m) u k e = tally_same f h m u (level (f b) (h b) (tally f l) (tally h l) (u b) k (tally_under f h l u)).1 e

-- two runs of numbers whose tests agree, one by one
pub tally_runs : (f h : ℕ → Bool) (s t n : ℕ) → ((k : ℕ) → k < n → f (s + k) ≡ h (t + k)) → tally f (up_from s n) ≡ tally h (up_from t n)
unfolding up_from
tally_runs f h s t zero e = refl
tally_runs f h s t (suc n) e =
    let a : f s ≡ h t = rw (add-zero s, add-zero t) at (e 0 (omega arith)) in
    let b : tally f (up_from (suc s) n) ≡ tally h (up_from (suc t) n) = tally_runs f h (suc s) (suc t) n (λ k l. let x : suc s + k ≡ s + suc k = omega arith in let y : suc t + k ≡ t + suc k = omega arith in rw (x, y) (e (suc k) (omega arith))) in
    rw (a, b)

-- the numbers of a run
pub run_has : (s n k : ℕ) → k < n → (s + k) ∈ up_from s n
unfolding up_from
run_has s zero k h = absurd (omega arith)
run_has s (suc n) zero h = Memᴰ.head (omega arith)
run_has s (suc n) (suc k) h = Memᴰ.tail (let e : suc s + k ≡ s + suc k = omega arith in subst (λ (x : ℕ). x ∈ up_from (suc s) n) e (run_has (suc s) n k (omega arith)))
