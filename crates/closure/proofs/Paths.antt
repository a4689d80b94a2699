-- Warshall's rounds find the paths through a table.
use Rattle.std.proofs.Common.{◌≡◌, ℕ, ◌+◌, ◌<◌, ◌≤◌, true, ◌&&◌, ◌||◌, ◌⊎◌, List, length, get_or, sym, ◌∙◌, subst, inl, inr, arith}
use Rattle.std.proofs.lemmas.Bool.{and_parts, and_from, or_cases, or_left, or_right, cases_lt}
use Rattle.closure.specs.Sets.{has}
use Rattle.closure.specs.Paths.{Path, direct, join, Closure, Passed}

-- the first i rows are passed, the others are as they were
pub record Passing (table out : List ℕ) (k i : ℕ) : Type 0 where
  pub size : length out ≡ 64
  pub done : (a j : ℕ) → a < i → a < 64 → has (get_or out a 0) j ≡ (has (get_or table a 0) j || (has (get_or table a 0) k && has (get_or table k 0) j))
  pub rest : (a : ℕ) → i ≤ a → get_or out a 0 ≡ get_or table a 0

-- the paths through the numbers below k are joined in
pub record Through (table out : List ℕ) (k : ℕ) : Type 0 where
  pub kept : (a b : ℕ) → a < 64 → b < 64 → has (get_or table a 0) b ≡ true → has (get_or out a 0) b ≡ true
  pub sound : (a b : ℕ) → a < 64 → b < 64 → has (get_or out a 0) b ≡ true → Path table a b
  pub closed : (m a b : ℕ) → m < k → m < 64 → a < 64 → b < 64 → has (get_or out a 0) m ≡ true → has (get_or out m 0) b ≡ true → has (get_or out a 0) b ≡ true

pub through_none : (table : List ℕ) → Through table table 0
through_none table = record { kept = λ a b h l e. e; sound = λ a b h l e. direct h l e; closed = λ m a b h _ _ _. absurd (omega arith) }

-- a member of a passed row
pass_at : (out new : List ℕ) (k : ℕ) → Passed out k new → (a j : ℕ) → a < 64 → has (get_or new a 0) j ≡ true → (has (get_or out a 0) j ≡ true) ⊎ ((has (get_or out a 0) k ≡ true) × (has (get_or out k 0) j ≡ true))
pass_at out new k p a j h e = go (or_cases (has (get_or out a 0) j) (has (get_or out a 0) k && has (get_or out k 0) j) (sym (p a j h) ∙ e))
  where
    go : (has (get_or out a 0) j ≡ true) ⊎ ((has (get_or out a 0) k && has (get_or out k 0) j) ≡ true) → (has (get_or out a 0) j ≡ true) ⊎ ((has (get_or out a 0) k ≡ true) × (has (get_or out k 0) j ≡ true))
    go (inl x) = inl x
    go (inr x) = inr (and_parts (has (get_or out a 0) k) (has (get_or out k 0) j) x)

pass_old : (out new : List ℕ) (k : ℕ) → Passed out k new → (a j : ℕ) → a < 64 → has (get_or out a 0) j ≡ true → has (get_or new a 0) j ≡ true
pass_old out new k p a j h e = p a j h ∙ or_left (has (get_or out a 0) j) (has (get_or out a 0) k && has (get_or out k 0) j) e

pass_via : (out new : List ℕ) (k : ℕ) → Passed out k new → (a j : ℕ) → a < 64 → has (get_or out a 0) k ≡ true → has (get_or out k 0) j ≡ true → has (get_or new a 0) j ≡ true
pass_via out new k p a j h e f = p a j h ∙ or_right (has (get_or out a 0) j) (has (get_or out a 0) k && has (get_or out k 0) j) (and_from (has (get_or out a 0) k) (has (get_or out k 0) j) e f)

pub through_more : (table out new : List ℕ) (k : ℕ) → k < 64 → Through table out k → Passed out k new → Through table new (k + 1)
through_more table out new k u w p = record {
  kept = λ a b h l e. pass_old out new k p a b h (w.kept a b h l e);
  sound = λ a b h l e. true_path a b h l (pass_at out new k p a b h e);
  closed = λ m a b v n h l e f. shut m a b n h l (cases_lt m k) v (pass_at out new k p a m h e) (pass_at out new k p m b n f);
}
  where
    true_path : (a b : ℕ) → a < 64 → b < 64 → (has (get_or out a 0) b ≡ true) ⊎ ((has (get_or out a 0) k ≡ true) × (has (get_or out k 0) b ≡ true)) → Path table a b
    true_path a b h l (inl e) = w.sound a b h l e
    true_path a b h l (inr (e, f)) = join (w.sound a k h u e) (w.sound k b u l f)

    shut : (m a b : ℕ) → m < 64 → a < 64 → b < 64 → (m < k) ⊎ (k ≤ m) → m < k + 1
        → (has (get_or out a 0) m ≡ true) ⊎ ((has (get_or out a 0) k ≡ true) × (has (get_or out k 0) m ≡ true))
        → (has (get_or out m 0) b ≡ true) ⊎ ((has (get_or out m 0) k ≡ true) × (has (get_or out k 0) b ≡ true))
        → has (get_or new a 0) b ≡ true
    shut m a b n h l (inl v) _ (inl x) (inl y) = pass_old out new k p a b h (w.closed m a b v n h l x y)
    shut m a b n h l (inl v) _ (inl x) (inr (y, z)) = pass_via out new k p a b h (w.closed m a k v n h u x y) z
    shut m a b n h l (inl v) _ (inr (x, y)) (inl z) = pass_via out new k p a b h x (w.closed m k b v n u l y z)
    shut m a b n h l (inl v) _ (inr (x, y)) (inr (z, t)) = pass_via out new k p a b h x t
    shut m a b n h l (inr v) i (inl x) (inl y) = let e : m ≡ k = omega arith in pass_via out new k p a b h (subst (λ (q : ℕ). has (get_or out a 0) q ≡ true) e x) (subst (λ (q : ℕ). has (get_or out q 0) b ≡ true) e y)
    shut m a b n h l (inr v) i (inl x) (inr (y, z)) = let e : m ≡ k = omega arith in pass_via out new k p a b h (subst (λ (q : ℕ). has (get_or out a 0) q ≡ true) e x) z
    shut m a b n h l (inr v) i (inr (x, y)) (inl z) = let e : m ≡ k = omega arith in pass_via out new k p a b h x (subst (λ (q : ℕ). has (get_or out q 0) b ≡ true) e z)
    shut m a b n h l (inr v) i (inr (x, y)) (inr (z, t)) = pass_via out new k p a b h x t

path_ends : {table : List ℕ} {a b : ℕ} → Path table a b → (a < 64) × (b < 64)
path_ends (direct h l e) = (h, l)
path_ends (join x y) = ((path_ends x).0, (path_ends y).1)

path_found : {table : List ℕ} (out : List ℕ) → Through table out 64 → {a b : ℕ} → Path table a b → has (get_or out a 0) b ≡ true
path_found out w (direct {a = a} {b = b} h l e) = w.kept a b h l e
path_found out w (join {a = a} {m = m} {b = b} x y) = w.closed m a b (path_ends x).1 (path_ends x).1 (path_ends x).0 (path_ends y).1 (path_found out w x) (path_found out w y)

pub through_all : (table out : List ℕ) → Through table out 64 → Closure table out
through_all table out w a b h l = (w.sound a b h l, path_found out w)
