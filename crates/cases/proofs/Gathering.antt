-- Lists made from lists, and what their members are: what a function makes of each member, a list where a test passes,
-- what an option holds, the entries with their numbers, and the numbers below one.
use Rattle.std.proofs.Common.{◌≡◌, ℕ, zero, suc, ◌+◌, ◌<◌, Bool, true, false, ◌⊎◌, List, [], ◌∷◌, ◌++◌, Some, None, Option, sym, refl, ap, ◌∙◌, subst, inl, inr, true≢false, arith}
use mathlib.Core.List.Memᴰ
use native.Mathlib.Decide.{dec_lt}
use Rattle.lists.specs.Entries.{nth}
use Rattle.lists.specs.Members.{◌∈◌}

-- what f makes of the members, one after the other
abbrev pub gather : {A B : Type 0} → (A → List B) → List A → List B
gather f [] = []
gather f (a ∷ l) = f a ++ gather f l

pub gather_in : {A B : Type 0} (f : A → List B) {a : A} {b : B} {l : List A} → a ∈ l → b ∈ f a → b ∈ gather f l
gather_in f {b = b} (Memᴰ.head {xs = l} e) h = Memᴰ.append_left (gather f l) (subst (λ c. b ∈ f c) e h)
gather_in f (Memᴰ.tail {x = c} m) h = Memᴰ.append_right (f c) (gather_in f m h)

pub gather_of : {A B : Type 0} (f : A → List B) (l : List A) {b : B} → b ∈ gather f l → (a : A) × (a ∈ l) × (b ∈ f a)
gather_of f [] m = absurd (Memᴰ.not-nil m)
gather_of {A} f (a ∷ l) {b} m = go (Memᴰ.append_cases (f a) m) (λ n. gather_of f l n)
  where
    go : (b ∈ f a) ⊎ (b ∈ gather f l) → (b ∈ gather f l → (c : A) × (c ∈ l) × (b ∈ f c)) → (c : A) × (c ∈ (a ∷ l)) × (b ∈ f c)
    go (inl n) k = (a, Memᴰ.head refl, n)
    go (inr n) k = let (c, i, h) = k n in (c, Memᴰ.tail i, h)

-- the list where the test passes
abbrev pub when : {A : Type 0} → Bool → List A → List A
when true l = l
when false l = []

pub when_in : {A : Type 0} (t : Bool) {a : A} {l : List A} → t ≡ true → a ∈ l → a ∈ when t l
when_in true e m = m
when_in false e m = absurd (true≢false (sym e))

pub when_of : {A : Type 0} (t : Bool) (l : List A) {a : A} → a ∈ when t l → (t ≡ true) × (a ∈ l)
when_of true l m = (refl, m)
when_of false l m = absurd (Memᴰ.not-nil m)

-- what the option holds
abbrev pub held : {A : Type 0} → Option A → List A
held None = []
held (Some a) = a ∷ []

pub held_in : {A : Type 0} (o : Option A) {a : A} → o ≡ Some a → a ∈ held o
held_in None e = let z : ◌≡◌ {A = ℕ} 0 1 = cc in absurd (omega arith)
held_in (Some b) e = Memᴰ.head (cc)

pub held_of : {A : Type 0} (o : Option A) {a : A} → a ∈ held o → o ≡ Some a
held_of None m = absurd (Memᴰ.not-nil m)
held_of (Some b) m = ap Some (sym (Memᴰ.eq_of_singleton m))

-- the entries, each with its number, from n on
abbrev pub numbered : {A : Type 0} → ℕ → List A → List (ℕ × A)
numbered n [] = []
numbered n (x ∷ l) = (n, x) ∷ numbered (suc n) l

entry : {A : Type 0} {m n : ℕ} {x y : A} → m ≡ n → x ≡ y → ◌≡◌ {A = ℕ × A} (m, x) (n, y)
entry p q = λ i. (p i, q i)

numbered_in : {A : Type 0} (l : List A) (n i : ℕ) {x : A} → nth l i ≡ Some x → (n + i, x) ∈ numbered n l
numbered_in [] n i h = let z : ◌≡◌ {A = ℕ} 0 1 = cc in absurd (omega arith)
numbered_in (y ∷ l) n zero {x} h =
    let e : n + 0 ≡ n = omega arith in
    let f : x ≡ y = cc in
    Memᴰ.head (entry e f)
numbered_in (y ∷ l) n (suc i) {x} h =
    let e : n + suc i ≡ suc n + i = omega arith in
    Memᴰ.tail (Memᴰ.cast (entry {x = x} e refl) (numbered_in l (suc n) i h))

numbered_of : {A : Type 0} (l : List A) (n : ℕ) {e : ℕ × A} → e ∈ numbered n l → (k : ℕ) × (e.0 ≡ n + k) × (nth l k ≡ Some e.1)
numbered_of [] n m = absurd (Memᴰ.not-nil m)
numbered_of {A} (y ∷ l) n {e} m = go (Memᴰ.cases_cons m) (λ k. numbered_of l (suc n) k)
  where
    first : e.0 ≡ n → e.0 ≡ n + 0
    first h = omega arith

    later : (k : ℕ) → e.0 ≡ suc n + k → e.0 ≡ n + suc k
    later k h = omega arith

    go : (e ≡ (n, y)) ⊎ (e ∈ numbered (suc n) l) → (e ∈ numbered (suc n) l → (k : ℕ) × (e.0 ≡ suc n + k) × (nth l k ≡ Some e.1)) → (k : ℕ) × (e.0 ≡ n + k) × (nth (y ∷ l) k ≡ Some e.1)
    go (inl h) f = (0, first (ap (λ (p : ℕ × A). p.0) h), ap Some (sym (ap (λ (p : ℕ × A). p.1) h)))
    go (inr h) f = let (k, p, q) = f h in (suc k, later k p, q)

pub entry_in : {A : Type 0} (l : List A) (i : ℕ) {x : A} → nth l i ≡ Some x → (i, x) ∈ numbered 0 l
entry_in l i {x} h = let e : i ≡ 0 + i = omega arith in Memᴰ.cast (entry {x = x} e refl) (numbered_in l 0 i h)

pub entry_of : {A : Type 0} (l : List A) {e : ℕ × A} → e ∈ numbered 0 l → nth l e.0 ≡ Some e.1
entry_of l {e} m =
    let (k, p, q) = numbered_of l 0 m in
    let i : e.0 ≡ k = omega arith in
    ap (nth l) i ∙ q

-- the numbers below n
abbrev pub below : ℕ → List ℕ
below zero = []
below (suc n) = n ∷ below n

pub below_in : (n i : ℕ) → i < n → i ∈ below n
below_in zero i h = absurd (omega arith)
below_in (suc n) i h = go (dec_lt i n) (λ k. below_in n i k)
  where
    go : Dec (i < n) → (i < n → i ∈ below n) → i ∈ (n ∷ below n)
    go (yes k) f = Memᴰ.tail (f k)
    go (no k) f = Memᴰ.head (omega arith)

pub below_of : (n : ℕ) {i : ℕ} → i ∈ below n → i < n
below_of zero m = absurd (Memᴰ.not-nil m)
below_of (suc n) {i} m = go (Memᴰ.cases_cons m) (λ k. below_of n k)
  where
    go : (i ≡ n) ⊎ (i ∈ below n) → (i ∈ below n → i < n) → i < suc n
    go (inl e) f = omega arith
    go (inr k) f = omega (arith, f k)
