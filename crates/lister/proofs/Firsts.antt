-- The least reading that begins with a prefix: where it comes after all that stands off the prefix, that there is
-- one, and how it is reached by the least entries.
use Rattle.std.proofs.Common.{◌≡◌, ℕ, ◌<◌, ◌≤◌, ◌⊎◌, List, [], ◌∷◌, ◌++◌, sym, refl, ap, ◌∙◌, subst, inl, inr, arith}
use mathlib.Core.List.Memᴰ
use native.Mathlib.Decide.{ℕ_discrete, dec_lt}
use Rattle.std.proofs.lemmas.List.{append_assoc, append-nil}
use Rattle.lists.specs.Members.{◌∈◌}
use Rattle.lists.specs.Exactly.{Exactly}
use Rattle.lists.specs.Begins.{Begins}
use Rattle.readings.specs.Order.{Before}
use Rattle.readings.proofs.Ordering.{before_transitive, before_total}
use Rattle.lister.specs.Least.{Lawful, Continues, First}
use Rattle.lister.specs.Cursors.{Lowest, Nowhere}
use Rattle.lister.proofs.Off.{Off, off_more, off_before, off_at, off_not, off_self}

-- what stands off p comes after what begins with p
pub off_begins : (p r x : List ℕ) → Begins p r → Off p x → Before r x
off_begins p r x b o = subst (λ (t : List ℕ). Before t x) (sym b.1) (off_before (p ++ b.0) x (off_more p b.0 x o))

-- a reading that goes on behind p with an allowed entry begins with the lowest, or stands off that
pub lowest_cases : (R : List ℕ → Type 0) (p ys : List ℕ) (low v k : ℕ) → Lowest R p low v → low ≤ k → R (p ++ k ∷ ys) → Begins (p ++ v ∷ []) (p ++ k ∷ ys) ⊎ Off (p ++ v ∷ []) (p ++ k ∷ ys)
lowest_cases R p ys low v k w l r = go (ℕ_discrete k v) (dec_lt v k)
  where
    go : Dec (k ≡ v) → Dec (v < k) → Begins (p ++ v ∷ []) (p ++ k ∷ ys) ⊎ Off (p ++ v ∷ []) (p ++ k ∷ ys)
    go (yes e) d = inl (ys, ap (λ (a : ℕ). p ++ a ∷ ys) e ∙ sym (append_assoc p (v ∷ []) ys))
    go (no n) (yes d) = inr (off_at p [] ys v k d)
    go (no n) (no d) = absurd (w.least k l (omega arith) (ys, rw append_assoc r))

begins_decided : (p x : List ℕ) → Dec (Begins p x)
begins_decided [] x = yes (x, refl)
begins_decided (a ∷ p) [] = no (λ b. let e : [] ≡ a ∷ p ++ b.0 = b.1 in let z : ◌≡◌ {A = ℕ} 0 1 = cc in omega arith)
begins_decided (a ∷ p) (c ∷ x) = go (ℕ_discrete a c) (begins_decided p x)
  where
    go : Dec (a ≡ c) → Dec (Begins p x) → Dec (Begins (a ∷ p) (c ∷ x))
    go (yes e) (yes b) = let q : x ≡ p ++ b.0 = b.1 in yes (b.0, cc)
    go (yes e) (no n) = no (λ b. let q : c ∷ x ≡ a ∷ p ++ b.0 = b.1 in n (b.0, cc))
    go (no n) d = no (λ b. let q : c ∷ x ≡ a ∷ p ++ b.0 = b.1 in n (cc))

-- the least of the lists that begin with p, if some do
least_of : (p : List ℕ) (rs : List (List ℕ)) → ((x : List ℕ) → x ∈ rs → Begins p x → ⊥) ⊎ ((r : List ℕ) × First (λ x. x ∈ rs) p r)
least_of p [] = inl (λ x m b. elim m [ ])
least_of p (y ∷ rs) = go (begins_decided p y) (least_of p rs)
  where
    none : (Begins p y → ⊥) → ((x : List ℕ) → x ∈ rs → Begins p x → ⊥) → (x : List ℕ) → (x ≡ y) ⊎ (x ∈ rs) → Begins p x → ⊥
    none n f x (inl e) b = n (subst (λ (t : List ℕ). Begins p t) e b)
    none n f x (inr m) b = f x m b

    alone : ((x : List ℕ) → x ∈ rs → Begins p x → ⊥) → (x : List ℕ) → (x ≡ y) ⊎ (x ∈ rs) → Begins p x → (x ≡ y) ⊎ Before y x
    alone f x (inl e) b = inl e
    alone f x (inr m) b = absurd (f x m b)

    kept : (r : List ℕ) → (Begins p y → (y ≡ r) ⊎ Before r y) → First (λ x. x ∈ rs) p r → First (λ x. x ∈ (y ∷ rs)) p r
    kept r h f = record { reading = Memᴰ.tail f.reading; begins = f.begins; least = λ x m b. each x (Memᴰ.cases_cons m) b }
      where
        each : (x : List ℕ) → (x ≡ y) ⊎ (x ∈ rs) → Begins p x → (x ≡ r) ⊎ Before r x
        each x (inl e) b = subst (λ (t : List ℕ). (t ≡ r) ⊎ Before r t) (sym e) (h (subst (λ (t : List ℕ). Begins p t) e b))
        each x (inr m) b = f.least x m b

    new : (r : List ℕ) → Begins p y → Before y r → First (λ x. x ∈ rs) p r → First (λ x. x ∈ (y ∷ rs)) p y
    new r b h f = record { reading = Memᴰ.head refl; begins = b; least = λ x m c. each x (Memᴰ.cases_cons m) c }
      where
        later : (x : List ℕ) → (x ≡ r) ⊎ Before r x → (x ≡ y) ⊎ Before y x
        later x (inl e) = inr (subst (λ (t : List ℕ). Before y t) (sym e) h)
        later x (inr k) = inr (before_transitive y r x h k)

        each : (x : List ℕ) → (x ≡ y) ⊎ (x ∈ rs) → Begins p x → (x ≡ y) ⊎ Before y x
        each x (inl e) c = inl e
        each x (inr m) c = later x (f.least x m c)

    choose : (r : List ℕ) → Begins p y → Before y r ⊎ ((y ≡ r) ⊎ Before r y) → First (λ x. x ∈ rs) p r → (s : List ℕ) × First (λ x. x ∈ (y ∷ rs)) p s
    choose r b (inl h) f = (y, new r b h f)
    choose r b (inr h) f = (r, kept r (λ _. h) f)

    go : Dec (Begins p y) → ((x : List ℕ) → x ∈ rs → Begins p x → ⊥) ⊎ ((r : List ℕ) × First (λ x. x ∈ rs) p r) → ((x : List ℕ) → x ∈ (y ∷ rs) → Begins p x → ⊥) ⊎ ((r : List ℕ) × First (λ x. x ∈ (y ∷ rs)) p r)
    go (no n) (inl f) = inl (λ x m. none n f x (Memᴰ.cases_cons m))
    go (no n) (inr s) = inr (s.0, kept s.0 (λ b. absurd (n b)) s.1)
    go (yes b) (inl f) = inr (y, record { reading = Memᴰ.head refl; begins = b; least = λ x m c. alone f x (Memᴰ.cases_cons m) c })
    go (yes b) (inr s) = inr (choose s.0 b (before_total y s.0) s.1)

-- where some reading begins with p, there is a least one
pub first_exists : (R : List ℕ → Type 0) (p : List ℕ) → Lawful R → Continues R p → (r : List ℕ) × First R p r
first_exists R p law c = go law.finite.0 law.finite.1 (least_of p law.finite.0)
  where
    go : (rs : List (List ℕ)) → Exactly R rs → ((x : List ℕ) → x ∈ rs → Begins p x → ⊥) ⊎ ((r : List ℕ) × First (λ x. x ∈ rs) p r) → (r : List ℕ) × First R p r
    go rs e (inl f) = absurd (f (p ++ c.0) (e.every (p ++ c.0) c.1) (c.0, refl))
    go rs e (inr s) = (s.0, record { reading = e.only s.0 s.1.reading; begins = s.1.begins; least = λ x r b. s.1.least x (e.every x r) b })

-- c begins with q, some reading begins with c, and all that begin with q begin with c or stand off c
pub record Toward (R : List ℕ → Type 0) (q c : List ℕ) : Type 0 where
  pub continues : Continues R c
  pub begins : Begins q c
  pub all : (x : List ℕ) → R x → Begins q x → Begins c x ⊎ Off c x

pub toward_start : (R : List ℕ → Type 0) (q : List ℕ) → Continues R q → Toward R q q
toward_start R q y = record { continues = y; begins = ([], sym (append-nil q)); all = λ x r b. inl b }

-- one entry more, the least
pub toward_more : (R : List ℕ → Type 0) (q c : List ℕ) (v : ℕ) → Toward R q c → (R c → ⊥) → Lowest R c 0 v → Toward R q (c ++ v ∷ [])
toward_more R q c v t not w = record {
  continues = w.continues;
  begins = (t.begins.0 ++ v ∷ [], ap (λ (z : List ℕ). z ++ v ∷ []) t.begins.1 ∙ append_assoc q t.begins.0 (v ∷ []));
  all = λ x r b. go x r (t.all x r b);
}
  where
    on : (x ys : List ℕ) → R x → x ≡ c ++ ys → Begins (c ++ v ∷ []) x ⊎ Off (c ++ v ∷ []) x
    on x [] r e = absurd (not (rw (e ∙ append-nil c) at r))
    on x (k ∷ ys) r e = rw e (lowest_cases R c ys 0 v k w (omega arith) (rw e at r))

    go : (x : List ℕ) → R x → Begins c x ⊎ Off c x → Begins (c ++ v ∷ []) x ⊎ Off (c ++ v ∷ []) x
    go x r (inl b) = on x b.0 r b.1
    go x r (inr o) = inr (off_more c (v ∷ []) x o)

pub toward_whole : (R : List ℕ → Type 0) (q c : List ℕ) → Lawful R → Toward R q c → R c → First R q c
toward_whole R q c law t r = record { reading = r; begins = t.begins; least = λ x rx b. go x rx (t.all x rx b) }
  where
    go : (x : List ℕ) → R x → Begins c x ⊎ Off c x → (x ≡ c) ⊎ Before c x
    go x rx (inl b) =
        let e : x ≡ c ++ b.0 = b.1 in
        let z : b.0 ≡ [] = law.prefix_free c b.0 r (rw e at rx) in
        inl (e ∙ ap (λ (u : List ℕ). c ++ u) z ∙ append-nil c)
    go x rx (inr o) = inr (off_before c x o)

pub toward_first : (R : List ℕ → Type 0) (q c r : List ℕ) → Toward R q c → First R q r → Begins c r
toward_first R q c r t f = go (t.all r f.reading f.begins)
  where
    x : List ℕ
    x = c ++ t.continues.0

    b : Begins q x
    b = (t.begins.0 ++ t.continues.0, ap (λ (z : List ℕ). z ++ t.continues.0) t.begins.1 ∙ append_assoc q t.begins.0 t.continues.0)

    off : Off c r → (x ≡ r) ⊎ Before r x → ⊥
    off o (inl e) = off_self c t.continues.0 (rw e o)
    off o (inr h) = off_not c t.continues.0 r o h

    go : Begins c r ⊎ Off c r → Begins c r
    go (inl h) = h
    go (inr o) = absurd (off o (f.least x t.continues.1 b))

-- what some reading begins with and is no reading goes on with some entry
pub never_stuck : (R : List ℕ → Type 0) (c : List ℕ) → Continues R c → (R c → ⊥) → Nowhere R c 0 → ⊥
never_stuck R c y not w = go y.0 y.1
  where
    go : (ys : List ℕ) → R (c ++ ys) → ⊥
    go [] r = not (rw append-nil at r)
    go (k ∷ ys) r = w k (omega arith) (ys, rw append_assoc r)

-- a reading goes on with no entry
pub whole_nowhere : (R : List ℕ → Type 0) (c : List ℕ) → Lawful R → R c → Nowhere R c 0
whole_nowhere R c law r k h y =
    let s : R (c ++ k ∷ y.0) = rw append_assoc at y.1 in
    let e : k ∷ y.0 ≡ [] = law.prefix_free c (k ∷ y.0) r s in
    let z : ◌≡◌ {A = ℕ} 0 1 = cc in
    omega arith
