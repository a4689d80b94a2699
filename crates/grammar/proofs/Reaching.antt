-- The computed paths of steps are those of the definition; and where there is no cycle, each step leads to a symbol
-- that gets to fewer.
use Rattle.std.proofs.Common.{◌≡◌, ℕ, zero, suc, ◌<◌, Bool, true, false, ◌&&◌, ◌||◌, eqb, ◌⊎◌, List, length, Decides, refl, subst, inl, inr, arith}
use native.Mathlib.Decide.{dec_lt}
use Rattle.std.proofs.lemmas.Bool.{and_parts, or_cases, or_right}
use Rattle.std.proofs.lemmas.Bool.Decides.{Decides-eqb}
use Rattle.lists.specs.Members.{◌∈◌}
use Rattle.lists.specs.Tallies.{Under, tally}
use Rattle.lists.proofs.Tallies.{any_at, any_from, tally_same}
use Rattle.grammar.specs.Grammar.{Grammar}
use Rattle.grammar.specs.Steps.{Steps, GetsTo, one, further, Acyclic}
use Rattle.grammar.specs.Rounds.{turns}
use Rattle.grammar.specs.Nulling.{lefts}
use Rattle.grammar.specs.Reaching.{steps, rights, nearer, reaches, circular}
use Rattle.grammar.proofs.Rounds.{turns_settled}
use Rattle.grammar.proofs.Nulling.{lefts_length}
use Rattle.grammar.proofs.Stepping.{steps_decides, step_right, step_left}

-- one round, read as steps
nearer_at : (g : Grammar) (b : ℕ) (f : ℕ → Bool) (a : ℕ) → nearer g b f a ≡ true → (c : ℕ) × Steps g a c × ((c ≡ b) ⊎ (f c ≡ true))
nearer_at g b f a e =
    let (c, m, h) = any_at (λ c. steps g a c && (eqb c b || f c)) (rights g.rules) e in
    let (x, y) = and_parts (steps g a c) (eqb c b || f c) h in
    (c, (steps_decides g a c).0 x, go c (or_cases (eqb c b) (f c) y))
  where
    go : (c : ℕ) → (eqb c b ≡ true) ⊎ (f c ≡ true) → (c ≡ b) ⊎ (f c ≡ true)
    go c (inl x) = inl ((Decides-eqb c b).0 x)
    go c (inr x) = inr x

nearer_from : (g : Grammar) (b : ℕ) (f : ℕ → Bool) (a c : ℕ) → Steps g a c → (c ≡ b) ⊎ (f c ≡ true) → nearer g b f a ≡ true
nearer_from g b f a c s o = any_from (λ c. steps g a c && (eqb c b || f c)) (step_right s) (let u : steps g a c ≡ true = (steps_decides g a c).1 s in rw u (go o))
  where
    go : (c ≡ b) ⊎ (f c ≡ true) → (eqb c b || f c) ≡ true
    go (inl x) = let v : eqb c b ≡ true = (Decides-eqb c b).1 x in rw v
    go (inr x) = or_right (eqb c b) (f c) x

nearer_under : (g : Grammar) (b : ℕ) (f h : ℕ → Bool) → Under f h → Under (nearer g b f) (nearer g b h)
nearer_under g b f h u a e = let (c, s, o) = nearer_at g b f a e in nearer_from g b h a c s (go c o)
  where
    go : (c : ℕ) → (c ≡ b) ⊎ (f c ≡ true) → (c ≡ b) ⊎ (h c ≡ true)
    go c (inl x) = inl x
    go c (inr x) = inr (u c x)

reaches_sound : (g : Grammar) (b n a : ℕ) → turns (nearer g b) n a ≡ true → GetsTo g a b
reaches_sound g b zero a e = let z : ◌≡◌ {A = ℕ} 0 1 = cc in absurd (omega arith)
reaches_sound g b (suc n) a e = let (c, s, o) = nearer_at g b (turns (nearer g b) n) a e in go c s o (λ k. reaches_sound g b n c k)
  where
    go : (c : ℕ) → Steps g a c → (c ≡ b) ⊎ (turns (nearer g b) n c ≡ true) → (turns (nearer g b) n c ≡ true → GetsTo g c b) → GetsTo g a b
    go c s (inl x) ih = one (subst (λ (d : ℕ). Steps g a d) x s)
    go c s (inr x) ih = further s (ih x)

reaches_settled : (g : Grammar) (b : ℕ) → Under (nearer g b (λ a. reaches g a b)) (λ a. reaches g a b)
reaches_settled g b = turns_settled (nearer g b) (nearer_under g b) (lefts g.rules) (λ f a e. step_left (nearer_at g b f a e).1) (length g.rules) (omega (arith, lefts_length g.rules))

reaches_all : {g : Grammar} {a b : ℕ} → GetsTo g a b → reaches g a b ≡ true
reaches_all {g = g} (one {a = a} {b = b} s) = reaches_settled g b a (nearer_from g b (λ c. reaches g c b) a b s (inl refl))
reaches_all {g = g} (further {a = a} {b = c} {c = b} s t) = reaches_settled g b a (nearer_from g b (λ c. reaches g c b) a c s (inr (reaches_all t)))

pub reaches_decides : (g : Grammar) (a b : ℕ) → Decides (reaches g a b) (GetsTo g a b)
reaches_decides g a b = (λ e. reaches_sound g b (length g.rules) a e, λ t. reaches_all t)

first_left : {g : Grammar} {a b : ℕ} → GetsTo g a b → a ∈ lefts g.rules
first_left (one s) = step_left s
first_left (further s t) = step_left s

pub circular_decides : (g : Grammar) → Decides (circular g) ((a : ℕ) × GetsTo g a a)
circular_decides g = (
  (λ e. let (a, m, h) = any_at (λ a. reaches g a a) (lefts g.rules) e in (a, (reaches_decides g a a).0 h)),
  λ c. any_from (λ a. reaches g a a) (first_left c.1) ((reaches_decides g c.0 c.0).1 c.1),
)

-- a grammar for which the computed test says no has no cycle
pub acyclic_from : (g : Grammar) → circular g ≡ false → Acyclic g
acyclic_from g n a t = let e = (circular_decides g).1 (a, t) in let z : ◌≡◌ {A = ℕ} 0 1 = cc in omega arith

-- without a cycle a step leads to a symbol that gets to fewer of any list that has it
pub fewer : (g : Grammar) → Acyclic g → (a b : ℕ) (l : List ℕ) → Steps g a b → b ∈ l → tally (reaches g b) l < tally (reaches g a) l
fewer g n a b l s m = go (dec_lt (tally (reaches g b) l) (tally (reaches g a) l))
  where
    up : Under (reaches g b) (reaches g a)
    up c e = (reaches_decides g a c).1 (further s ((reaches_decides g b c).0 e))

    go : Dec (tally (reaches g b) l < tally (reaches g a) l) → tally (reaches g b) l < tally (reaches g a) l
    go (yes h) = h
    go (no h) = absurd (n b ((reaches_decides g b b).0 (tally_same (reaches g b) (reaches g a) m up (omega arith) ((reaches_decides g a b).1 (one s)))))
