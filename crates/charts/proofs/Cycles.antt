-- An item that is made from itself has lists of any length, so no list has them all.
use Rattle.std.proofs.Common.{ℕ, zero, suc, ◌+◌, ◌<◌, ◌≤◌, ◌⊎◌, List, [], ◌∷◌, ◌++◌, length, ap, inl, inr, arith, length-append}
use mathlib.Core.List.Memᴰ
use Rattle.tokens.specs.declared.token.Token.{Token}
use Rattle.lists.specs.Exactly.{Exactly}
use Rattle.lists.specs.Members.{◌∈◌}
use Rattle.grammar.specs.Grammar.{Grammar}
use Rattle.charts.specs.Chart.{Item, InChart}
use Rattle.charts.specs.Links.{Derives, Child, leaf, sub, Linked, Uses, back, down, Reaches, one, more}
use Rattle.charts.proofs.Sound.{sound}
use Rattle.charts.proofs.Links.{shape, before_in, child_in, use_in}
use Rattle.charts.proofs.Decomposing.{past_derives, join_derives}

-- a list of x that is longer than vs, or as long and of an item whose dot is higher
record Grown (g : Grammar) (ts : List Token) (x z : Item) (vs : List ℕ) : Type 0 where
  list : List ℕ
  derives : Derives g ts x list
  longer : (length vs < length list) ⊎ ((length vs ≤ length list) × (z.dot < x.dot))

back_grown : {g : Grammar} {ts : List Token} {x y : Item} (c : Child) {us : List ℕ} → Linked g ts x y c → Derives g ts y us → Grown g ts x y us
back_grown leaf {us} l d = let s = shape l in record { list = us; derives = past_derives l d; longer = inr (omega arith) }
back_grown (sub z) {us} l d =
    let (vs, e) = sound (child_in l) in
    record { list = us ++ (z.rule ∷ vs); derives = join_derives l d e; longer = inl (rw length-append (omega arith)) }

use_grown : {g : Grammar} {ts : List Token} {x y : Item} {us : List ℕ} → Uses g ts x y → Derives g ts y us → Grown g ts x y us
use_grown (back {c} l) d = back_grown c l d
use_grown {us} (down {z} l) d =
    let (vs, e) = sound (before_in l) in
    record { list = vs ++ (z.rule ∷ us); derives = join_derives l e d; longer = inl (rw length-append (omega arith)) }

chain : {a b c x y z : ℕ} → (a < b) ⊎ ((a ≤ b) × (z < y)) → (b < c) ⊎ ((b ≤ c) × (y < x)) → (a < c) ⊎ ((a ≤ c) × (z < x))
chain (inl h) (inl k) = inl (omega arith)
chain (inl h) (inr k) = inl (omega arith)
chain (inr h) (inl k) = inl (omega arith)
chain (inr h) (inr k) = inr (omega arith)

grown : {g : Grammar} {ts : List Token} {x z : Item} {vs : List ℕ} → Reaches g ts x z → Derives g ts z vs → Grown g ts x z vs
grown (one u) d = use_grown u d
grown (more u r) d =
    let a = grown r d in
    let b = use_grown u a.derives in
    record { list = b.list; derives = b.derives; longer = chain a.longer b.longer }

-- at an item that reaches itself the list grows
again : {g : Grammar} {ts : List Token} {x : Item} {vs : List ℕ} → Reaches g ts x x → Derives g ts x vs → (xs : List ℕ) × Derives g ts x xs × (length vs < length xs)
again {x} {vs} r d = let a = grown r d in (a.list, a.derives, omega arith)

reach_in : {g : Grammar} {ts : List Token} {x y : Item} → Reaches g ts x y → InChart g ts x
reach_in (one u) = use_in u
reach_in (more u r) = use_in u

long : {g : Grammar} {ts : List Token} {x : Item} → Reaches g ts x x → (n : ℕ) → (xs : List ℕ) × Derives g ts x xs × (n ≤ length xs)
long r zero = let (xs, d) = sound (reach_in r) in (xs, d, omega arith)
long r (suc n) =
    let (xs, d, h) = long r n in
    let (ys, d', h') = again r d in
    (ys, d', omega arith)

-- an item that reaches one that reaches itself has lists of any length
pub endless : {g : Grammar} {ts : List Token} {x z : Item} → Reaches g ts z x → Reaches g ts x x → (n : ℕ) → (xs : List ℕ) × Derives g ts z xs × (n ≤ length xs)
endless p r n =
    let (xs, d, h) = long r n in
    let a = grown p d in
    (a.list, a.derives, omega arith)

sizes : List (List ℕ) → ℕ
sizes [] = 0
sizes (xs ∷ R) = length xs + sizes R

sizes_in : {xs : List ℕ} {R : List (List ℕ)} → xs ∈ R → length xs ≤ sizes R
unfolding sizes
sizes_in (Memᴰ.head e) = let h = ap length e in omega arith
sizes_in (Memᴰ.tail m) = let h = sizes_in m in omega arith

pub no_list : {g : Grammar} {ts : List Token} {x z : Item} {R : List (List ℕ)} → Reaches g ts z x → Reaches g ts x x → Exactly (Derives g ts z) R → ⊥
no_list {R} p r e =
    let (xs, d, h) = endless p r (suc (sizes R)) in
    let k = sizes_in (e.every xs d) in
    omega arith
