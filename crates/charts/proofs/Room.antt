-- The items of a chart are finitely many: a bound on the length of rows in which nothing stands twice.
use Rattle.std.proofs.Common.{◌≡◌, ℕ, zero, suc, ◌*◌, ◌<◌, ◌≤◌, List, [], ◌∷◌, ◌++◌, map, length, Some, None, Option, refl, ap, ◌∙◌, subst, suc-mul, arith, length-append}
use mathlib.Core.List.Memᴰ
use native.Mathlib.Decide.{ℕ_discrete}
use lib.ListN.{length-map}
use Rattle.std.proofs.lemmas.Bool.Decides.{nat_tests}
use Rattle.indent.specs.declared.relation.Relation.{Relation}
use Rattle.indent.specs.declared.relation.Relation.TheVariants.{Equal, Greater, AtLeast, Any}
use Rattle.indent.specs.declared.summary.Summary.{Summary}
use Rattle.indent.specs.declared.summary.Summary.TheVariants.{Free, AtMost, Exact}
use Rattle.indent.specs.Summaries.{through, meet, meet_with, passed}
use Rattle.tokens.specs.declared.token.Token.{Token}
use Rattle.lists.specs.Entries.{nth}
use Rattle.lists.specs.Members.{◌∈◌, Distinct}
use Rattle.lists.proofs.Entries.{nth_below}
use Rattle.lists.proofs.Without.{no_longer}
use Rattle.grammar.specs.Grammar.{Grammar, Rule}
use Rattle.charts.specs.Chart.{Item, InChart, begin, predict, scan, complete}
use Rattle.charts.specs.Room.{room, Columns, Places}
use Rattle.charts.proofs.Stable.{within}

-- the numbers below n
abbrev below : ℕ → List ℕ
below zero = []
below (suc n) = n ∷ below n

-- the lists that f gives, one behind the other
abbrev spread : {A B : Type 0} → (A → List B) → List A → List B
spread f [] = []
spread f (x ∷ xs) = f x ++ spread f xs

-- summaries of numbers below c
abbrev summaries : ℕ → List Summary
summaries c = Free ∷ spread (λ n. AtMost n ∷ Exact n ∷ []) (below c)

-- the summary names a number below c, or none
abbrev Small : ℕ → Summary → Type 0
Small c Free = Unit {0}
Small c (AtMost n) = suc n ≤ c
Small c (Exact n) = suc n ≤ c

-- the items of a rule, a dot, a beginning and an end, with those summaries
abbrev by_summary : ℕ → ℕ → ℕ → ℕ → ℕ → List Item
by_summary c r d s e = map (λ σ. record { rule = r; dot = d; from = s; to = e; summary = σ }) (summaries c)

-- the same for each end of a list, each beginning and each dot
abbrev by_end : ℕ → List ℕ → ℕ → ℕ → ℕ → List Item
by_end c ends r d s = spread (by_summary c r d s) ends

abbrev by_start : ℕ → List ℕ → ℕ → ℕ → ℕ → List Item
by_start c ends starts r d = spread (by_end c ends r d) (below starts)

abbrev by_dot : ℕ → List ℕ → ℕ → ℕ → ℕ → List Item
by_dot c ends starts dots r = spread (by_start c ends starts r) (below dots)

-- items with a rule, a dot, a beginning and a summary below these bounds, and their end in the list
abbrev universe : ℕ → ℕ → ℕ → ℕ → List ℕ → List Item
universe rules dots starts c ends = spread (by_dot c ends starts dots) (below rules)

below_has : (n i : ℕ) → i < n → i ∈ below n
below_has zero i h = absurd (omega arith)
below_has (suc n) i h = go (ℕ_discrete i n) (λ k. below_has n i k)
  where
    go : Dec (i ≡ n) → (i < n → i ∈ below n) → i ∈ (n ∷ below n)
    go (yes e) f = Memᴰ.head e
    go (no k) f = Memᴰ.tail (f (omega arith))

below_length : (n : ℕ) → length (below n) ≡ n
below_length zero = refl
below_length (suc n) = ap suc (below_length n)

spread_has : {A B : Type 0} (f : A → List B) {x : A} {y : B} {xs : List A} → x ∈ xs → y ∈ f x → y ∈ spread f xs
spread_has f {y = y} (Memᴰ.head {xs = xs} e) h = Memᴰ.append_left (spread f xs) (subst (λ z. y ∈ f z) e h)
spread_has f (Memᴰ.tail {x = z} k) h = Memᴰ.append_right (f z) (spread_has f k h)

spread_length : {A B : Type 0} (f : A → List B) (n : ℕ) → ((x : A) → length (f x) ≡ n) → (xs : List A) → length (spread f xs) ≡ length xs * n
spread_length f n h [] = omega arith
spread_length f n h (x ∷ xs) = omega (arith, length-append (f x) (spread f xs), suc-mul (length xs) n, spread_length f n h xs, h x)

-- steps and meets make no larger number
abbrev Smalls : ℕ → Option Summary → Type 0
Smalls c None = Unit {0}
Smalls c (Some σ) = Small c σ

through_small : (c : ℕ) (r : Relation) (σ : Summary) → Small c σ → Smalls c (through r σ)
through_small c Equal σ h = h
through_small c Greater Free h = tt
through_small c Greater (AtMost m) h = grind (arith, nat_tests)
through_small c Greater (Exact m) h = grind (arith, nat_tests)
through_small c AtLeast Free h = tt
through_small c AtLeast (AtMost m) h = h
through_small c AtLeast (Exact m) h = h
through_small c Any σ h = tt

meet_small : (c : ℕ) (σ τ : Summary) → Small c σ → Small c τ → Smalls c (meet σ τ)
meet_small c Free τ h k = k
meet_small c (AtMost m) Free h k = h
meet_small c (AtMost m) (AtMost n) h k = omega arith
meet_small c (AtMost m) (Exact n) h k = grind (arith, nat_tests)
meet_small c (Exact m) Free h k = h
meet_small c (Exact m) (AtMost n) h k = grind (arith, nat_tests)
meet_small c (Exact m) (Exact n) h k = grind (arith, nat_tests)

meet_with_small : (c : ℕ) (σ : Summary) (o : Option Summary) → Small c σ → Smalls c o → Smalls c (meet_with σ o)
meet_with_small c σ None h k = tt
meet_with_small c σ (Some τ) h k = meet_small c σ τ h k

pub passed_small : (c : ℕ) (σ : Summary) (r : Relation) (τ υ : Summary) → Small c σ → Small c τ → passed σ r τ ≡ Some υ → Small c υ
passed_small c σ r τ υ h k e = subst (Smalls c) e (meet_with_small c σ (through r τ) h (through_small c r τ k))

summaries_has : (c : ℕ) (σ : Summary) → Small c σ → σ ∈ summaries c
summaries_has c Free h = Memᴰ.head refl
summaries_has c (AtMost n) h = Memᴰ.tail (spread_has (λ n. AtMost n ∷ Exact n ∷ []) (below_has c n h) (Memᴰ.head refl))
summaries_has c (Exact n) h = Memᴰ.tail (spread_has (λ n. AtMost n ∷ Exact n ∷ []) (below_has c n h) (Memᴰ.tail (Memᴰ.head refl)))

-- the bounds of a chart's items
pub rule_of_lem : {g : Grammar} {ts : List Token} {x : Item} → InChart g ts x → (p : Rule) × (nth g.rules x.rule ≡ Some p) × (x.dot ≤ length p.places)
rule_of_lem (begin r p h e) = (p, h, omega arith)
rule_of_lem (predict q d a r p h e) = (p, h, omega arith)
rule_of_lem (scan {x = x} q d a t h e k) = (a.of, a.is, nth_below a.of.places x.dot a.there)
rule_of_lem (complete {x = x} q d a c f e k) = (a.of, a.is, nth_below a.of.places x.dot a.there)

pub summary_small : {g : Grammar} {ts : List Token} (c : ℕ) → Columns c ts → {x : Item} → InChart g ts x → Small c x.summary
summary_small c b (begin r p h e) = tt
summary_small c b (predict q d a r p h e) = tt
summary_small c b (scan {x = x} {σ = σ} q d a t h e k) = passed_small c x.summary q.relation (Exact t.column) σ (summary_small c b d) (b x.to t h) k
summary_small c b (complete {x = x} {y = y} {σ = σ} q d a o f e k) = passed_small c x.summary q.relation y.summary σ (summary_small c b d) (summary_small c b o) k

pub universe_has : (g : Grammar) (ts : List Token) (n c : ℕ) → Places n g → Columns c ts → (ends : List ℕ) (x : Item) → InChart g ts x → x.to ∈ ends → x ∈ universe (length g.rules) n (suc (length ts)) c ends
universe_has g ts n c b k ends x d m =
    let (p, h, l) = rule_of_lem d in
    let w = within d in
    spread_has (by_dot c ends (suc (length ts)) n) (below_has (length g.rules) x.rule (nth_below g.rules x.rule h))
    (spread_has (by_start c ends (suc (length ts)) x.rule) (below_has n x.dot (omega (arith, b x.rule p h)))
    (spread_has (by_end c ends x.rule x.dot) (below_has (suc (length ts)) x.from (omega arith))
    (spread_has (by_summary c x.rule x.dot x.from) m
    (Memᴰ.map (λ (σ : Summary). record { rule = x.rule; dot = x.dot; from = x.from; to = x.to; summary = σ }) (summaries_has c x.summary (summary_small c k d))))))

summaries_length : (c : ℕ) → length (summaries c) ≡ suc (c * 2)
summaries_length c = omega (arith, spread_length (λ n. AtMost n ∷ Exact n ∷ []) 2 (λ x. refl) (below c), below_length c)

spread_below : {B : Type 0} (f : ℕ → List B) (k : ℕ) → ((x : ℕ) → length (f x) ≡ k) → (n : ℕ) → length (spread f (below n)) ≡ n * k
spread_below f k h n = spread_length f k h (below n) ∙ ap (λ m. m * k) (below_length n)

pub universe_length : (rules dots starts c : ℕ) (ends : List ℕ) → length (universe rules dots starts c ends) ≡ room rules dots starts c (length ends)
universe_length rules dots starts c ends =
    let k₁ : ℕ = suc (c * 2) in
    let k₂ : ℕ = length ends * k₁ in
    let k₃ : ℕ = starts * k₂ in
    let k₄ : ℕ = dots * k₃ in
    spread_below (by_dot c ends starts dots) k₄ (λ r.
    spread_below (by_start c ends starts r) k₃ (λ d.
    spread_below (by_end c ends r d) k₂ (λ s.
    spread_length (by_summary c r d s) k₁ (λ e.
    length-map (summaries c) (λ (σ : Summary). record { rule = r; dot = d; from = s; to = e; summary = σ }) ∙ summaries_length c) ends) starts) dots) rules

-- so rows of the chart in which nothing stands twice are no longer than that list
pub chart_fits : (g : Grammar) (ts : List Token) (n c : ℕ) → Places n g → Columns c ts → (R : List Item) → Distinct R → ((x : Item) → x ∈ R → InChart g ts x) → length R ≤ room (length g.rules) n (suc (length ts)) c (suc (length ts))
chart_fits g ts n c b k R d f =
    let z : ℕ = suc (length ts) in
    let h = no_longer R (universe (length g.rules) n z c (below z)) d (λ x m. universe_has g ts n c b k (below z) x (f x m) (below_has z x.to (omega (arith, within (f x m))))) in
    let v = universe_length (length g.rules) n z c (below z) in
    let w : room (length g.rules) n z c (length (below z)) ≡ room (length g.rules) n z c z = ap (λ i. room (length g.rules) n z c i) (below_length z) in
    omega arith
