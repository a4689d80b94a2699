-- What is proved of prefixes, as statements that contracts name; those over a semiring by its operations.
use Rattle.std.specs.Prelude.{◌≡◌, ℕ, suc, ◌↔◌, List, [], ◌∷◌, ◌++◌, length, Some, None, Option}
use Rattle.indent.specs.Summaries.{passed}
use Rattle.tokens.specs.declared.token.Token.{Token}
use Rattle.lists.specs.Entries.{nth}
use Rattle.lists.specs.Begins.{Begins}
use Rattle.lists.specs.Exactly.{Exactly}
use Rattle.grammar.specs.Grammar.{Grammar, Rule, Place}
use Rattle.readings.specs.Reading.{Reading, Separate}
use Rattle.charts.specs.Chart.{Item, InChart, Awaits, Finished, fresh, Root}
use Rattle.charts.specs.Links.{Linked, sub, Derives, Way, Into}
use Rattle.semiring.specs.Laws.{Ops}
use Rattle.semiring.specs.Values.{value, total}
use Rattle.sums.specs.Sums.{Sums}
use Rattle.prefixes.specs.Walk.{Opens, Walk, Completes, Settles, Nested, Held, Continued, FollowsOn, Fits, AllIn}
use Rattle.prefixes.specs.Stacks.{Row, Chain}
use Rattle.prefixes.specs.Walking.{Stack, walk}
use Rattle.prefixes.specs.Onward.{Onward, Rests, Ends, Derivative}
use Rattle.prefixes.specs.Tables.{Innermost, Tables}

-- the readings with a prefix are those that complete what the prefix leaves open
abbrev pub Prefixed : Type 0
Prefixed = (g : Grammar) (ts : List Token) (r : ℕ) (P xs : List ℕ) → (Reading g ts xs × Begins (r ∷ P) xs) ↔ Continued g ts (r ∷ P) xs

-- what a stack left by a prefix says: its items are in the chart, and the readings with the prefix are the prefix
-- followed by what completes the stack; where no stack is left, no reading has the prefix
abbrev pub Leaves : Grammar → List Token → List ℕ → Option Stack → Type 0
Leaves g ts P None = (xs : List ℕ) → Reading g ts xs → Begins P xs → ⊥
Leaves g ts P (Some s) = InChart g ts s.innermost × AllIn g ts s.outwards × ((xs : List ℕ) → (Reading g ts xs × Begins P xs) ↔ ((ys : List ℕ) × Completes g ts s.innermost s.outwards ys × (xs ≡ P ++ ys)))

-- the computed stack of a prefix says what it should
abbrev pub Walked : Type 0
Walked = (g : Grammar) (ts : List Token) → Separate g ts → (r : ℕ) (P : List ℕ) → Leaves g ts (r ∷ P) (walk g ts (r ∷ P))

-- a prefix leaves one stack, the computed one, whose items fit into one another and whose innermost item is fresh
pub record OneStack : Type 0 where
  pub computed : (g : Grammar) (ts : List Token) → Separate g ts → (P : List ℕ) (x : Item) (us : List Item) → Walk g ts P x us ↔ (walk g ts P ≡ Some (record { innermost = x; outwards = us }))
  pub nested : (g : Grammar) (ts : List Token) (P : List ℕ) (x : Item) (us : List Item) → Walk g ts P x us → Nested g x us
  pub new : (g : Grammar) (ts : List Token) (P : List ℕ) (x : Item) (us : List Item) → Walk g ts P x us → x ≡ fresh x.rule x.to

-- a prefix is itself a reading exactly if the empty list completes the stack that it leaves
abbrev pub WholePrefix : Type 0
WholePrefix = (g : Grammar) (ts : List Token) → Separate g ts → (r : ℕ) (P : List ℕ) (x : Item) (us : List Item) → Walk g ts (r ∷ P) x us → Reading g ts (r ∷ P) ↔ Completes g ts x us []

-- passing tokens and finished items changes neither what completes a stack nor which rule can be opened next
pub record Settled : Type 0 where
  pub completes : (g : Grammar) (ts : List Token) → Separate g ts → (x x' : Item) (us us' : List Item) → Settles g ts x us x' us' → (ys : List ℕ) → Completes g ts x us ys ↔ Completes g ts x' us' ys
  pub opens : (g : Grammar) (ts : List Token) → Separate g ts → (x x' : Item) (us us' : List Item) → Settles g ts x us x' us' → (r : ℕ) (y : Item) (vs : List Item) → Opens g ts r x us y vs ↔ Opens g ts r x' us' y vs

-- what a settled stack shows: an innermost item that awaits a place and passes no token is not completed by nothing; a
-- finished outermost one by nothing else, at the end; a finished one that the item outwards cannot pass by nothing at all
pub record Shown : Type 0 where
  pub held : (g : Grammar) (ts : List Token) (x : Item) (us : List Item) (q : Place) → Held g ts x q → Completes g ts x us [] → ⊥
  pub ended : (g : Grammar) (ts : List Token) (x : Item) (a : ℕ) → Finished g x a → (ys : List ℕ) → Completes g ts x [] ys → (ys ≡ []) × (x.to ≡ length ts)
  pub dead : (g : Grammar) (ts : List Token) (x y : Item) (us : List Item) (a : ℕ) (q : Place) → Finished g x a → Awaits g y q → passed y.summary q.relation x.summary ≡ None → (ys : List ℕ) → Completes g ts x (y ∷ us) ys → ⊥

-- where the stack of a prefix settles to one finished item, the prefix is a reading exactly if that item ends at the end
abbrev pub Ended : Type 0
Ended = (g : Grammar) (ts : List Token) → Separate g ts → (r : ℕ) (P : List ℕ) (x x' : Item) (us : List Item) (p : Rule) → Walk g ts (r ∷ P) x us → Settles g ts x us x' [] → nth g.rules x'.rule ≡ Some p → x'.dot ≡ length p.places → Reading g ts (r ∷ P) ↔ (x'.to ≡ length ts)

-- the rules that can come behind a prefix
abbrev pub NextRules : Type 0
NextRules = (g : Grammar) (ts : List Token) (r s : ℕ) (P : List ℕ) (x x' : Item) (us us' : List Item) (q : Place) → Separate g ts → Walk g ts (r ∷ P) x us → Settles g ts x us x' us' → Held g ts x' q → FollowsOn g ts (r ∷ P) s ↔ Fits g ts x' us' q s

-- what completes a new item and the stack outwards of it is what the levels hand to a root
abbrev pub Completed : Type 0
Completed = (g : Grammar) (ts : List Token) (r s : ℕ) (us : List Item) → InChart g ts (fresh r s) → AllIn g ts us → (ys : List ℕ) → Completes g ts (fresh r s) us ys ↔ Ends g ts (length ts) (Rests g ts r s us) ys

-- the lists of a level that begin with a rule: from within, or below an item that is reached without a rule
abbrev pub Derived : Type 0
Derived = (g : Grammar) (ts : List Token) (r s : ℕ) (us : List Item) (y w : Item) (a : ℕ) (vs : List ℕ) → Onward g ts y (Rests g ts r s us) w (a ∷ vs) ↔ Derivative g ts y (Rests g ts r s us) a w vs

-- stacks kept as rows: a number is that of one stack, and a row more makes a stack with one item more
pub record Shared : Type 0 where
  pub one : (rows : List Row) (n : ℕ) (us vs : List Item) → Chain rows n us → Chain rows n vs → us ≡ vs
  pub push : (rows : List Row) (n : ℕ) (us : List Item) (x : Item) → Chain rows n us → Chain (rows ++ record { item = x; outer = n } ∷ []) (suc (length rows)) (x ∷ us)

-- the sum over the readings with a prefix is the value of the prefix times the last table's sum over the roots
abbrev pub PrefixSums : {V : Type 0} → Ops V → Type 0
PrefixSums {V} k = (g : Grammar) (ts : List Token) (cost : ℕ → ℕ) (links : Item → List Way) (ups : Item → Item → List Item) (v : Item → V) (F : List Item) (r : ℕ) (P : List ℕ) (x : Item) (us : List Item) (hand table : Item → V)
    → Separate g ts
    → ((x : Item) → InChart g ts x → Exactly (Into g ts x) (links x))
    → ((y x : Item) → InChart g ts x → Exactly (λ (z : Item). Linked g ts x y (sub z)) (ups y x))
    → ((z : Item) → InChart g ts z → Sums k cost (Derives g ts z) (v z))
    → Exactly (Root g ts (length ts)) F
    → Walk g ts (r ∷ P) x us
    → Innermost k g ts x.rule x.to v hand
    → Tables k cost g ts links ups v hand us table
    → Sums k cost (λ xs. Reading g ts xs × Begins (r ∷ P) xs) (k.product (value k cost (r ∷ P)) (total k table F))
