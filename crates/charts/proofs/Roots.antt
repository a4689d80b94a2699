-- Readings are the lists of the finished items of the start symbol over all tokens.
use Rattle.std.proofs.Common.{◌≡◌, ℕ, ◌↔◌, List, [], length, Some, refl}
use Rattle.indent.specs.declared.summary.Summary.{Summary}
use Rattle.tokens.specs.declared.token.Token.{Token}
use Rattle.lists.specs.Entries.{nth}
use Rattle.grammar.specs.Grammar.{Grammar}
use Rattle.readings.specs.Reading.{Reading, Tree, token, rule, Whole, Separate, Headed}
use Rattle.readings.proofs.Adequacy.{reading_spec}
use Rattle.readings.proofs.Unique.{no_start}
use Rattle.charts.specs.Chart.{Item, Root}
use Rattle.charts.specs.Links.{Written, Unique}
use Rattle.charts.proofs.Complete.{item, accepts}
use Rattle.charts.proofs.Sound.{rule_tree}
use Rattle.charts.proofs.Links.{one_dot}

tree_root : {g : Grammar} {ts : List Token} {a e : ℕ} {σ : Summary} {xs : List ℕ} → Tree g ts a 0 e σ xs → ((t : Token) (i : ℕ) → nth ts i ≡ Some t → t.kind ≡ g.start → ⊥) → a ≡ g.start → (z : Item) × Root g ts e z × Written g ts z xs
tree_root (token t h) apart l = absurd (apart t 0 h l)
tree_root {e} {σ} (rule {xs} r p h T) apart l =
    (item r (length p.places) 0 e σ, record { inside = accepts h l T; finished = record { of = p; is = h; all = refl; left = l }; from = refl; to = refl }, (xs, record { of = p; is = h; trees = T }, refl))

-- a tree of the start symbol is one that a root stands for
pub root_of : {g : Grammar} {ts : List Token} → Separate g ts → Headed g → {e : ℕ} {xs : List ℕ} → Whole g ts e xs → (z : Item) × Root g ts e z × Written g ts z xs
root_of {g} {ts} separate headed w = tree_root w.1 (no_start g ts separate headed) refl

pub whole_of : {g : Grammar} {ts : List Token} {e : ℕ} {z : Item} {xs : List ℕ} → Root g ts e z → Written g ts z xs → Whole g ts e xs
whole_of {g} {ts} {e} {z} {xs} r t = let (vs, d, k) = t in (z.summary, rw (k, ← r.to) (rule_tree r.finished r.from d))

pub roots_spec : (g : Grammar) (ts : List Token) → Separate g ts → Headed g → (xs : List ℕ) → Reading g ts xs ↔ ((z : Item) × Root g ts (length ts) z × Written g ts z xs)
roots_spec g ts separate headed xs = (λ d. root_of separate headed ((reading_spec g ts xs).0 d), λ w. (reading_spec g ts xs).1 (whole_of w.1 w.2))

-- a list shows the root that it is of
pub one_root : {g : Grammar} {ts : List Token} → Unique g ts → {e : ℕ} {z z' : Item} {xs : List ℕ} → Root g ts e z → Root g ts e z' → Written g ts z xs → Written g ts z' xs → z ≡ z'
one_root unique {e} {z} {z'} {xs} a b t t' =
    let (vs, d, k) = t in
    let (vs', d', k') = t' in
    let r : z.rule ≡ z'.rule = cc (k, k') in
    let h : vs ≡ vs' = cc (k, k') in
    (unique z z' vs vs' [] [] d d' r (one_dot a.finished b.finished r) (cc) (cc)).0
