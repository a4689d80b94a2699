-- Each item of the chart has a partial derivation.
use Rattle.std.proofs.Common.{◌≡◌, ℕ, suc, List, [], ◌∷◌, ◌++◌, length, Some, subst}
use Rattle.indent.specs.declared.summary.Summary.{Summary}
use Rattle.indent.specs.declared.summary.Summary.TheVariants.{Exact}
use Rattle.indent.specs.Summaries.{passed}
use Rattle.tokens.specs.declared.token.Token.{Token}
use Rattle.lists.specs.Entries.{nth}
use Rattle.grammar.specs.Grammar.{Grammar, Rule, Place}
use Rattle.readings.specs.Reading.{Tree, Trees, token, rule, start, pass}
use Rattle.charts.specs.Chart.{Item, Awaits, Finished, InChart, begin, predict, scan, complete, advanced}
use Rattle.charts.specs.Links.{Derives}

-- the rule of an item is the one that its number names
pub awaited : {g : Grammar} {x : Item} {q : Place} {p : Rule} → Awaits g x q → nth g.rules x.rule ≡ Some p → nth p.places x.dot ≡ Some q
awaited {g} {x} {q} {p} a h = let e : a.of ≡ p = cc (a.is, h) in rw e at a.there

pub token_tree : {g : Grammar} {ts : List Token} {a s : ℕ} (t : Token) → nth ts s ≡ Some t → t.kind ≡ a → Tree g ts a s (suc s) (Exact t.column) []
token_tree {g} {ts} {a} {s} t h e = subst (λ (b : ℕ). Tree g ts b s (suc s) (Exact t.column) []) e (token t h)

pub rule_tree : {g : Grammar} {ts : List Token} {a m : ℕ} {y : Item} {xs : List ℕ} → Finished g y a → y.from ≡ m → Derives g ts y xs → Tree g ts a m y.to y.summary (y.rule ∷ xs)
rule_tree {g} {ts} {a} {m} {y} {xs} f e d =
    let o : f.of ≡ d.of = cc (f.is, d.is) in
    let l : d.of.left ≡ a = cc (f.left, o) in
    let k : y.dot ≡ length d.of.places = rw o at f.all in
    let t : Trees g ts d.of.places (length d.of.places) m y.to y.summary xs = rw (k, e) at d.trees in
    subst (λ (b : ℕ). Tree g ts b m y.to y.summary (y.rule ∷ xs)) l (rule y.rule d.of d.is t)

pub scan_derives : {g : Grammar} {ts : List Token} {x : Item} {σ : Summary} {xs : List ℕ} (q : Place) → Awaits g x q → (t : Token) → nth ts x.to ≡ Some t → t.kind ≡ q.symbol → passed x.summary q.relation (Exact t.column) ≡ Some σ → Derives g ts x xs → Derives g ts (advanced x (suc x.to) σ) (xs ++ [])
scan_derives q a t h k ok d = record { of = d.of; is = d.is; trees = pass q (awaited a d.is) d.trees (token_tree t h k) ok }

pub complete_derives : {g : Grammar} {ts : List Token} {x y : Item} {σ : Summary} {xs ys : List ℕ} (q : Place) → Awaits g x q → Finished g y q.symbol → y.from ≡ x.to → passed x.summary q.relation y.summary ≡ Some σ → Derives g ts x xs → Derives g ts y ys → Derives g ts (advanced x y.to σ) (xs ++ (y.rule ∷ ys))
complete_derives q a f e ok d c = record { of = d.of; is = d.is; trees = pass q (awaited a d.is) d.trees (rule_tree f e c) ok }

pub sound : {g : Grammar} {ts : List Token} {x : Item} → InChart g ts x → (xs : List ℕ) × Derives g ts x xs
sound (begin r p h l) = ([], record { of = p; is = h; trees = start })
sound (predict q c a r p h l) = ([], record { of = p; is = h; trees = start })
sound (scan q c a t h k ok) = let (xs, d) = sound c in (xs ++ [], scan_derives q a t h k ok d)
sound (complete {y} q c a c' f e ok) = let (xs, d) = sound c in let (ys, d') = sound c' in (xs ++ (y.rule ∷ ys), complete_derives q a f e ok d d')
