-- What a link says of its items: their rules, dots and places, and that an item and a child make one item.
use Rattle.std.proofs.Common.{◌≡◌, ℕ, suc, List, Some, refl}
use Rattle.indent.specs.declared.summary.Summary.{Summary}
use Rattle.indent.specs.declared.summary.Summary.TheVariants.{Exact}
use Rattle.indent.specs.Summaries.{passed}
use Rattle.tokens.specs.declared.token.Token.{Token}
use Rattle.lists.specs.Entries.{nth}
use Rattle.grammar.specs.Grammar.{Grammar, Place}
use Rattle.readings.specs.Reading.{Separate}
use Rattle.charts.specs.Chart.{Item, Awaits, Finished, InChart, scan, complete, advanced}
use Rattle.charts.specs.Links.{Child, leaf, sub, Linked, scanned, completed, Uses, back, down}

-- the items of a link are in the chart
pub link_in : {g : Grammar} {ts : List Token} {x y : Item} {c : Child} → Linked g ts x y c → InChart g ts x
link_in (scanned q c a t h k ok) = scan q c a t h k ok
link_in (completed q c a c' f e ok) = complete q c a c' f e ok

pub before_in : {g : Grammar} {ts : List Token} {x y : Item} {c : Child} → Linked g ts x y c → InChart g ts y
before_in (scanned q c a t h k ok) = c
before_in (completed q c a c' f e ok) = c

pub child_in : {g : Grammar} {ts : List Token} {x y z : Item} → Linked g ts x y (sub z) → InChart g ts z
child_in (completed q c a c' f e ok) = c'

pub use_in : {g : Grammar} {ts : List Token} {x y : Item} → Uses g ts x y → InChart g ts x
use_in (back l) = link_in l
use_in (down l) = link_in l

pub used_in : {g : Grammar} {ts : List Token} {x y : Item} → Uses g ts x y → InChart g ts y
used_in (back l) = before_in l
used_in (down l) = child_in l

-- the items of a link have one rule and start, and dots one apart
pub record Shape (x y : Item) : Type 0 where
  pub rule : y.rule ≡ x.rule
  pub dot : suc y.dot ≡ x.dot
  pub from : y.from ≡ x.from

pub shape : {g : Grammar} {ts : List Token} {x y : Item} {c : Child} → Linked g ts x y c → Shape x y
shape (scanned q c a t h k ok) = record { rule = refl; dot = refl; from = refl }
shape (completed q c a c' f e ok) = record { rule = refl; dot = refl; from = refl }

-- the place that a link passes with a finished item
pub record Passed (g : Grammar) (ts : List Token) (w y z : Item) : Type 0 where
  pub place : Place
  pub awaits : Awaits g y place
  pub finished : Finished g z place.symbol
  pub from : z.from ≡ y.to
  pub sum : Summary
  pub ok : passed y.summary place.relation z.summary ≡ Some sum
  pub is : w ≡ advanced y z.to sum

pub passes : {g : Grammar} {ts : List Token} {w y z : Item} → Linked g ts w y (sub z) → Passed g ts w y z
passes (completed {σ} q c a c' f e ok) = record { place = q; awaits = a; finished = f; from = e; sum = σ; ok = ok; is = refl }

-- the place that a link passes with a token
pub record TokenPassed (g : Grammar) (ts : List Token) (w y : Item) : Type 0 where
  pub place : Place
  pub awaits : Awaits g y place
  pub what : Token
  pub there : nth ts y.to ≡ Some what
  pub kind : what.kind ≡ place.symbol
  pub sum : Summary
  pub ok : passed y.summary place.relation (Exact what.column) ≡ Some sum
  pub is : w ≡ advanced y (suc y.to) sum

pub token_passes : {g : Grammar} {ts : List Token} {w y : Item} → Linked g ts w y leaf → TokenPassed g ts w y
token_passes (scanned {σ} q c a t h k ok) = record { place = q; awaits = a; what = t; there = h; kind = k; sum = σ; ok = ok; is = refl }

pub same_place : {g : Grammar} {y y' : Item} {q q' : Place} → Awaits g y q → Awaits g y' q' → y ≡ y' → q ≡ q'
same_place a b e = let o : a.of ≡ b.of = cc (a.is, b.is, e) in cc (a.there, b.there, e, o)

-- an item awaits one place
pub one_place : {g : Grammar} {x : Item} {q q' : Place} → Awaits g x q → Awaits g x q' → q ≡ q'
one_place a b = same_place a b refl

-- finished items with one rule have one dot
pub one_dot : {g : Grammar} {z z' : Item} {a a' : ℕ} → Finished g z a → Finished g z' a' → z.rule ≡ z'.rule → z.dot ≡ z'.dot
one_dot f f' e = let o : f.of ≡ f'.of = cc (f.is, f'.is, e) in cc (f.all, f'.all)

-- an item and a child make one item
pub same_made : {g : Grammar} {ts : List Token} {w w' y y' z z' : Item} → Linked g ts w y (sub z) → Linked g ts w' y' (sub z') → y ≡ y' → z ≡ z' → w ≡ w'
same_made {w} {w'} {y} {y'} {z} {z'} l l' e h =
    let a = passes l in
    let b = passes l' in
    let q = same_place a.awaits b.awaits e in
    let s : a.sum ≡ b.sum = cc (a.ok, b.ok, q, e, h) in
    cc (a.is, b.is, s, e, h)

pub same_scanned : {g : Grammar} {ts : List Token} {w w' y y' : Item} → Linked g ts w y leaf → Linked g ts w' y' leaf → y ≡ y' → w ≡ w'
same_scanned {w} {w'} {y} {y'} l l' e =
    let a = token_passes l in
    let b = token_passes l' in
    let q = same_place a.awaits b.awaits e in
    let t : a.what ≡ b.what = cc (a.there, b.there, e) in
    let s : a.sum ≡ b.sum = cc (a.ok, b.ok, q, e, t) in
    cc (a.is, b.is, s, e)

-- no place is passed both with a token and with a finished item
pub never_both : {g : Grammar} {ts : List Token} {w w' y y' z : Item} → Separate g ts → Linked g ts w y leaf → Linked g ts w' y' (sub z) → y ≡ y' → ⊥
never_both {y} {z} separate l l' e =
    let a = token_passes l in
    let b = passes l' in
    let q = same_place a.awaits b.awaits e in
    separate a.what y.to z.rule b.finished.of a.there b.finished.is (cc (a.kind, b.finished.left, q))
