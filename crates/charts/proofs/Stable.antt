-- The chart's items that end within the first k tokens are the chart of those k tokens, and so are its links.
use Rattle.std.proofs.Common.{◌≡◌, ℕ, ◌<◌, ◌≤◌, ◌↔◌, List, ◌++◌, length, take, Some, sym, ◌∙◌, arith, length-take}
use Rattle.tokens.specs.declared.token.Token.{Token}
use Rattle.lists.specs.Entries.{nth}
use Rattle.lists.proofs.Entries.{nth_below, nth_more, nth_take}
use Rattle.grammar.specs.Grammar.{Grammar}
use Rattle.charts.specs.Chart.{Item, InChart, begin, predict, scan, complete}
use Rattle.charts.specs.Links.{Child, Linked, scanned, completed}
use Rattle.charts.proofs.Links.{link_in}

pub within : {g : Grammar} {ts : List Token} {x : Item} → InChart g ts x → (x.from ≤ x.to) × (x.to ≤ length ts)
within (begin r p h e) = omega arith
within (predict q d a r p h e) = let b = within d in omega arith
within {ts = ts} (scan {x = x} q d a t h e k) = let b = within d in omega (arith, nth_below ts x.to h)
within (complete q d a c f e k) = let b = within d in let b' = within c in omega arith

-- an item is one of any tokens that have what its own tokens have before its end
pub carried : {g : Grammar} {ts : List Token} {x : Item} → InChart g ts x → (vs : List Token) → ((i : ℕ) (t : Token) → i < x.to → nth ts i ≡ Some t → nth vs i ≡ Some t) → InChart g vs x
carried (begin r p h e) vs f = begin r p h e
carried (predict q d a r p h e) vs f = predict q (carried d vs f) a r p h e
carried (scan {x = x} q d a t h e k) vs f = scan q (carried d vs (λ i u b. f i u (omega arith))) a t (f x.to t (omega arith) h) e k
carried (complete q d a c l e k) vs f = complete q (carried d vs (λ i u b. f i u (omega (arith, within c)))) a (carried c vs f) l e k

pub stays : {g : Grammar} {ts : List Token} {x : Item} → InChart g ts x → (us : List Token) → InChart g (ts ++ us) x
stays {ts = ts} d us = carried d (ts ++ us) (λ i t b h. nth_more ts us i (nth_below ts i h) ∙ h)

pub cut : {g : Grammar} (ts : List Token) (k : ℕ) {x : Item} → InChart g ts x → x.to ≤ k → InChart g (take k ts) x
cut ts k d h = carried d (take k ts) (λ i t b e. nth_take k ts i (omega arith) ∙ e)

pub uncut : {g : Grammar} (ts : List Token) (k : ℕ) {x : Item} → InChart g (take k ts) x → InChart g ts x × (x.to ≤ k)
uncut ts k {x = x} d =
    let b = within d in
    let c : x.to ≤ k = omega (arith, length-take k ts) in
    (carried d ts (λ i t l e. sym (nth_take k ts i (omega arith)) ∙ e), c)

pub cut_spec : (g : Grammar) (ts : List Token) (k : ℕ) (x : Item) → InChart g (take k ts) x ↔ (InChart g ts x × (x.to ≤ k))
cut_spec g ts k x = (λ d. uncut ts k d, λ c. cut ts k c.0 c.1)

-- a link is one of the first k tokens exactly if its item ends among them
link_carried : {g : Grammar} {ts : List Token} {x y : Item} {c : Child} → Linked g ts x y c → (vs : List Token) → ((i : ℕ) (t : Token) → i < x.to → nth ts i ≡ Some t → nth vs i ≡ Some t) → Linked g vs x y c
link_carried (scanned {y} q d a t h e k) vs f = scanned q (carried d vs (λ i u b. f i u (omega arith))) a t (f y.to t (omega arith) h) e k
link_carried (completed q d a c l e k) vs f = completed q (carried d vs (λ i u b. f i u (omega (arith, within c)))) a (carried c vs f) l e k

pub link_stays : {g : Grammar} {ts : List Token} {x y : Item} {c : Child} → Linked g ts x y c → (us : List Token) → Linked g (ts ++ us) x y c
link_stays {ts = ts} l us = link_carried l (ts ++ us) (λ i t b h. nth_more ts us i (nth_below ts i h) ∙ h)

pub link_cut : {g : Grammar} (ts : List Token) (k : ℕ) {x y : Item} {c : Child} → Linked g ts x y c → x.to ≤ k → Linked g (take k ts) x y c
link_cut ts k l h = link_carried l (take k ts) (λ i t b e. nth_take k ts i (omega arith) ∙ e)

pub link_uncut : {g : Grammar} (ts : List Token) (k : ℕ) {x y : Item} {c : Child} → Linked g (take k ts) x y c → Linked g ts x y c × (x.to ≤ k)
link_uncut ts k {x = x} l =
    let (d, b) = uncut ts k (link_in l) in
    (link_carried l ts (λ i t h e. sym (nth_take k ts i (omega arith)) ∙ e), b)

pub link_cut_spec : (g : Grammar) (ts : List Token) (k : ℕ) (x y : Item) (c : Child) → Linked g (take k ts) x y c ↔ (Linked g ts x y c × (x.to ≤ k))
link_cut_spec g ts k x y c = (λ l. link_uncut ts k l, λ p. link_cut ts k p.0 p.1)
