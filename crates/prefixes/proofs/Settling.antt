-- Passing tokens and finished items changes neither what comes next nor what completes the stack; so a stack is settled
-- once, and then its innermost item shows what comes next.
use Rattle.std.proofs.Common.{◌≡◌, ℕ, suc, ◌⊎◌, ◌↔◌, List, [], ◌∷◌, ◌++◌, length, Some, None, sym, refl, ap, ◌∙◌, inl, inr, arith}
use Rattle.indent.specs.declared.summary.Summary.{Summary}
use Rattle.indent.specs.declared.summary.Summary.TheVariants.{Exact}
use Rattle.indent.specs.Summaries.{passed}
use Rattle.tokens.specs.declared.token.Token.{Token}
use Rattle.lists.specs.Entries.{nth}
use Rattle.grammar.specs.Grammar.{Grammar, Place}
use Rattle.readings.specs.Reading.{Tree, token, rule, Separate}
use Rattle.charts.specs.Chart.{Item, Awaits, Finished, advanced}
use Rattle.charts.proofs.Sound.{token_tree}
use Rattle.charts.proofs.Links.{one_place}
use Rattle.prefixes.specs.Walk.{Opens, scans, closes, Completes, ends, passes, closed, Settles, rests, scanned, popped, Held}
use Rattle.prefixes.proofs.Steps.{not_both, Opened, Scans, awaiting, finishing}

-- where a token of the awaited symbol stands, the tree is that token
one_token : {g : Grammar} {ts : List Token} {a s e : ℕ} {τ : Summary} {ys : List ℕ} → Tree g ts a s e τ ys → Separate g ts → (t : Token) → nth ts s ≡ Some t → t.kind ≡ a → (e ≡ suc s) × (τ ≡ Exact t.column) × (ys ≡ [])
one_token (token t' h') sep t h k = let e : t' ≡ t = cc in (refl, cc, refl)
one_token {s} (rule r p h' T) sep t h k = absurd (sep t s r p h h' k)

scan_keeps : {g : Grammar} {ts : List Token} {x : Item} {us : List Item} {ws : List ℕ} → Completes g ts x us ws → Separate g ts → {σ : Summary} (q : Place) (t : Token) → Awaits g x q → nth ts x.to ≡ Some t → t.kind ≡ q.symbol → passed x.summary q.relation (Exact t.column) ≡ Some σ → Completes g ts (advanced x (suc x.to) σ) us ws
scan_keeps (ends f a b) sep q t w h k ok = absurd (not_both w f)
scan_keeps {g} {ts} {x} {us} {ws} (passes {υ} {ys} {zs} q' a' t' ok' c e) sep {σ} q t w h k ok =
    let eq = one_place a' w in
    let (ee, et, ey) = one_token t' sep t h (cc) in
    let es : υ ≡ σ = cc in
    let ez : zs ≡ ws = sym (e ∙ ap (λ (vs : List ℕ). vs ++ zs) ey) in
    rw (ee, es, ez) at c
scan_keeps (closed q' a' f e ok' c) sep q t w h k ok = absurd (not_both w f)

close_keeps : {g : Grammar} {ts : List Token} {x : Item} {vs : List Item} {ws : List ℕ} → Completes g ts x vs ws → {y : Item} {us : List Item} {σ : Summary} (q : Place) → vs ≡ y ∷ us → Awaits g y q → Finished g x q.symbol → passed y.summary q.relation x.summary ≡ Some σ → Completes g ts (advanced y x.to σ) us ws
close_keeps (ends f a b) q v w f' ok = let z : ◌≡◌ {A = ℕ} 0 1 = cc in absurd (omega arith)
close_keeps (passes q' a' t' ok' c e) q v w f' ok = absurd (not_both a' f')
close_keeps (closed {y = y'} {us = us'} {σ = σ'} q' a' f e ok' c) {y} {us} {σ} q v w f' ok =
    let ey : y' ≡ y = cc in
    let eu : us' ≡ us = cc in
    let eq = one_place (rw ey at a') w in
    let es : σ' ≡ σ = cc in
    rw (ey, eu, es) at c

-- what finishes the stack is kept
pub settle_there : {g : Grammar} {ts : List Token} {x x' : Item} {us us' : List Item} → Settles g ts x us x' us' → Separate g ts → {ws : List ℕ} → Completes g ts x us ws → Completes g ts x' us' ws
settle_there rests sep c = c
settle_there (scanned q t a h k ok s) sep c = settle_there s sep (scan_keeps c sep q t a h k ok)
settle_there (popped q a f e ok s) sep c = settle_there s sep (close_keeps c q refl a f ok)

pub settle_back : {g : Grammar} {ts : List Token} {x x' : Item} {us us' : List Item} → Settles g ts x us x' us' → {ws : List ℕ} → Completes g ts x' us' ws → Completes g ts x us ws
settle_back rests c = c
settle_back (scanned q t a h k ok s) c = passes q a (token_tree t h k) ok (settle_back s c) refl
settle_back (popped q a f e ok s) c = closed q a f e ok (settle_back s c)

pub settle_completes : {g : Grammar} {ts : List Token} {x x' : Item} {us us' : List Item} (ws : List ℕ) → Separate g ts → Settles g ts x us x' us' → Completes g ts x us ws ↔ Completes g ts x' us' ws
settle_completes ws sep s = (λ c. settle_there s sep c, λ c. settle_back s c)

-- what comes next is kept
pub opens_there : {g : Grammar} {ts : List Token} {x x' : Item} {us us' : List Item} → Settles g ts x us x' us' → Separate g ts → {r : ℕ} {y : Item} {vs : List Item} → Opens g ts r x us y vs → Opens g ts r x' us' y vs
opens_there rests sep o = o
opens_there {g} {ts} {x} {us} (scanned {σ} q t a h k ok s) sep {r} {y} {vs} o = opens_there s sep (go (awaiting o q a))
  where
    go : Opened g r x us q y vs ⊎ Scans g ts r x us q y vs → Opens g ts r (advanced x (suc x.to) σ) us y vs
    go (inl n) = absurd (sep t x.to r n.of h n.is (k ∙ sym n.left))
    go (inr n) =
        let et : n.next ≡ t = cc (h, n.is) in
        let es : n.after ≡ σ = cc (ok, n.ok, et) in
        rw es at n.then
opens_there (popped {y} {us} {σ} q a f e ok s) sep o =
    let k = finishing o q.symbol f in
    let ey : k.outer ≡ y = cc k.is in
    let eu : k.others ≡ us = cc k.is in
    let eq : k.place ≡ q = one_place (rw ey at k.awaits) a in
    let es : k.after ≡ σ = cc (ok, k.ok, ey, eq) in
    opens_there s sep (rw (es, ey, eu) at k.then)

pub opens_back : {g : Grammar} {ts : List Token} {x x' : Item} {us us' : List Item} → Settles g ts x us x' us' → {r : ℕ} {y : Item} {vs : List Item} → Opens g ts r x' us' y vs → Opens g ts r x us y vs
opens_back rests o = o
opens_back (scanned q t a h k ok s) o = scans q t a h k ok (opens_back s o)
opens_back (popped q a f e ok s) o = closes q a f e ok (opens_back s o)

pub settle_opens : {g : Grammar} {ts : List Token} {x x' : Item} {us us' : List Item} (r : ℕ) (y : Item) (vs : List Item) → Separate g ts → Settles g ts x us x' us' → Opens g ts r x us y vs ↔ Opens g ts r x' us' y vs
settle_opens r y vs sep s = (λ o. opens_there s sep o, λ o. opens_back s o)

-- an innermost item that awaits a symbol and cannot pass a token: the rules of that symbol come next, and no others, and
-- the stack is not completed by nothing
pub settled_opens : {g : Grammar} {ts : List Token} {x : Item} {us : List Item} (q : Place) → Held g ts x q → {r : ℕ} {y : Item} {vs : List Item} → Opens g ts r x us y vs → Opened g r x us q y vs
settled_opens {g} {ts} {x} {us} q n {r} {y} {vs} o = go (awaiting o q n.0)
  where
    go : Opened g r x us q y vs ⊎ Scans g ts r x us q y vs → Opened g r x us q y vs
    go (inl k) = k
    go (inr k) = absurd (n.1 k.next k.after k.is k.kind k.ok)

no_token : {g : Grammar} {ts : List Token} {a s e : ℕ} {τ : Summary} {ys : List ℕ} → Tree g ts a s e τ ys → ys ≡ [] → (t : Token) × (nth ts s ≡ Some t) × (t.kind ≡ a) × (τ ≡ Exact t.column)
no_token (token t h) e = (t, h, refl, refl)
no_token (rule r p h T) e = let z : ◌≡◌ {A = ℕ} 0 1 = cc in absurd (omega arith)

first_nil : (ys zs : List ℕ) → ys ++ zs ≡ [] → ys ≡ []
first_nil [] zs e = refl
first_nil (y ∷ ys) zs e = let z : ◌≡◌ {A = ℕ} 0 1 = cc in absurd (omega arith)

pub settled_open : {g : Grammar} {ts : List Token} {x : Item} {us : List Item} {ws : List ℕ} → Completes g ts x us ws → (q : Place) → Held g ts x q → ws ≡ [] → ⊥
settled_open (ends f a b) q n e = not_both n.0 f
settled_open (passes {υ} {ys} {zs} q' a t ok c w') q n e =
    let eq = one_place a n.0 in
    let (t', h, k, eτ) = no_token t (first_nil ys zs (sym w' ∙ e)) in
    n.1 t' υ h (cc) (cc)
settled_open (closed q' a f e' ok c) q n e = not_both n.0 f

-- an outermost item that is finished: nothing comes next, and nothing finishes the stack but the empty list
pub settled_end : {g : Grammar} {ts : List Token} {x : Item} {vs : List Item} {ws : List ℕ} {a : ℕ} → Completes g ts x vs ws → Finished g x a → vs ≡ [] → (ws ≡ []) × (x.to ≡ length ts)
settled_end (ends f a b) f' e = (refl, b)
settled_end (passes q a t ok c w) f' e = absurd (not_both a f')
settled_end (closed q a f e' ok c) f' e = let z : ◌≡◌ {A = ℕ} 0 1 = cc in absurd (omega arith)

-- a finished item that the one outwards cannot pass: nothing finishes the stack
pub settled_dead : {g : Grammar} {ts : List Token} {x : Item} {vs : List Item} {ws : List ℕ} {a : ℕ} → Completes g ts x vs ws → Finished g x a → {y : Item} {us : List Item} (q : Place) → vs ≡ y ∷ us → Awaits g y q → passed y.summary q.relation x.summary ≡ None → ⊥
settled_dead (ends f a b) f' q v w n = let z : ◌≡◌ {A = ℕ} 0 1 = cc in omega arith
settled_dead (passes q' a t ok c e) f' q v w n = not_both a f'
settled_dead (closed {y = y'} q' a f e ok c) f' {y} q v w n =
    let ey : y' ≡ y = cc in
    let eq = one_place (rw ey at a) w in
    let z : ◌≡◌ {A = ℕ} 0 1 = cc in
    omega arith
