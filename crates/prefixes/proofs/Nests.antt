-- The items of a stack fit into one another; which rules come next behind a prefix, and when a prefix is a whole reading.
use Rattle.std.proofs.Common.{◌≡◌, ℕ, suc, ◌↔◌, List, [], ◌∷◌, ◌++◌, length, Some, sym, refl, ap, ◌∙◌, append-nil}
use Rattle.indent.specs.declared.summary.Summary.{Summary}
use Rattle.tokens.specs.declared.token.Token.{Token}
use Rattle.lists.specs.Entries.{nth}
use Rattle.lists.specs.Begins.{Begins}
use Rattle.grammar.specs.Grammar.{Grammar, Rule, Place}
use Rattle.readings.specs.Reading.{Reading, Separate}
use Rattle.charts.specs.Chart.{Item, Finished, fresh, advanced}
use Rattle.prefixes.specs.Walk.{Opens, opens, scans, closes, Follows, none, more, Walk, walks, Completes, ends, Settles, rests, scanned, popped, Stems, Nested, Held, FollowsOn, Fits}
use Rattle.prefixes.proofs.Prefixed.{prefixed}
use Rattle.prefixes.proofs.Steps.{one_walk, walk_more, walk_last}
use Rattle.prefixes.proofs.Settling.{settle_there, settle_back, opens_there, opens_back, settled_opens, settled_end}

-- an item that has passed all its places is finished for the one outwards
pub finished_of : {g : Grammar} {x : Item} {a s : ℕ} (p : Rule) → Stems g x a s → nth g.rules x.rule ≡ Some p → x.dot ≡ length p.places → Finished g x a
finished_of p h e d = record { of = p; is = e; all = d; left = let k : p ≡ h.of = cc (e, h.is) in cc (h.left, k) }

stems_on : {g : Grammar} {x : Item} {a s : ℕ} (e : ℕ) (σ : Summary) → Stems g x a s → Stems g (advanced x e σ) a s
stems_on e σ h = record { of = h.of; is = h.is; left = h.left; from = h.from }

-- a step of the innermost item leaves the stack nested
pub nested_on : (g : Grammar) (x : Item) (us : List Item) (e : ℕ) (σ : Summary) → Nested g x us → Nested g (advanced x e σ) us
nested_on g x [] e σ h = stems_on e σ h
nested_on g x (y ∷ us) e σ h = (h.0, h.1, stems_on e σ h.2, h.3)

pub nested_opens : {g : Grammar} {ts : List Token} {r : ℕ} {x x' : Item} {us us' : List Item} → Opens g ts r x us x' us' → Nested g x us → Nested g x' us'
nested_opens (opens q p a h l) n = (q, a, record { of = p; is = h; left = l; from = refl }, n)
nested_opens {g} (scans {x} {us} {σ} q t a h l ok o) n = nested_opens o (nested_on g x us (suc x.to) σ n)
nested_opens {g} (closes {x} {y} {us} {σ} q a f e ok o) n = nested_opens o (nested_on g y us x.to σ n.3)

pub nested_settles : {g : Grammar} {ts : List Token} {x x' : Item} {us us' : List Item} → Settles g ts x us x' us' → Nested g x us → Nested g x' us'
nested_settles rests n = n
nested_settles {g} (scanned {x} {us} {σ} q t a h l ok o) n = nested_settles o (nested_on g x us (suc x.to) σ n)
nested_settles {g} (popped {x} {y} {us} {σ} q a f e ok o) n = nested_settles o (nested_on g y us x.to σ n.3)

nested_follows : {g : Grammar} {ts : List Token} {x x' : Item} {us us' : List Item} {P : List ℕ} → Follows g ts x us P x' us' → Nested g x us → Nested g x' us'
nested_follows none n = n
nested_follows (more o f) n = nested_follows f (nested_opens o n)

pub nested_walk : {g : Grammar} {ts : List Token} {x : Item} {us : List Item} {P : List ℕ} → Walk g ts P x us → Nested g x us
nested_walk (walks r p h l f) = nested_follows f (record { of = p; is = h; left = l; from = refl })

-- where the stack that a prefix leaves settles to one item that is finished at the end, the prefix is a reading
pub whole : {g : Grammar} {ts : List Token} {r : ℕ} {P : List ℕ} {x x' : Item} {us : List Item} {p : Rule} → Walk g ts (r ∷ P) x us → Settles g ts x us x' [] → nth g.rules x'.rule ≡ Some p → x'.dot ≡ length p.places → x'.to ≡ length ts → Reading g ts (r ∷ P)
whole {g} {ts} {r} {P} {x} {x'} {us} {p} w s h d e =
    let n : Stems g x' g.start 0 = nested_settles s (nested_walk w) in
    let c : Completes g ts x' [] [] = ends (finished_of p n h d) n.from e in
    ((prefixed g ts r P (r ∷ P)).1 (record { innermost = x; outwards = us; rest = []; walk = w; is = sym (append-nil (r ∷ P)); completes = settle_back s c })).0

-- and where it settles to one finished item, no other reading has that prefix
pub alone : {g : Grammar} {ts : List Token} {r a : ℕ} {P : List ℕ} {x x' : Item} {us : List Item} → Separate g ts → Walk g ts (r ∷ P) x us → Settles g ts x us x' [] → Finished g x' a → (xs : List ℕ) → Reading g ts xs → Begins (r ∷ P) xs → (xs ≡ r ∷ P) × (x'.to ≡ length ts)
alone {g} {ts} {r} {P} sep w s f xs d b =
    let k = (prefixed g ts r P xs).0 (d, b) in
    let (p, q) = one_walk sep k.walk w in
    let (e, t) = settled_end (settle_there s sep (rw (p, q) at k.completes)) f refl in
    (k.is ∙ ap (λ (ys : List ℕ). (r ∷ P) ++ ys) e ∙ append-nil (r ∷ P), t)

pub ended : {g : Grammar} {ts : List Token} {r : ℕ} {P : List ℕ} {x x' : Item} {us : List Item} {p : Rule} → Separate g ts → Walk g ts (r ∷ P) x us → Settles g ts x us x' [] → nth g.rules x'.rule ≡ Some p → x'.dot ≡ length p.places → Reading g ts (r ∷ P) ↔ (x'.to ≡ length ts)
ended {g} {ts} {r} {P} {x} {x'} {us} {p} sep w s h d = (there, λ e. whole w s h d e)
  where
    there : Reading g ts (r ∷ P) → x'.to ≡ length ts
    there k =
        let n : Stems g x' g.start 0 = nested_settles s (nested_walk w) in
        (alone sep w s (finished_of p n h d) (r ∷ P) k ([], sym (append-nil (r ∷ P)))).1

-- which rules come next
pub next_rules : {g : Grammar} {ts : List Token} {r s : ℕ} {P : List ℕ} {x x' : Item} {us us' : List Item} (q : Place) → Separate g ts → Walk g ts (r ∷ P) x us → Settles g ts x us x' us' → Held g ts x' q → FollowsOn g ts (r ∷ P) s ↔ Fits g ts x' us' q s
next_rules {g} {ts} {r} {s} {P} {x} {x'} {us} {us'} q sep w m h = (there, again)
  where
    there : FollowsOn g ts (r ∷ P) s → Fits g ts x' us' q s
    there t =
        let (xs, d, b) = t in
        let k = (prefixed g ts r (P ++ (s ∷ [])) xs).0 (d, b) in
        let (y, vs, w', o) = walk_last P k.walk in
        let (e, f) = one_walk sep w' w in
        let o' = settled_opens q h (opens_there m sep (rw (e, f) at o)) in
        record { of = o'.of; is = o'.is; left = o'.left; list = k.rest; completes = rw (o'.innermost, o'.outwards) at k.completes }

    again : Fits g ts x' us' q s → FollowsOn g ts (r ∷ P) s
    again k =
        let w' = walk_more w (opens_back m (opens q k.of h.0 k.is k.left)) in
        let c = (prefixed g ts r (P ++ (s ∷ [])) ((r ∷ (P ++ (s ∷ []))) ++ k.list)).1 (record { innermost = fresh s x'.to; outwards = x' ∷ us'; rest = k.list; walk = w'; is = refl; completes = k.completes }) in
        ((r ∷ (P ++ (s ∷ []))) ++ k.list, c.0, (k.list, refl))
