-- What completes a stack is what the levels hand outwards to a root.
use Rattle.std.proofs.Common.{◌≡◌, ℕ, suc, ◌↔◌, List, [], ◌∷◌, ◌++◌, length, Some, sym, refl, ap, ◌∙◌, subst, append_assoc, append-nil}
use Rattle.indent.specs.declared.summary.Summary.{Summary}
use Rattle.indent.specs.Summaries.{passed}
use Rattle.tokens.specs.declared.token.Token.{Token}
use Rattle.grammar.specs.Grammar.{Grammar, Place}
use Rattle.readings.specs.Reading.{Tree, token, rule, Trees, start, pass}
use Rattle.charts.specs.Chart.{Item, InChart, Awaits, begin, predict, scan, complete, fresh, advanced}
use Rattle.charts.specs.Links.{leaf, sub, Linked, scanned, completed, Derives}
use Rattle.charts.proofs.Sound.{awaited, token_tree, rule_tree}
use Rattle.charts.proofs.Complete.{along, derived}
use Rattle.charts.proofs.Room.{rule_of_lem}
use Rattle.charts.proofs.Links.{link_in}
use Rattle.prefixes.specs.Walk.{Opens, opens, scans, closes, Follows, none, more, Walk, walks, Completes, ends, closed, AllIn}
use Rattle.prefixes.specs.Walk.{passes as goes}
use Rattle.prefixes.specs.Onward.{Onward, hand, past, join, Closing, Begun, Handed, Rests, Ends}
use Rattle.prefixes.proofs.Prefixed.{behind}

-- the items that a prefix leaves open are in the chart
pub opens_in : {g : Grammar} {ts : List Token} {r : ℕ} {x x' : Item} {us us' : List Item} → Opens g ts r x us x' us' → InChart g ts x → AllIn g ts us → InChart g ts x' × AllIn g ts us'
opens_in (opens q p a h l) c d = (predict q c a _ p h l, (c, d))
opens_in (scans q t a h l ok o) c d = opens_in o (scan q c a t h l ok) d
opens_in (closes q a f e ok o) c d = opens_in o (complete q d.0 a c f e ok) d.1

follows_in : {g : Grammar} {ts : List Token} {x x' : Item} {us us' : List Item} {P : List ℕ} → Follows g ts x us P x' us' → InChart g ts x → AllIn g ts us → InChart g ts x' × AllIn g ts us'
follows_in none c d = (c, d)
follows_in (more o f) c d = let (c', d') = opens_in o c d in follows_in f c' d'

pub walk_in : {g : Grammar} {ts : List Token} {x : Item} {us : List Item} {P : List ℕ} → Walk g ts P x us → InChart g ts x × AllIn g ts us
walk_in (walks r p h l f) = follows_in f (begin r p h l) tt

-- the innermost item of the stack that a prefix leaves is fresh
opens_fresh : {g : Grammar} {ts : List Token} {r : ℕ} {x x' : Item} {us us' : List Item} → Opens g ts r x us x' us' → x' ≡ fresh x'.rule x'.to
opens_fresh (opens q p a h l) = refl
opens_fresh (scans q t a h l ok o) = opens_fresh o
opens_fresh (closes q a f e ok o) = opens_fresh o

follows_fresh : {g : Grammar} {ts : List Token} {x x' : Item} {us us' : List Item} {P : List ℕ} → Follows g ts x us P x' us' → x ≡ fresh x.rule x.to → x' ≡ fresh x'.rule x'.to
follows_fresh none e = e
follows_fresh (more o f) e = follows_fresh f (opens_fresh o)

pub walk_fresh : {g : Grammar} {ts : List Token} {x : Item} {us : List Item} {P : List ℕ} → Walk g ts P x us → x ≡ fresh x.rule x.to
walk_fresh (walks r p h l f) = follows_fresh f refl

-- a level: its items are in the chart, and go on by trees
record Goes (g : Grammar) (ts : List Token) (L : Item → List ℕ → Type 0) : Type 0 where
  inside : (x : Item) (cs : List ℕ) → L x cs → InChart g ts x
  step : {x : Item} {e : ℕ} {τ υ : Summary} {cs ys : List ℕ} (q : Place) → L x cs → Awaits g x q → Tree g ts q.symbol x.to e τ ys → passed x.summary q.relation τ ≡ Some υ → L (advanced x e υ) (cs ++ ys)

-- the items of a rule from a start are a level
begun_goes : {g : Grammar} {ts : List Token} (r s : ℕ) → InChart g ts (fresh r s) → Goes g ts (Begun g ts r s)
begun_goes {g} {ts} r s c = record { inside = inside; step = λ q b a t ok. record { list = record { of = b.list.of; is = b.list.is; trees = pass_one q b a t ok }; rule = b.rule; from = b.from } }
  where
    inside : (x : Item) (cs : List ℕ) → Begun g ts r s x cs → InChart g ts x
    inside x cs b = derived (rw (b.rule, b.from) c) b.list

    pass_one : {x : Item} {e : ℕ} {τ υ : Summary} {cs ys : List ℕ} (q : Place) (b : Begun g ts r s x cs) → Awaits g x q → Tree g ts q.symbol x.to e τ ys → passed x.summary q.relation τ ≡ Some υ → Trees g ts b.list.of.places (suc x.dot) x.from e υ (cs ++ ys)
    pass_one q b a t ok = pass q (awaited a b.list.is) b.list.trees t ok

onward_in : {g : Grammar} {ts : List Token} {y w : Item} {H : Item → List ℕ → Type 0} {cs : List ℕ} → Onward g ts y H w cs → InChart g ts w
onward_in (hand l h) = link_in l
onward_in (past l o) = link_in l
onward_in (join l o d e) = link_in l

onward_step : {g : Grammar} {ts : List Token} {y x : Item} {H : Item → List ℕ → Type 0} {a e : ℕ} {τ υ : Summary} {cs ys : List ℕ} → Tree g ts a x.to e τ ys → (q : Place) → a ≡ q.symbol → Onward g ts y H x cs → Awaits g x q → passed x.summary q.relation τ ≡ Some υ → Onward g ts y H (advanced x e υ) (cs ++ ys)
onward_step (token t h) q l o w ok = rw append-nil (past (scanned q (onward_in o) w t h l ok) o)
onward_step (rule r p h T) q l o w ok = join (completed q (onward_in o) w (along T r h (predict q (onward_in o) w r p h l)) (record { of = p; is = h; all = refl; left = l }) refl ok) o (record { of = p; is = h; trees = T }) refl

-- the items that an open item gets to are a level
onward_goes : {g : Grammar} {ts : List Token} (y : Item) (H : Item → List ℕ → Type 0) → Goes g ts (Onward g ts y H)
onward_goes y H = record { inside = λ x cs o. onward_in o; step = λ q o w t ok. onward_step t q refl o w ok }

-- what completes a stack is handed outwards, level by level
climb : {g : Grammar} {ts : List Token} {x : Item} {us : List Item} {bs : List ℕ} → Completes g ts x us bs → (L : Item → List ℕ → Type 0) → Goes g ts L → {cs ws : List ℕ} → AllIn g ts us → L x cs → ws ≡ cs ++ bs → Ends g ts (length ts) (Handed g ts (Closing g L) us) ws
climb {g} {x} (ends f a b) L go {cs} d l e = (x, record { inside = go.inside x cs l; finished = f; from = a; to = b }, record { symbol = g.start; finished = f; list = rw (e, append-nil) l })
climb (goes {ys} {zs} q a t ok c e) L go {cs} d l w = climb c L go d (go.step q l a t ok) (w ∙ ap (λ (us : List ℕ). cs ++ us) e ∙ sym (append_assoc cs ys zs))
climb {g} {ts} {x} (closed {y} q a f e ok c) L go {cs} d l w = climb c (Onward g ts y (Closing g L)) (onward_goes y (Closing g L)) d.1 (hand (completed q d.0 a (go.inside x cs l) f e ok) (record { symbol = q.symbol; finished = f; list = l })) w

-- what is known of the lists of a level, put before what completes its items
abbrev Undoes : Grammar → List Token → (Item → List ℕ → Type 0) → List Item → (List ℕ → Type 0) → Type 0
Undoes g ts L us Q = (x : Item) (cs bs ws : List ℕ) → L x cs → Completes g ts x us bs → ws ≡ cs ++ bs → Q ws

undo_hand : {g : Grammar} {ts : List Token} {y w z : Item} {us : List Item} {bs : List ℕ} → Linked g ts w y (sub z) → Completes g ts w us bs → Completes g ts z (y ∷ us) bs
undo_hand (completed q i a j f e ok) c = closed q a f e ok c

undo_past : {g : Grammar} {ts : List Token} {y w : Item} {us : List Item} {bs : List ℕ} → Linked g ts w y leaf → Completes g ts w us bs → Completes g ts y us bs
undo_past (scanned q i a t h k ok) c = goes q a (token_tree t h k) ok c refl

undo_join : {g : Grammar} {ts : List Token} {y w z : Item} {us : List Item} {vs bs : List ℕ} → Linked g ts w y (sub z) → Derives g ts z vs → Completes g ts w us bs → Completes g ts y us ((z.rule ∷ vs) ++ bs)
undo_join (completed q i a j f e ok) d c = goes q a (rule_tree f e d) ok c refl

undo_onward : {g : Grammar} {ts : List Token} {L : Item → List ℕ → Type 0} {us : List Item} {Q : List ℕ → Type 0} {y w : Item} {cs : List ℕ} → Onward g ts y (Closing g L) w cs → Undoes g ts L (y ∷ us) Q → (bs ws : List ℕ) → Completes g ts w us bs → ws ≡ cs ++ bs → Q ws
undo_onward (hand {z} {us = cs} l h) u bs ws c e = u z cs bs ws h.list (undo_hand l c) e
undo_onward (past l o) u bs ws c e = undo_onward o u bs ws (undo_past l c) e
undo_onward (join {z} {us = cs} {vs} l o d n) u bs ws c e = undo_onward o u ((z.rule ∷ vs) ++ bs) ws (undo_join l d c) (e ∙ ap (λ (xs : List ℕ). xs ++ bs) n ∙ append_assoc cs (z.rule ∷ vs) bs)

descend : {g : Grammar} {ts : List Token} (us : List Item) (L : Item → List ℕ → Type 0) (Q : List ℕ → Type 0) → Undoes g ts L us Q → (ws : List ℕ) → Ends g ts (length ts) (Handed g ts (Closing g L) us) ws → Q ws
descend [] L Q u ws t = let (z, r, c) = t in u z ws [] ws c.list (ends r.finished r.from r.to) (sym (append-nil ws))
descend {g} {ts} (y ∷ us) L Q u ws t = descend us (Onward g ts y (Closing g L)) Q (λ w cs bs ws o c e. undo_onward o u bs ws c e) ws t

-- what completes a new item and the stack outwards of it is what the levels hand to a root
pub completes_spec : (g : Grammar) (ts : List Token) (r s : ℕ) (us : List Item) → InChart g ts (fresh r s) → AllIn g ts us → (ys : List ℕ) → Completes g ts (fresh r s) us ys ↔ Ends g ts (length ts) (Rests g ts r s us) ys
completes_spec g ts r s us c d ys = (there, again)
  where
    begun : Begun g ts r s (fresh r s) []
    begun = record { list = begin_list c; rule = refl; from = refl }
      where
        begin_list : InChart g ts (fresh r s) → Derives g ts (fresh r s) []
        begin_list i = let (p, h, k) = rule_of_lem i in record { of = p; is = h; trees = start }

    there : Completes g ts (fresh r s) us ys → Ends g ts (length ts) (Rests g ts r s us) ys
    there k = climb k (Begun g ts r s) (begun_goes r s c) d begun refl

    undo : Undoes g ts (Begun g ts r s) us (Completes g ts (fresh r s) us)
    undo x cs bs ws b k e = subst (λ (f : Item). Completes g ts f us ws) (λ i. fresh (b.rule i) (b.from i)) (behind b.list.trees x.rule b.list.is k e)

    again : Ends g ts (length ts) (Rests g ts r s us) ys → Completes g ts (fresh r s) us ys
    again t = descend us (Begun g ts r s) (Completes g ts (fresh r s) us) undo ys t
