-- What the computed stack of a prefix says of the readings that begin with it.
use Rattle.std.proofs.Common.{◌≡◌, ℕ, ◌↔◌, List, [], ◌∷◌, ◌++◌, Some, None, Option, sym, ◌∙◌, append-nil}
use mathlib.Core.List.{append_cancel_left}
use Rattle.tokens.specs.declared.token.Token.{Token}
use Rattle.lists.specs.Begins.{Begins}
use Rattle.grammar.specs.Grammar.{Grammar}
use Rattle.readings.specs.Reading.{Reading, Separate}
use Rattle.charts.specs.Chart.{Item}
use Rattle.prefixes.specs.Walk.{Walk, Completes}
use Rattle.prefixes.specs.Walking.{Stack, walk}
use Rattle.prefixes.specs.Claims.{Leaves}
use Rattle.prefixes.proofs.Prefixed.{prefixed}
use Rattle.prefixes.proofs.Steps.{one_walk}
use Rattle.prefixes.proofs.Computed.{LeftBy, walk_left}
use Rattle.prefixes.proofs.Climbing.{walk_in}

module _ (g : Grammar) (ts : List Token) (separate : Separate g ts) (r : ℕ) (P : List ℕ) where
  pub walk_readings : (x : Item) (us : List Item) → Walk g ts (r ∷ P) x us → (xs : List ℕ) → (Reading g ts xs × Begins (r ∷ P) xs) ↔ ((ys : List ℕ) × Completes g ts x us ys × (xs ≡ (r ∷ P) ++ ys))
  walk_readings x us w xs = (there, again)
    where
      there : Reading g ts xs × Begins (r ∷ P) xs → (ys : List ℕ) × Completes g ts x us ys × (xs ≡ (r ∷ P) ++ ys)
      there d =
          let k = (prefixed g ts r P xs).0 d in
          let (p, q) = one_walk separate k.walk w in
          (k.rest, rw (p, q) at k.completes, k.is)

      again : (ys : List ℕ) × Completes g ts x us ys × (xs ≡ (r ∷ P) ++ ys) → Reading g ts xs × Begins (r ∷ P) xs
      again t = (prefixed g ts r P xs).1 (record { innermost = x; outwards = us; rest = t.0; walk = w; is = t.2; completes = t.1 })

  leaves_of : (m : Option Stack) → LeftBy g ts separate (r ∷ P) m → Leaves g ts (r ∷ P) m
  leaves_of None f = λ xs d b. let k = (prefixed g ts r P xs).0 (d, b) in f k.innermost k.outwards k.walk
  leaves_of (Some s) w = let (c, d) = walk_in w in (c, d, walk_readings s.innermost s.outwards w)

  pub leaves : Leaves g ts (r ∷ P) (walk g ts (r ∷ P))
  leaves = leaves_of (walk g ts (r ∷ P)) (walk_left g ts separate (r ∷ P))

  -- a prefix is a reading where nothing has to stand behind it
  pub whole_spec : (x : Item) (us : List Item) → Walk g ts (r ∷ P) x us → Reading g ts (r ∷ P) ↔ Completes g ts x us []
  whole_spec x us w = (there, again)
    where
      there : Reading g ts (r ∷ P) → Completes g ts x us []
      there d =
          let (ys, c, e) = (walk_readings x us w (r ∷ P)).0 (d, ([], sym (append-nil (r ∷ P)))) in
          let n : ys ≡ [] = append_cancel_left (r ∷ P) ys [] (sym e ∙ sym (append-nil (r ∷ P))) in
          rw n at c

      again : Completes g ts x us [] → Reading g ts (r ∷ P)
      again c = ((walk_readings x us w (r ∷ P)).1 ([], c, sym (append-nil (r ∷ P)))).0
