-- Where the least reading after a list leaves it.
use Rattle.std.proofs.Common.{◌≡◌, ℕ, ◌+◌, ◌-◌, ◌<◌, ◌≤◌, ◌⊎◌, List, [], ◌∷◌, ◌++◌, length, get_or, take, drop, sym, refl, ap, ◌∙◌, subst, inl, inr, arith}
use Rattle.std.specs.List.{push}
use Rattle.std.proofs.lemmas.List.{append_assoc, append-nil, take_all, take_at, take_more, take-take, drop_more, take-append-drop, length_push, length-take, length-take-le, get_or_push, get_or-take}
use Rattle.lists.specs.Begins.{Begins}
use Rattle.readings.specs.Order.{Before}
use Rattle.readings.proofs.Ordering.{before_irreflexive, before_extension}
use Rattle.lister.specs.Least.{Last, First}
use Rattle.lister.specs.Cursors.{Lowest, Nowhere}
use Rattle.lister.specs.Branches.{Misses, Leads}
use Rattle.lister.proofs.Off.{Off, off_before, off_at, off_last, before_cases, before_off}
use Rattle.lister.proofs.Firsts.{off_begins, lowest_cases}

-- the least reading behind p and the lowest entry is before every other reading that goes on behind p
first_behind : (R : List ℕ → Type 0) (p r x ys : List ℕ) (low v k : ℕ) → Lowest R p low v → First R (p ++ v ∷ []) r → low ≤ k → R x → x ≡ p ++ k ∷ ys → (x ≡ r) ⊎ Before r x
first_behind R p r x ys low v k w f l rx e = go (subst (λ (t : List ℕ). Begins (p ++ v ∷ []) t ⊎ Off (p ++ v ∷ []) t) (sym e) (lowest_cases R p ys low v k w l (subst R e rx)))
  where
    go : Begins (p ++ v ∷ []) x ⊎ Off (p ++ v ∷ []) x → (x ≡ r) ⊎ Before r x
    go (inl b) = f.least x rx b
    go (inr o) = inr (off_begins (p ++ v ∷ []) r x f.begins o)

begins_shorter : (p r : List ℕ) (v : ℕ) → Begins (p ++ v ∷ []) r → (ys : List ℕ) × (r ≡ p ++ v ∷ ys)
begins_shorter p r v b = (b.0, b.1 ∙ append_assoc p (v ∷ []) b.0)

-- behind all of L
leads_behind : (R : List ℕ → Type 0) (L : List ℕ) (v : ℕ) → Lowest R L 0 v → Leads R L (L ++ v ∷ [])
leads_behind R L v w = record { continues = w.continues; least = λ r f. record { reading = f.reading; after = later r f; least = λ x rx h. go r x f rx (before_cases L x h) } }
  where
    later : (r : List ℕ) → First R (L ++ v ∷ []) r → Before L r
    later r f = let s = begins_shorter L r v f.begins in subst (λ (t : List ℕ). Before L t) (sym s.1) (before_extension L s.0 v)

    go : (r x : List ℕ) → First R (L ++ v ∷ []) r → R x → Off L x ⊎ ((k : ℕ) × (ys : List ℕ) × (x ≡ L ++ k ∷ ys)) → (x ≡ r) ⊎ Before r x
    go r x f rx (inl o) = let s = begins_shorter L r v f.begins in inr (off_begins L r x (v ∷ s.0, s.1) o)
    go r x f rx (inr e) = first_behind R L r x e.1 0 v e.0 w f (omega arith) rx e.2

pub leads_end : (R : List ℕ → Type 0) (L : List ℕ) (n v : ℕ) → length L ≤ n → Lowest R (take n L) 0 v → Leads R L (take n L ++ v ∷ [])
leads_end R L n v h w =
    let e = take_all n L h in
    subst (λ (q : List ℕ). Leads R L (q ++ v ∷ [])) (sym e) (leads_behind R L v (subst (λ (q : List ℕ). Lowest R q 0 v) e w))

-- a reading after L that keeps no more than the first b of L keeps fewer, or is higher there
split : (R : List ℕ → Type 0) (L x : List ℕ) (b : ℕ) → b < length L → Misses R L (b + 1) → R x → Before L x → Off (take b L) x ⊎ ((k : ℕ) × (ys : List ℕ) × (x ≡ take b L ++ k ∷ ys) × (get_or L b 0 < k))
split R L x b h m rx l = off_last (take b L) x (get_or L b 0) (rw (take_more L b 0 h) at (before_off (b + 1) L x l (m x rx l)))

-- behind the first b of L
pub leads_inside : (R : List ℕ → Type 0) (L : List ℕ) (b v : ℕ) → b < length L → Misses R L (b + 1) → Lowest R (take b L) (get_or L b 0 + 1) v → Leads R L (take b L ++ v ∷ [])
leads_inside R L b v h m w = record { continues = w.continues; least = λ r f. record { reading = f.reading; after = later r f; least = λ x rx l. go r x f rx (split R L x b h m rx l) } }
  where
    cut : L ≡ take b L ++ get_or L b 0 ∷ drop (b + 1) L
    cut = sym (take-append-drop b L) ∙ ap (λ (t : List ℕ). take b L ++ t) (drop_more L b 0 h)

    later : (r : List ℕ) → First R (take b L ++ v ∷ []) r → Before L r
    later r f =
        let s = begins_shorter (take b L) r v f.begins in
        let o = off_before (take b L ++ get_or L b 0 ∷ drop (b + 1) L) (take b L ++ v ∷ s.0) (off_at (take b L) (drop (b + 1) L) s.0 (get_or L b 0) v (omega (arith, w.from))) in
        subst (λ (t : List ℕ). Before t r) (sym cut) (subst (λ (t : List ℕ). Before (take b L ++ get_or L b 0 ∷ drop (b + 1) L) t) (sym s.1) o)

    go : (r x : List ℕ) → First R (take b L ++ v ∷ []) r → R x → Off (take b L) x ⊎ ((k : ℕ) × (ys : List ℕ) × (x ≡ take b L ++ k ∷ ys) × (get_or L b 0 < k)) → (x ≡ r) ⊎ Before r x
    go r x f rx (inl o) = let s = begins_shorter (take b L) r v f.begins in inr (off_begins (take b L) r x (v ∷ s.0, s.1) o)
    go r x f rx (inr e) = first_behind R (take b L) r x e.1 (get_or L b 0 + 1) v e.0 w f (omega (arith, e.3)) rx e.2

-- where none goes on behind L
pub misses_end : (R : List ℕ → Type 0) (L : List ℕ) (n : ℕ) → length L ≤ n → Nowhere R (take n L) 0 → Misses R L n
misses_end R L n h w x rx l b = go b.0 b.1
  where
    go : (ys : List ℕ) → x ≡ take n L ++ ys → ⊥
    go [] e = before_irreflexive L (subst (λ (t : List ℕ). Before L t) (e ∙ append-nil (take n L) ∙ take_all n L h) l)
    go (k ∷ ys) e = w k (omega arith) (ys, subst R (e ∙ sym (append_assoc (take n L) (k ∷ []) ys)) rx)

-- one entry fewer
pub misses_less : (R : List ℕ → Type 0) (L : List ℕ) (b : ℕ) → b < length L → Misses R L (b + 1) → Nowhere R (take b L) (get_or L b 0 + 1) → Misses R L b
misses_less R L b h m w x rx l s = go (split R L x b h m rx l)
  where
    go : Off (take b L) x ⊎ ((k : ℕ) × (ys : List ℕ) × (x ≡ take b L ++ k ∷ ys) × (get_or L b 0 < k)) → ⊥
    go (inl o) = before_irreflexive x (off_begins (take b L) x x s o)
    go (inr e) = w e.0 (omega (arith, e.3)) (e.1, subst R (e.2 ∙ sym (append_assoc (take b L) (e.0 ∷ []) e.1)) rx)

pub misses_last : (R : List ℕ → Type 0) (L : List ℕ) → Misses R L 0 → Last R L
misses_last R L m x rx l = m x rx l (x, refl)

-- the search has come down to b: no reading after L keeps so many, and the cursor, at the prefixes of At, is
-- somewhere behind the first b - 1 of L
pub record Sought (R At : List ℕ → Type 0) (L : List ℕ) (b : ℕ) : Type 0 where
  pub prefix : List ℕ
  pub there : At prefix
  pub agrees : take (b - 1) prefix ≡ take (b - 1) L
  pub misses : Misses R L b

-- at is the number of the last of the entries of L that were left, kept is that entry, and after are those before it
pub record Taken (L left after : List ℕ) (at kept : ℕ) : Type 0 where
  pub size : length left ≡ at + 1
  pub inside : at < length L
  pub entry : kept ≡ get_or L at 0
  pub count : length after ≡ at
  pub first : after ≡ take (length after) L

pub taken : (L left after : List ℕ) (at kept : ℕ) → left ≡ take (length left) L → left ≡ push after kept → at ≡ length after → Taken L left after at kept
taken L left after at kept f e n =
    let size : length left ≡ at + 1 = omega (arith, ap length e, length_push after kept) in
    let inside : at < length L = omega (arith, size, ap length f, length-take (length left) L) in
    let cut : push after kept ≡ take (at + 1) L = sym e ∙ f ∙ ap (λ k. take k L) size in
    record {
      size = size;
      inside = inside;
      entry = sym (get_or_push after kept 0 at (sym n)) ∙ ap (λ (xs : List ℕ). get_or xs at 0) cut ∙ get_or-take (at + 1) L at 0 (omega arith);
      count = sym n;
      first = sym (take_at after (kept ∷ []) (length after) refl) ∙ ap (take (length after)) cut ∙ take-take (length after) (at + 1) L (omega arith);
    }

-- a search that begins with the first n of L
pub sought_start : (R At : List ℕ → Type 0) (L left p : List ℕ) (n : ℕ) → left ≡ take n L → n ≤ length L → At p → take (n - 1) p ≡ take (n - 1) L → Misses R L n → Sought R At L (length left)
sought_start R At L left p n e h a f m =
    let l : n ≡ length left = sym (ap length e ∙ length-take-le n L h) in
    subst (λ k. Sought R At L k) l (record { prefix = p; there = a; agrees = f; misses = m })

module _ (R At : List ℕ → Type 0) (L left after : List ℕ) (at kept : ℕ) (k : Taken L left after at kept) (s : Sought R At L (length left)) where
  -- where the cursor is once it went back
  pub sought_at : take at s.prefix ≡ take at L
  sought_at = let e : length left - 1 ≡ at = omega (arith, k.size) in subst (λ n. take n s.prefix ≡ take n L) e s.agrees

  missed : Misses R L (at + 1)
  missed = subst (λ n. Misses R L n) k.size s.misses

  pub sought_less : (At' : List ℕ → Type 0) → At' (take at L) → Nowhere R (take at L) (kept + 1) → Sought R At' L (length after)
  sought_less At' a w =
      let w' = subst (λ v. Nowhere R (take at L) (v + 1)) k.entry w in
      subst (λ n. Sought R At' L n) (sym k.count) (record { prefix = take at L; there = a; agrees = take-take (at - 1) at L (omega arith); misses = misses_less R L at k.inside missed w' })

  pub sought_leads : (v : ℕ) → Lowest R (take at L) (kept + 1) v → Leads R L (take at L ++ v ∷ [])
  sought_leads v w = leads_inside R L at v k.inside missed (subst (λ e. Lowest R (take at L) (e + 1) v) k.entry w)

pub sought_last : (R At : List ℕ → Type 0) (L : List ℕ) (b : ℕ) → b ≡ 0 → Sought R At L b → Last R L
sought_last R At L b e s = misses_last R L (subst (λ n. Misses R L n) e s.misses)
