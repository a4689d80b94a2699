-- What comes of handing each answer of next back: exactly the readings, in rising order.
use Rattle.std.proofs.Common.{◌≡◌, ℕ, ◌+◌, ◌⊎◌, List, [], ◌∷◌, ◌++◌, length, take, replicate, sym, refl, ap, ◌∙◌, subst, inl, inr, arith}
use mathlib.Core.List.Memᴰ
use Rattle.std.proofs.lemmas.List.{take_at, drop_at, length-append, length-replicate}
use Rattle.lists.specs.Members.{◌∈◌, Distinct}
use Rattle.readings.specs.Order.{Before}
use Rattle.readings.proofs.Ordering.{before_irreflexive, before_transitive}
use Rattle.lister.specs.Least.{Lawful, Least}
use Rattle.lister.specs.Next.{Found}
use Rattle.lister.specs.Listing.{Listing, ends, goes, Rising, Lists, Law}
use Rattle.lister.proofs.Determining.{least_same}
use Rattle.lister.proofs.Sorting.{sorted}

answer_least : (R : List ℕ → Type 0) (L r buffer : List ℕ) (n : ℕ) → Found R L buffer n → r ≡ take n buffer → Least R L r
answer_least R L r buffer n a e = subst (λ (t : List ℕ). Least R L t) (sym e) a.least

listing_sound : {R : List ℕ → Type 0} {L : List ℕ} {rs : List (List ℕ)} → Listing R L rs → (x : List ℕ) → x ∈ rs → R x × Before L x
listing_sound (ends buffer o) x m = absurd (Memᴰ.not-nil m)
listing_sound {R} {L} (goes {r} {rs} buffer n a e l) x m = go (Memᴰ.cases_cons m) (listing_sound l)
  where
    w : Least R L r
    w = answer_least R L r buffer n a e

    go : (x ≡ r) ⊎ (x ∈ rs) → ((y : List ℕ) → y ∈ rs → R y × Before r y) → R x × Before L x
    go (inl q) f = (subst R (sym q) w.reading, subst (λ (t : List ℕ). Before L t) (sym q) w.after)
    go (inr k) f = ((f x k).0, before_transitive L r x w.after (f x k).1)

listing_complete : {R : List ℕ → Type 0} {L : List ℕ} {rs : List (List ℕ)} → Listing R L rs → (x : List ℕ) → R x → Before L x → x ∈ rs
listing_complete (ends buffer o) x r b = absurd (o.none x r b)
listing_complete {R} {L} (goes {r} {rs} buffer n a e l) x rx b = go (w.least x rx b) (listing_complete l)
  where
    w : Least R L r
    w = answer_least R L r buffer n a e

    go : (x ≡ r) ⊎ Before r x → ((y : List ℕ) → R y → Before r y → y ∈ rs) → x ∈ (r ∷ rs)
    go (inl q) f = Memᴰ.head q
    go (inr k) f = Memᴰ.tail (f x rx k)

listing_rising : {R : List ℕ → Type 0} {L : List ℕ} {rs : List (List ℕ)} → Listing R L rs → Rising rs
listing_rising (ends buffer o) = tt
listing_rising (goes buffer n a e l) = ((λ x m. (listing_sound l x m).1), listing_rising l)

rising_distinct : (rs : List (List ℕ)) → Rising rs → Distinct rs
rising_distinct [] h = tt
rising_distinct (r ∷ rs) h = ((λ m. before_irreflexive r (h.0 r m)), rising_distinct rs h.1)

nil_before : (R : List ℕ → Type 0) (x : List ℕ) → Lawful R → R x → Before [] x
nil_before R [] law r = law.nonempty r
nil_before R (a ∷ x) law r = tt

pub listing_exact : (R : List ℕ → Type 0) (rs : List (List ℕ)) → Lawful R → Listing R [] rs → Lists R rs
listing_exact R rs law l = record {
  exactly = record {
    distinct = rising_distinct rs (listing_rising l);
    only = λ x m. (listing_sound l x m).0;
    every = λ x r. listing_complete l x r (nil_before R x law r);
  };
  rising = listing_rising l;
}

listing_same : {R : List ℕ → Type 0} {L M : List ℕ} {rs ss : List (List ℕ)} → Listing R L rs → Listing R M ss → L ≡ M → rs ≡ ss
listing_same (ends buffer o) (ends buffer' o') h = refl
listing_same {R} {L} {M} (ends buffer o) (goes {r} buffer' n' a' e' l') h =
    let w = answer_least R M r buffer' n' a' e' in
    absurd (o.none r w.reading (subst (λ (t : List ℕ). Before t r) (sym h) w.after))
listing_same {R} {L} {M} (goes {r} buffer n a e l) (ends buffer' o') h =
    let w = answer_least R L r buffer n a e in
    absurd (o'.none r w.reading (subst (λ (t : List ℕ). Before t r) h w.after))
listing_same {R} {L} {M} (goes {r} {rs} buffer n a e l) (goes {r = s} {rs = ss} buffer' n' a' e' l') h =
    let p : r ≡ s = least_same R M r s (subst (λ (t : List ℕ). Least R t r) h (answer_least R L r buffer n a e)) (answer_least R M s buffer' n' a' e') in
    let q : rs ≡ ss = listing_same l l' p in
    cc

-- a buffer that has room for the list and the reading
answer_made : (R : List ℕ → Type 0) (L r : List ℕ) → Least R L r → Found R L (r ++ replicate (length L) 0) (length r)
answer_made R L r w =
    let z : length (r ++ replicate (length L) 0) ≡ length r + length L = length-append r (replicate (length L) 0) ∙ ap (λ (k : ℕ). length r + k) (length-replicate (length L) 0) in
    record {
      fits = omega arith;
      room = omega arith;
      least = subst (λ (t : List ℕ). Least R L t) (sym (take_at r (replicate (length L) 0) (length r) refl)) w;
      zeros = drop_at r (replicate (length L) 0) (length r) refl ∙ ap (λ (k : ℕ). replicate k 0) (omega arith);
    }

listing_of : (R : List ℕ → Type 0) (rs : List (List ℕ)) (L : List ℕ) → Rising rs → ((x : List ℕ) → x ∈ rs → R x × Before L x) → ((x : List ℕ) → R x → Before L x → x ∈ rs) → Listing R L rs
listing_of R [] L h s c =
    let z : length L ≡ length (replicate {A = ℕ} (length L) 0) = sym (length-replicate (length L) 0) in
    ends (replicate (length L) 0) (record { fits = omega arith; none = λ x r b. Memᴰ.not-nil (c x r b); blank = ap (λ (k : ℕ). replicate k 0) z })
listing_of R (r ∷ rs) L h s c =
    let f = s r (Memᴰ.head refl) in
    goes (r ++ replicate (length L) 0) (length r)
    (answer_made R L r (record { reading = f.0; after = f.1; least = λ x rx b. later x (Memᴰ.cases_cons (c x rx b)) }))
    (sym (take_at r (replicate (length L) 0) (length r) refl))
    (listing_of R rs r h.1 (λ x m. ((s x (Memᴰ.tail m)).0, h.0 x m)) (λ x rx b. rest x b (Memᴰ.cases_cons (c x rx (before_transitive L r x f.1 b)))))
  where
    later : (x : List ℕ) → (x ≡ r) ⊎ (x ∈ rs) → (x ≡ r) ⊎ Before r x
    later x (inl e) = inl e
    later x (inr m) = inr (h.0 x m)

    rest : (x : List ℕ) → Before r x → (x ≡ r) ⊎ (x ∈ rs) → x ∈ rs
    rest x b (inl e) = absurd (before_irreflexive r (subst (λ (t : List ℕ). Before r t) e b))
    rest x b (inr m) = m

pub law : (R : List ℕ → Type 0) → Lawful R → Law R
law R lawful =
    let xs = lawful.finite.0 in
    let e = lawful.finite.1 in
    let t = sorted xs in
    record {
      exact = λ rs l. listing_exact R rs lawful l;
      single = λ rs ss l m. listing_same l m refl;
      exists = (t.0, listing_of R t.0 [] t.1.rising (λ x m. let r = e.only x (t.1.only x m) in (r, nil_before R x lawful r)) (λ x r b. t.1.all x (e.every x r)));
    }
