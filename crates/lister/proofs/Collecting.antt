-- The loop that collects: what was had so far begins the listing, and it goes on behind the last of them.
use Rattle.std.proofs.Common.{◌≡◌, ℕ, ◌≤◌, ◌⊎◌, List, [], ◌∷◌, ◌++◌, map, length, take, Some, None, Ok, Option, sym, refl, ap, ◌∙◌, subst, inl, inr, arith}
use mathlib.Core.List.Memᴰ
use Rattle.std.proofs.lemmas.List.{append_assoc, append-nil, length_push, length-take-le, get_or_push}
use Rattle.lists.specs.Members.{◌∈◌}
use Rattle.lister.specs.Least.{Lawful}
use Rattle.lister.specs.Next.{Blank, Found, Ended, Answered}
use Rattle.lister.specs.Listing.{Listing, ends, goes, last, Collects}
use Rattle.lister.proofs.Listings.{listing_exact}

pub record Begun (R : List ℕ → Type 0) (size : ℕ) (had : List (List ℕ)) : Type 0 where
  pub short : (x : List ℕ) → x ∈ had → length x ≤ size
  pub room : length (last had) ≤ size
  pub on : (rs : List (List ℕ)) → Listing R (last had) rs → Listing R [] (had ++ rs)

last_push : (had : List (List ℕ)) (r : List ℕ) → last (had ++ r ∷ []) ≡ r
last_push had r = get_or_push had r [] _ (omega (arith, length_push had r))

-- lists kept as vectors, of which f says what they hold
pub last_same : {X : Type 0} (f : X → List ℕ) (xs ys : List X) (L : List ℕ) → xs ≡ ys → L ≡ last (map f xs) → L ≡ last (map f ys)
last_same {X} f xs ys L e h = h ∙ ap (λ (t : List X). last (map f t)) e

module _ (R : List ℕ → Type 0) (size : ℕ) where
  -- one answer more
  pub begun_more : (had new : List (List ℕ)) (L buffer : List ℕ) (found : Option ℕ) (n : ℕ) → length buffer ≡ size → Begun R size had → L ≡ last had → found ≡ Some n → Answered R L buffer (Ok found) → new ≡ had ++ take n buffer ∷ [] → Begun R size new
  begun_more had new L buffer found n l s q i a e = subst (Begun R size) (sym e) record {
    short = λ x h. each x (Memᴰ.append_cases had h);
    room = subst (λ (t : List ℕ). length t ≤ size) (sym p) fits;
    on = λ rs w. subst (Listing R []) (sym (append_assoc had (take n buffer ∷ []) rs)) (s.on (take n buffer ∷ rs) (goes buffer n b refl (subst (λ (t : List ℕ). Listing R t rs) p w)));
  }
    where
      p : last (had ++ take n buffer ∷ []) ≡ take n buffer
      p = last_push had (take n buffer)

      b : Found R (last had) buffer n
      b = subst (λ (t : List ℕ). Found R t buffer n) q (subst (λ (o : Option ℕ). Answered R L buffer (Ok o)) i a)

      fits : length (take n buffer) ≤ size
      fits = omega (arith, length-take-le n buffer b.room, b.room)

      each : (x : List ℕ) → (x ∈ had) ⊎ (x ∈ (take n buffer ∷ [])) → length x ≤ size
      each x (inl h) = s.short x h
      each x (inr h) = subst (λ (t : List ℕ). length t ≤ size) (sym (Memᴰ.eq_of_singleton h)) fits

  pub begun_end : (had : List (List ℕ)) (L buffer : List ℕ) (found : Option ℕ) → Lawful R → Begun R size had → L ≡ last had → found ≡ None → Answered R L buffer (Ok found) → Blank buffer × Collects R size had
  begun_end had L buffer found lawful s q i a = (o.blank, record { lists = listing_exact R had lawful (subst (Listing R []) (append-nil had) (s.on [] (ends buffer o))); short = s.short })
    where
      o : Ended R (last had) buffer
      o = subst (λ (t : List ℕ). Ended R t buffer) q (subst (λ (v : Option ℕ). Answered R L buffer (Ok v)) i a)
