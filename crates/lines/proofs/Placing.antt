-- A place in a line whose relation is one byte.
use Rattle.std.proofs.Common.{◌≡◌, ℕ, ◌-◌, ◌<◌, true, false, ◌⊎◌, List, [], ◌∷◌, length, get_or, take, drop, Some, None, Option, refl, sym, ap, ◌∙◌, inl, inr, arith}
use Rattle.std.proofs.lemmas.Bool.{cases_Bool}
use Rattle.std.proofs.lemmas.Bool.Decides.{nat_tests}
use Rattle.std.proofs.lemmas.List.{drop_more, drop_all, take_rest}
use Rattle.rows.specs.declared.row.PlaceRow.{PlaceRow}
use Rattle.lines.specs.Numbers.{numeral}
use Rattle.lines.specs.Hex.{pair}
use Rattle.lines.specs.Rows.{escaped, of_symbol, of_relation, place_at}

no_symbol : (most b : ℕ) (xs : List ℕ) → b ≡ 120 → numeral most (b ∷ xs) ≡ None
no_symbol most b xs e = rw e (grind (arith, nat_tests))

no_relation : (o : Option ℕ) → of_relation o None ≡ None
no_relation None = refl
no_relation (Some r) = refl

-- a word that is not escaped, or too short for it
pub by_byte : (w : List ℕ) (p : Option PlaceRow) → (escaped w ≡ false) ⊎ (length w < 4) → p ≡ of_symbol (get_or w 0 0) (numeral 65535 (take (length w - 1) (drop 1 w))) → p ≡ place_at w
by_byte w p s h = h ∙ ap (λ xs. of_symbol (get_or w 0 0) (numeral 65535 xs)) (take_rest w 1) ∙ go s (cases_Bool (escaped w))
  where
    go : (escaped w ≡ false) ⊎ (length w < 4) → (escaped w ≡ true) ⊎ (escaped w ≡ false) → of_symbol (get_or w 0 0) (numeral 65535 (drop 1 w)) ≡ place_at w
    go s (inr e) = simp e
    go (inl f) (inl e) = let z = sym e ∙ f in cc
    go (inr k) (inl e) =
        let long : 1 < length w = grind (arith, nat_tests) in
        let x : get_or w 1 0 ≡ 120 = grind (arith, nat_tests) in
        let none : numeral 65535 (drop 1 w) ≡ None = rw (drop_more w 1 0 long) (no_symbol 65535 (get_or w 1 0) (drop 2 w) x) in
        let short : drop 4 w ≡ [] = drop_all 4 w (omega arith) in
        let p : place_at w ≡ None = rw (e, short) (no_relation (pair (get_or w 2 0) (get_or w 3 0))) in
        ap (of_symbol (get_or w 0 0)) none ∙ sym p
