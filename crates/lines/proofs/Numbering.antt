-- A number read digit by digit, up to the first byte that is no digit or makes it too great.
use Rattle.std.proofs.Common.{◌≡◌, ℕ, ◌<◌, ◌≤◌, true, false, cond, ◌&&◌, ◌⊎◌, List, [], ◌∷◌, length, Some, None, fold, Option, nat_le, ap, ◌∙◌, inl, inr, arith}
use Rattle.std.proofs.lemmas.Bool.{cases_Bool}
use Rattle.std.proofs.lemmas.Bool.Decides.{nat_tests}
use Rattle.lines.specs.Numbers.{digit, digits, grown, longer, numeral}

-- the digits xs behind a number, if there is one
abbrev pub read : ℕ → Option ℕ → List ℕ → Option ℕ
read most None xs = None
read most (Some n) [] = Some n
read most (Some n) (b ∷ xs) = read most (longer most n b) xs

grows : (xs : List ℕ) (n : ℕ) → n ≤ fold grown n xs
grows [] n = omega arith
grows (b ∷ xs) n = let h = grows xs (grown n b) in omega (arith, h)

abbrev Reads : ℕ → ℕ → List ℕ → Type 0
Reads most n xs = read most (Some n) xs ≡ cond (digits xs && nat_le (fold grown n xs) most) (Some (fold grown n xs)) None

reads : (most n : ℕ) (xs : List ℕ) → n ≤ most → Reads most n xs
reads most n [] h = grind (arith, nat_tests)
reads most n (b ∷ xs) h = go (cases_Bool (digit b)) (cases_Bool (nat_le (grown n b) most)) (reads most (grown n b) xs)
  where
    go : (digit b ≡ true) ⊎ (digit b ≡ false) → (nat_le (grown n b) most ≡ true) ⊎ (nat_le (grown n b) most ≡ false) → (grown n b ≤ most → Reads most (grown n b) xs) → Reads most n (b ∷ xs)
    go (inl d) (inl s) ih =
        let step : longer most n b ≡ Some (grown n b) = grind (arith, nat_tests) in
        let all : digits xs ≡ (digit b && digits xs) = grind (arith, nat_tests) in
        ap (λ (o : Option ℕ). read most o xs) step ∙ ih (grind (arith, nat_tests)) ∙ ap (λ t. cond (t && nat_le (fold grown (grown n b) xs) most) (Some (fold grown (grown n b) xs)) None) all
    go (inl d) (inr s) ih =
        let more = grows xs (grown n b) in
        let step : longer most n b ≡ None = grind (arith, nat_tests) in
        let far : nat_le (fold grown (grown n b) xs) most ≡ false = grind (arith, nat_tests) in
        ap (λ (o : Option ℕ). read most o xs) step ∙ grind (arith, nat_tests)
    go (inr d) s ih =
        let step : longer most n b ≡ None = grind (arith, nat_tests) in
        let all : digits (b ∷ xs) ≡ false = grind (arith, nat_tests) in
        ap (λ (o : Option ℕ). read most o xs) step ∙ grind (arith, nat_tests)

pub read_none : (most : ℕ) (xs : List ℕ) → 0 < length xs → read most (Some 0) xs ≡ numeral most xs
read_none most xs h = reads most 0 xs (omega arith) ∙ grind (arith, nat_tests)
