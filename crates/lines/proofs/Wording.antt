-- The first word of a line, and what is left behind it.
use Rattle.std.proofs.Common.{◌≡◌, ℕ, suc, ◌+◌, ◌-◌, ◌≤◌, true, false, not, position, unwrap_or, ◌⊎◌, List, [], ◌∷◌, length, get_or, take, drop, Some, None, sym, refl, ap, ◌∙◌, subst, inl, inr, one-add, arith}
use Rattle.std.specs.List.{position_or_len}
use Rattle.std.proofs.lemmas.Bool.{cases_Bool}
use Rattle.std.proofs.lemmas.Bool.Decides.{nat_tests}
use Rattle.std.proofs.lemmas.List.{drop_more, drop_all, take_rest}
use Rattle.std.proofs.lemmas.List.Quantifiers.{position-Some}
use Rattle.std.proofs.lemmas.List.Sums.{prefix_len-le-length}
use Rattle.lines.specs.Words.{blank, onto, words}

-- blanks before a word make no difference
words_skip : (xs : List ℕ) → words (drop (position_or_len (λ b. not (blank b)) xs) xs) ≡ words xs
words_skip [] = refl
words_skip (b ∷ xs) = go (cases_Bool (blank b)) (words_skip xs)
  where
    go : (blank b ≡ true) ⊎ (blank b ≡ false) → words (drop (position_or_len (λ b. not (blank b)) xs) xs) ≡ words xs → words (drop (position_or_len (λ b. not (blank b)) (b ∷ xs)) (b ∷ xs)) ≡ words (b ∷ xs)
    go (inl e) ih = simp e (rw one-add ih)
    go (inr e) ih = simp e

-- a byte that is not blank begins a word that goes to the next blank
abbrev First : List ℕ → ℕ → Type 0
First xs n = words xs ≡ take n xs ∷ words (drop n xs)

words_run : (b : ℕ) (xs : List ℕ) → blank b ≡ false → First (b ∷ xs) (position_or_len blank (b ∷ xs))
words_run b [] e = simp e
words_run b (c ∷ xs) e = go (cases_Bool (blank c)) (words_run c xs)
  where
    go : (blank c ≡ true) ⊎ (blank c ≡ false) → (blank c ≡ false → First (c ∷ xs) (position_or_len blank (c ∷ xs))) → First (b ∷ c ∷ xs) (position_or_len blank (b ∷ c ∷ xs))
    go (inl f) ih = simp (e, f)
    go (inr f) ih =
        let whole : words (b ∷ c ∷ xs) ≡ onto b (words (c ∷ xs)) = simp (e, f) in
        let longer : position_or_len blank (b ∷ c ∷ xs) ≡ suc (position_or_len blank (c ∷ xs)) = simp e (one-add _) in
        subst (First (b ∷ c ∷ xs)) (sym longer) (whole ∙ ap (onto b) (ih f))

-- a line in which every byte is blank has no word
pub no_word : (xs : List ℕ) → None ≡ position (λ b. not (blank b)) xs → words xs ≡ []
no_word xs h =
    let far : length xs ≤ position_or_len (λ b. not (blank b)) xs = grind (arith, nat_tests) in
    sym (words_skip xs) ∙ ap words (drop_all (position_or_len (λ b. not (blank b)) xs) xs far)

-- the word that begins at the first byte that is not blank
pub next_word : (xs : List ℕ) (start end : ℕ) → Some start ≡ position (λ b. not (blank b)) xs → end ≡ unwrap_or (position blank (take (length xs - start) (drop start xs))) (length (take (length xs - start) (drop start xs))) → words xs ≡ take end (take (length xs - start) (drop start xs)) ∷ words (drop end (take (length xs - start) (drop start xs)))
next_word xs start end h k =
    let at = position-Some (λ b. not (blank b)) xs start 0 (sym h) in
    let first : start ≡ position_or_len (λ b. not (blank b)) xs = grind (arith, nat_tests) in
    let seen : blank (get_or xs start 0) ≡ false = elim (cases_Bool (blank (get_or xs start 0))) [ inl e ↦ (let z = rw e at at.1 in cc) | inr e ↦ e ] in
    let split = drop_more xs start 0 at.0 in
    let size : end ≡ position_or_len blank (drop start xs) = ends (drop start xs) end (rw take_rest at k) in
    rw take_rest (sym (words_skip xs) ∙ rw (← first, size, split) (words_run (get_or xs start 0) (drop (start + 1) xs) seen))
  where
    ends : (ys : List ℕ) (n : ℕ) → n ≡ unwrap_or (position blank ys) (length ys) → n ≡ position_or_len blank ys
    ends ys n h = let bound = prefix_len-le-length (λ b. not (blank b)) ys in grind (arith, nat_tests)
