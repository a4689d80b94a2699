use Rattle.std.proofs.Common.{◌≡◌, ℕ, ◌-◌, ◌≤◌, List, [], ◌∷◌, ◌++◌, length, take, drop, replicate, refl, sym, ap, ◌∙◌, subst, rules, arith}
use borrow.Rule.Slice.PartMut.{put_mid, mid_of, same_len_mid}
use Rattle.std.specs.List.{FoldsTo}
use Rattle.std.proofs.lemmas.List.{take_all, length-take-le, length-drop}
use Rattle.std.proofs.lemmas.Slice.{take-put_mid}
use Rattle.table.proofs.fill.fill_from.Goals as goal

-- a function that gives y each time gives a list of nothing else
constant : {P A : Type 0} (R : P → A → P → Type 0) (p : P) (y : A) → ((x : A) (q : P) → R p x q → (x ≡ y) × (q ≡ p)) → (xs : List A) (q : P) → FoldsTo R p xs q → xs ≡ replicate (length xs) y
constant R p y h [] q f = refl
constant R p y h (x ∷ xs) q (j, r, f) =
    let (e, w) = h x j r in
    let rest = constant R p y h xs q (subst (λ t. FoldsTo R t xs q) w f) in
    λ i. e i ∷ rest i

-- the rows from n on, all written over
filled : {A : Type 0} (n : ℕ) (xs ys : List A) (y : A) → n ≤ length xs → length ys ≡ length (mid_of n (length xs - n) xs) → ys ≡ replicate (length ys) y → put_mid n (length xs - n) xs ys ≡ take n xs ++ replicate (length xs - n) y
filled n xs ys y h l e =
    let all = same_len_mid n (length xs - n) xs ys l in
    let m : length ys ≡ length xs - n = omega (arith, length-take-le (length xs - n) (drop n xs) (omega (arith, length-drop n xs))) in
    sym (take_all (length xs) _ (omega arith))
    ∙ take-put_mid n (length xs - n) xs ys (length xs) (omega arith) h
    ∙ ap (λ t. take n xs ++ t) (e ∙ ap (λ k. replicate k y) m)

pub returns : goal.returns
returns g c = filled _ _ _ _ c.requires c.fill_with.ensures.len (constant _ _ _ (λ x q r. search rules) _ _ c.fill_with.ensures.ran.1)
