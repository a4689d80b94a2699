-- What `all` and `position` answer, said by the index.
use Rattle.std.proofs.Common.{◌≡◌, ℕ, ◌<◌, ◌≤◌, Bool, true, false, List, length, get_or, take, Some, None, Option, Decides, MatchBool, MatchOption, ◌⊎◌, inl, inr, sym, refl, ◌∙◌, subst, zero-add, arith}
use Rattle.std.specs.List.{AllWithin, HoldsAt, range_with_len}
use Rattle.std.proofs.lemmas.List.{get_or-take, get_or_past, length-take}
use Rattle.std.proofs.lemmas.Bool.{cases_lt}
use Rattle.std.proofs.lemmas.List.FromFn.{length-range_with_len, get_or-range_with_len}
use Rattle.rows.specs.declared.row.RuleRow.{RuleRow}
use Rattle.rows.specs.Rows.{no_place, Nonterminal, PlaceOk, RuleOk, Finds}

abbrev pub Not : {X : Type 0} → (X → Type 0) → X → Type 0
Not P x = P x → ⊥

-- `all` over a list tells whether each element passes
decides_all_in : {X : Type 0} (P : X → Type 0) (d : X) (xs : List X) (r : Bool) → MatchBool r (AllWithin P xs 0 (length xs)) ((k : ℕ) × (k < length xs) × HoldsAt (Not P) xs k) → Decides r ((k : ℕ) → k < length xs → P (get_or xs k d))
decides_all_in P d xs true h = ((λ _ k l. h k d (omega arith) l), λ _. refl)
decides_all_in P d xs false (k, l, h) = ((λ e. let z : ◌≡◌ {A = ℕ} 0 1 = cc in absurd (omega arith)), λ a. absurd (h d (a k l)))

-- over the first n elements of a list it tells whether each of n passes, where one that is missing passes too
pub Decides-front : {X : Type 0} (P : X → Type 0) (d : X) (n : ℕ) (xs : List X) (r : Bool) → ((k : ℕ) → length xs ≤ k → k < n → P d)
    → MatchBool r (AllWithin P (take n xs) 0 (length (take n xs))) ((k : ℕ) × (k < length (take n xs)) × HoldsAt (Not P) (take n xs) k)
    → Decides r ((k : ℕ) → k < n → P (get_or xs k d))
Decides-front P d n xs r past h = (
  (λ t k l. there t k l (cases_lt k (length xs))),
  λ a. e.1 (λ k l. let m : k < n = omega (arith, length-take n xs) in rw (get_or-take n xs k d m) (a k m)),
)
  where
    e : Decides r ((k : ℕ) → k < length (take n xs) → P (get_or (take n xs) k d))
    e = decides_all_in P d (take n xs) r h

    there : r ≡ true → (k : ℕ) → k < n → (k < length xs) ⊎ (length xs ≤ k) → P (get_or xs k d)
    there t k l (inl h) = subst P (get_or-take n xs k d l) (e.0 t k (omega (arith, length-take n xs)))
    there t k l (inr h) = subst P (sym (get_or_past xs k d h)) (past k h l)

number : (n k : ℕ) → k < n → get_or (range_with_len 0 n) k 0 ≡ k
number n k h = get_or-range_with_len 0 n k 0 h ∙ zero-add k

-- `position` over the numbers below n tells the first that fails
pub Finds-from_range : (Ok : ℕ → Type 0) (n : ℕ) (r : Option ℕ)
    → MatchOption r (AllWithin Ok (range_with_len 0 n) 0 (length (range_with_len 0 n))) (λ i. (i < length (range_with_len 0 n)) × HoldsAt (Not Ok) (range_with_len 0 n) i × AllWithin Ok (range_with_len 0 n) 0 i)
    → Finds Ok n r
Finds-from_range Ok n None h = λ i l. subst Ok (number n i l) (h i 0 (omega arith) (omega (arith, length-range_with_len 0 n)))
Finds-from_range Ok n (Some i) (l, f, h) =
    let u : i < n = omega (arith, length-range_with_len 0 n) in
    (u, (λ o. f 0 (subst Ok (sym (number n i u)) o)), λ k m. subst Ok (number n k (omega arith)) (h k 0 (omega arith) m))

-- the places decide on a rule whose other fields are allowed
pub rule_by_places : (n : ℕ) (r : RuleRow) (b : Bool) → Nonterminal r.left → r.cost ≤ 10000 → r.count ≤ 6 → Decides b ((k : ℕ) → k < r.count → PlaceOk n (get_or r.places k no_place)) → Decides b (RuleOk n r)
rule_by_places n r b l c m d = ((λ e. record { left = l; cost = c; count = m; places = d.0 e }), λ o. d.1 o.places)
