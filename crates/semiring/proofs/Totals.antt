-- The kinds' totals over a list of readings, by induction on the list.
use Rattle.std.proofs.Common.{◌≡◌, ℕ, ◌+◌, ◌*◌, ◌≤◌, min, true, List, [], ◌∷◌, Some, None, Option, refl, ap, ◌∙◌, ⊎_elim, arith}
use mathlib.Core.List.Memᴰ
use native.Mathlib.Decide.{dec_le}
use Rattle.lists.specs.Members.{◌∈◌}
use Rattle.semiring.specs.Laws.{Ops}
use Rattle.semiring.specs.Values.{value, total_value}
use Rattle.semiring.specs.Kinds.{capped, yes_no_ops, count_ops, lesser, together, least_cost_ops, pair_ops}
use Rattle.semiring.specs.Meanings.{cost_along, SaysLeast, YesNoMeans, CountMeans, LeastCostMeans, PairMeans}

-- every reading is worth yes
pub value_yes : (cost : ℕ → ℕ) (xs : List ℕ) → value yes_no_ops cost xs ≡ true
value_yes cost [] = refl
value_yes cost (r ∷ rs) = value_yes cost rs

-- every reading counts 1
pub value_one : (cost : ℕ → ℕ) (xs : List ℕ) → value count_ops cost xs ≡ 1
value_one cost [] = refl
value_one cost (r ∷ rs) = ap (λ n. capped (1 * n)) (value_one cost rs)

-- every reading is worth its capped cost
pub value_cost : (cost : ℕ → ℕ) (xs : List ℕ) → value least_cost_ops cost xs ≡ Some (capped (cost_along cost xs))
value_cost cost [] = refl
value_cost cost (r ∷ rs) = ap (together (Some (capped (cost r)))) (value_cost cost rs) ∙ ap Some (omega arith)

-- every reading is worth what it is worth in each kind
pub value_pair : {A B : Type 0} (a : Ops A) (b : Ops B) (cost : ℕ → ℕ) (xs : List ℕ) → value (pair_ops a b) cost xs ≡ (value a cost xs, value b cost xs)
value_pair a b cost [] = refl
value_pair a b cost (r ∷ rs) = ap ((pair_ops a b).product ((pair_ops a b).weight r (cost r))) (value_pair a b cost rs)

pub yes_no_means : YesNoMeans
yes_no_means cost [] = (λ e. absurd (let z : ◌≡◌ {A = ℕ} 0 1 = cc in omega arith), λ h. absurd (Memᴰ.not-nil h.1))
yes_no_means cost (xs ∷ rest) = (λ e. (xs, Memᴰ.head refl), λ h. ap (λ b. yes_no_ops.sum b (total_value yes_no_ops cost rest)) (value_yes cost xs))

pub count_means : CountMeans
count_means cost [] = refl
count_means cost (xs ∷ rest) = ap (λ n. capped (n + total_value count_ops cost rest)) (value_one cost xs) ∙ ap (λ n. capped (1 + n)) (count_means cost rest) ∙ omega arith

-- the first reading or a later one has the lesser cost
lesser_of : (cost : ℕ → ℕ) (xs : List ℕ) (rest : List (List ℕ)) (c : ℕ) → Dec (capped (cost_along cost xs) ≤ c) → (ys : List ℕ) × (ys ∈ rest) × (c ≡ capped (cost_along cost ys)) → (ys : List ℕ) × (ys ∈ (xs ∷ rest)) × (min (capped (cost_along cost xs)) c ≡ capped (cost_along cost ys))
lesser_of cost xs rest c (yes h) t = (xs, Memᴰ.head refl, omega arith)
lesser_of cost xs rest c (no h) t = (t.0, Memᴰ.tail t.1, omega arith)

-- the least cost with one reading more
least_more : (cost : ℕ → ℕ) (xs : List ℕ) (rest : List (List ℕ)) (least : Option ℕ) → SaysLeast cost rest least → SaysLeast cost (xs ∷ rest) (lesser (Some (capped (cost_along cost xs))) least)
least_more cost xs rest None h = ((xs, Memᴰ.head refl, refl), λ ys m. ⊎_elim (λ e. rw e (omega arith)) (λ k. absurd (h ys k)) (Memᴰ.cases_cons m))
least_more cost xs rest (Some c) h =
    (lesser_of cost xs rest c (dec_le (capped (cost_along cost xs)) c) h.0, λ ys m. ⊎_elim (λ e. rw e (omega arith)) (λ k. let l = h.1 ys k in omega arith) (Memᴰ.cases_cons m))

pub least_cost_means : LeastCostMeans
least_cost_means cost [] = λ xs. Memᴰ.not-nil
least_cost_means cost (xs ∷ rest) = rw (value_cost cost xs) (least_more cost xs rest _ (least_cost_means cost rest))

pub pair_means : {A B : Type 0} (a : Ops A) (b : Ops B) → PairMeans a b
pair_means a b cost [] = refl
pair_means a b cost (xs ∷ rest) = ap (λ v. (pair_ops a b).sum v (total_value (pair_ops a b) cost rest)) (value_pair a b cost xs) ∙ ap ((pair_ops a b).sum (value a cost xs, value b cost xs)) (pair_means a b cost rest)
