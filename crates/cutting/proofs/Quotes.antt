-- The search for a closing quote: the first quote or line feed is where it ends.
use Rattle.std.proofs.Common.{◌≡◌, ℕ, ◌+◌, Bool, true, false, cond, not, ◌&&◌, ◌||◌, ◌==◌, List, [], ◌∷◌, get_or, Some, None, refl, ap, ◌∙◌, arith}
use Rattle.std.specs.Bool.{then_some}
use Rattle.std.specs.List.{prefix_len, position, position_or_len}
use Rattle.cutting.specs.Starts.{plain, closed}

-- a quote or a line feed
abbrev pub ends_text : ℕ → Bool
ends_text b = b == 34 || b == 10

same_test : (a b : Bool) (m n : ℕ) → m ≡ n → cond (not (a || b)) (1 + m) 0 ≡ cond (not a && not b) (1 + n) 0
same_test true b m n e = refl
same_test false true m n e = refl
same_test false false m n e = omega arith

before_end : (xs : List ℕ) → position_or_len ends_text xs ≡ prefix_len plain xs
before_end [] = refl
before_end (x ∷ xs) = same_test (x == 34) (x == 10) _ _ (before_end xs)

some_is : (t : Bool) (m n : ℕ) → cond t (Some m) None ≡ Some n → n ≡ m
some_is true m n e = cc
some_is false m n e = cc

chosen : (t : Bool) (n : ℕ) → then_some t n ≡ cond t (Some n) None
chosen true n = refl
chosen false n = refl

pub closed_at : (xs : List ℕ) (e : ℕ) → position ends_text xs ≡ Some e → then_some (get_or xs e 0 == 34) e ≡ closed xs
closed_at xs e h = ap (λ n. then_some (get_or xs n 0 == 34) n) (some_is _ _ _ h ∙ before_end xs) ∙ chosen _ _
