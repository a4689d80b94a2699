-- The laws of count.
use Rattle.std.specs.Prelude.{◌≡◌, ℕ, zero, suc, ◌+◌, ◌*◌, ◌≤◌, min}
use Rattle.std.proofs.Common.{ap, sym, ◌∙◌, mul_comm, mul_assoc, mul-add, add-mul, one-mul, mul-one, zero-mul, mul-zero, mul-suc, arith, lit≤}
use Rattle.std.proofs.Math.Decide.{dec_le}
use Rattle.semiring.specs.Laws.{Lawful}
use Rattle.semiring.specs.Kinds.{cap, capped, count_ops}

-- a factor of a capped product may be capped first, whatever the cap
factor_cases : (top a z : ℕ) → Dec (a ≤ top) → min (min a top * z) top ≡ min (a * z) top
factor_cases top a z (yes h) = let e : min a top ≡ a = omega arith in ap (λ n. min (n * z) top) e
factor_cases top a zero (no h) = simp mul-zero
factor_cases top a (suc z) (no h) = simp mul-suc (omega arith)

factor_left : (a z : ℕ) → capped (capped a * z) ≡ capped (a * z)
factor_left a z = factor_cases cap a z (dec_le a cap)

factor_right : (z a : ℕ) → capped (z * capped a) ≡ capped (z * a)
factor_right z a = ap capped (mul_comm z (capped a)) ∙ factor_left a z ∙ ap capped (mul_comm a z)

-- a summand of a capped sum may be capped first
summands : (a b : ℕ) → capped (capped a + capped b) ≡ capped (a + b)
summands a b = omega arith

pub count_lawful : Lawful count_ops
count_lawful = record {
  none_in = omega arith;
  unit_in = lit≤ tt;
  weight_in = λ _ _. lit≤ tt;
  sum_in = λ x y _ _. omega arith;
  product_in = λ x y _ _. omega arith;
  sum_assoc = λ x y z _ _ _. omega arith;
  sum_comm = λ x y _ _. omega arith;
  none_sum = λ x h. omega arith;
  product_assoc = λ x y z _ _ _. factor_left (x * y) z ∙ ap capped (mul_assoc x y z) ∙ sym (factor_right x (y * z));
  unit_product = λ x h. rw one-mul (omega arith);
  product_unit = λ x h. rw mul-one (omega arith);
  product_sum = λ x y z _ _ _. factor_right x (y + z) ∙ ap capped (mul-add x y z) ∙ sym (summands (x * y) (x * z));
  sum_product = λ x y z _ _ _. factor_left (x + y) z ∙ ap capped (add-mul x y z) ∙ sym (summands (x * z) (y * z));
  none_product = λ x h. rw zero-mul (omega arith);
  product_none = λ x h. rw mul-zero (omega arith);
}
