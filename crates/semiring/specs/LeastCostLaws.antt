-- The laws of least cost.
use Rattle.std.specs.Prelude.{◌≡◌, ℕ, Some, None, Option, refl}
use Rattle.std.proofs.Common.{ap, ◌∙◌, arith}
use Rattle.semiring.specs.Laws.{Lawful}
use Rattle.semiring.specs.Kinds.{lesser, together, Cost, least_cost_ops}

lesser_in : (x y : Option ℕ) → Cost x → Cost y → Cost (lesser x y)
lesser_in None y h k = k
lesser_in (Some x) None h k = h
lesser_in (Some x) (Some y) h k = omega arith

together_in : (x y : Option ℕ) → Cost x → Cost y → Cost (together x y)
together_in None y h k = tt
together_in (Some x) None h k = tt
together_in (Some x) (Some y) h k = omega arith

lesser_assoc : (x y z : Option ℕ) → lesser (lesser x y) z ≡ lesser x (lesser y z)
lesser_assoc None y z = refl
lesser_assoc (Some x) None z = refl
lesser_assoc (Some x) (Some y) None = refl
lesser_assoc (Some x) (Some y) (Some z) = ap Some (omega arith)

lesser_comm : (x y : Option ℕ) → lesser x y ≡ lesser y x
lesser_comm None None = refl
lesser_comm None (Some y) = refl
lesser_comm (Some x) None = refl
lesser_comm (Some x) (Some y) = ap Some (omega arith)

together_assoc : (x y z : Option ℕ) → together (together x y) z ≡ together x (together y z)
together_assoc None y z = refl
together_assoc (Some x) None z = refl
together_assoc (Some x) (Some y) None = refl
together_assoc (Some x) (Some y) (Some z) = ap Some (omega arith)

together_comm : (x y : Option ℕ) → together x y ≡ together y x
together_comm None None = refl
together_comm None (Some y) = refl
together_comm (Some x) None = refl
together_comm (Some x) (Some y) = ap Some (omega arith)

zero_together : (x : Option ℕ) → Cost x → together (Some 0) x ≡ x
zero_together None h = refl
zero_together (Some x) h = ap Some (omega arith)

together_lesser : (x y z : Option ℕ) → together x (lesser y z) ≡ lesser (together x y) (together x z)
together_lesser None y z = refl
together_lesser (Some x) None z = refl
together_lesser (Some x) (Some y) None = refl
together_lesser (Some x) (Some y) (Some z) = ap Some (omega arith)

pub least_cost_lawful : Lawful least_cost_ops
least_cost_lawful = record {
  none_in = tt;
  unit_in = omega arith;
  weight_in = λ _ cost. omega arith;
  sum_in = lesser_in;
  product_in = together_in;
  sum_assoc = λ x y z _ _ _. lesser_assoc x y z;
  sum_comm = λ x y _ _. lesser_comm x y;
  none_sum = λ x _. refl;
  product_assoc = λ x y z _ _ _. together_assoc x y z;
  unit_product = zero_together;
  product_unit = λ x h. together_comm x (Some 0) ∙ zero_together x h;
  product_sum = λ x y z _ _ _. together_lesser x y z;
  sum_product = λ x y z _ _ _. together_comm (lesser x y) z ∙ together_lesser z x y ∙ ap (λ w. lesser w (together z y)) (together_comm z x) ∙ ap (lesser (together x z)) (together_comm z y);
  none_product = λ x _. refl;
  product_none = λ x _. together_comm x None;
}
