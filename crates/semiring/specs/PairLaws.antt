-- The laws of a pair, from those of its two kinds.
use Rattle.std.specs.Prelude.{◌≡◌}
use Rattle.semiring.specs.Laws.{Ops, Lawful}
use Rattle.semiring.specs.Kinds.{pair_ops}

both : {A B : Type 0} {a a' : A} {b b' : B} → a ≡ a' → b ≡ b' → ◌≡◌ {A = A × B} (a, b) (a', b')
both p q = λ i. (p i, q i)

pub pair_lawful : {A B : Type 0} {a : Ops A} {b : Ops B} → Lawful a → Lawful b → Lawful (pair_ops a b)
pair_lawful l r = record {
  none_in = (l.none_in, r.none_in);
  unit_in = (l.unit_in, r.unit_in);
  weight_in = λ c d. (l.weight_in c d, r.weight_in c d);
  sum_in = λ x y h k. (l.sum_in _ _ h.0 k.0, r.sum_in _ _ h.1 k.1);
  product_in = λ x y h k. (l.product_in _ _ h.0 k.0, r.product_in _ _ h.1 k.1);
  sum_assoc = λ x y z h k j. both (l.sum_assoc _ _ _ h.0 k.0 j.0) (r.sum_assoc _ _ _ h.1 k.1 j.1);
  sum_comm = λ x y h k. both (l.sum_comm _ _ h.0 k.0) (r.sum_comm _ _ h.1 k.1);
  none_sum = λ x h. both (l.none_sum _ h.0) (r.none_sum _ h.1);
  product_assoc = λ x y z h k j. both (l.product_assoc _ _ _ h.0 k.0 j.0) (r.product_assoc _ _ _ h.1 k.1 j.1);
  unit_product = λ x h. both (l.unit_product _ h.0) (r.unit_product _ h.1);
  product_unit = λ x h. both (l.product_unit _ h.0) (r.product_unit _ h.1);
  product_sum = λ x y z h k j. both (l.product_sum _ _ _ h.0 k.0 j.0) (r.product_sum _ _ _ h.1 k.1 j.1);
  sum_product = λ x y z h k j. both (l.sum_product _ _ _ h.0 k.0 j.0) (r.sum_product _ _ _ h.1 k.1 j.1);
  none_product = λ x h. both (l.none_product _ h.0) (r.none_product _ h.1);
  product_none = λ x h. both (l.product_none _ h.0) (r.product_none _ h.1);
}
