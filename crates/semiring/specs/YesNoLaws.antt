-- The laws of yes-no.
use Rattle.std.specs.Prelude.{◌≡◌, Bool, true, false, ◌&&◌, ◌||◌, refl}
use Rattle.semiring.specs.Laws.{Lawful}
use Rattle.semiring.specs.Kinds.{yes_no_ops}

or_comm : (a b : Bool) → (a || b) ≡ (b || a)
or_comm true true = refl
or_comm true false = refl
or_comm false true = refl
or_comm false false = refl

or_assoc : (a b c : Bool) → ((a || b) || c) ≡ (a || (b || c))
or_assoc true b c = refl
or_assoc false b c = refl

and_assoc : (a b c : Bool) → ((a && b) && c) ≡ (a && (b && c))
and_assoc true b c = refl
and_assoc false b c = refl

and_true : (a : Bool) → (a && true) ≡ a
and_true true = refl
and_true false = refl

and_false : (a : Bool) → (a && false) ≡ false
and_false true = refl
and_false false = refl

and_or : (a b c : Bool) → (a && (b || c)) ≡ ((a && b) || (a && c))
and_or true b c = refl
and_or false b c = refl

or_self : (a : Bool) → a ≡ (a || a)
or_self true = refl
or_self false = refl

or_and : (a b c : Bool) → ((a || b) && c) ≡ ((a && c) || (b && c))
or_and true true c = or_self c
or_and true false true = refl
or_and true false false = refl
or_and false b c = refl

pub yes_no_lawful : Lawful yes_no_ops
yes_no_lawful = record {
  none_in = tt;
  unit_in = tt;
  weight_in = λ _ _. tt;
  sum_in = λ _ _ _ _. tt;
  product_in = λ _ _ _ _. tt;
  sum_assoc = λ x y z _ _ _. or_assoc x y z;
  sum_comm = λ x y _ _. or_comm x y;
  none_sum = λ x _. refl;
  product_assoc = λ x y z _ _ _. and_assoc x y z;
  unit_product = λ x _. refl;
  product_unit = λ x _. and_true x;
  product_sum = λ x y z _ _ _. and_or x y z;
  sum_product = λ x y z _ _ _. or_and x y z;
  none_product = λ x _. refl;
  product_none = λ x _. and_false x;
}
