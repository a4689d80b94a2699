-- What a kind of value (a semiring) has, and the laws that it owes.
use Rattle.std.specs.Prelude.{◌≡◌, ℕ}

-- the operations of a kind, the weight of a rule by its number and its cost, and which values the kind admits
pub record Ops (V : Type 0) : Type 1 where
  pub none : V
  pub unit : V
  pub sum : V → V → V
  pub product : V → V → V
  pub weight : ℕ → ℕ → V
  pub admits : V → Type 0

-- the laws, of admitted values
pub record Lawful {V : Type 0} (k : Ops V) : Type 0 where
  -- what the operations give is admitted
  pub none_in : k.admits k.none
  pub unit_in : k.admits k.unit
  pub weight_in : (rule cost : ℕ) → k.admits (k.weight rule cost)
  pub sum_in : (x y : V) → k.admits x → k.admits y → k.admits (k.sum x y)
  pub product_in : (x y : V) → k.admits x → k.admits y → k.admits (k.product x y)
  -- sum is associative and commutative, with none as neutral
  pub sum_assoc : (x y z : V) → k.admits x → k.admits y → k.admits z → k.sum (k.sum x y) z ≡ k.sum x (k.sum y z)
  pub sum_comm : (x y : V) → k.admits x → k.admits y → k.sum x y ≡ k.sum y x
  pub none_sum : (x : V) → k.admits x → k.sum k.none x ≡ x
  -- product is associative, with unit neutral on both sides
  pub product_assoc : (x y z : V) → k.admits x → k.admits y → k.admits z → k.product (k.product x y) z ≡ k.product x (k.product y z)
  pub unit_product : (x : V) → k.admits x → k.product k.unit x ≡ x
  pub product_unit : (x : V) → k.admits x → k.product x k.unit ≡ x
  -- product distributes over sum on both sides
  pub product_sum : (x y z : V) → k.admits x → k.admits y → k.admits z → k.product x (k.sum y z) ≡ k.sum (k.product x y) (k.product x z)
  pub sum_product : (x y z : V) → k.admits x → k.admits y → k.admits z → k.product (k.sum x y) z ≡ k.sum (k.product x z) (k.product y z)
  -- a product with none on either side is none
  pub none_product : (x : V) → k.admits x → k.product k.none x ≡ k.none
  pub product_none : (x : V) → k.admits x → k.product x k.none ≡ k.none
