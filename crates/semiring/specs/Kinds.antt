-- The kinds of value of this crate: yes-no, count, least cost, and the pair of any two.
use Rattle.std.specs.Prelude.{ℕ, ◌+◌, ◌*◌, ◌≤◌, min, Bool, true, false, ◌&&◌, ◌||◌, Some, None, Option}
use Rattle.semiring.specs.Laws.{Ops}

-- the largest count and the largest cost
abbrev pub cap : ℕ
cap = 1000000000

-- a result above the cap becomes the cap
abbrev pub capped : ℕ → ℕ
capped n = min n cap

-- yes or no: or, and; every rule weighs yes
abbrev pub yes_no_ops : Ops Bool
yes_no_ops = record {
  none = false;
  unit = true;
  sum = ◌||◌;
  product = ◌&&◌;
  weight = λ rule cost. true;
  admits = λ x. Unit {0};
}

-- numbers up to the cap: capped sum, capped product; every rule weighs 1
abbrev pub count_ops : Ops ℕ
count_ops = record {
  none = 0;
  unit = 1;
  sum = λ x y. capped (x + y);
  product = λ x y. capped (x * y);
  weight = λ rule cost. 1;
  admits = λ x. x ≤ cap;
}

-- the lesser of two costs, where nothing is above every number
abbrev pub lesser : Option ℕ → Option ℕ → Option ℕ
lesser None y = y
lesser (Some x) None = Some x
lesser (Some x) (Some y) = Some (min x y)

-- the capped sum of two costs, nothing where one is nothing
abbrev pub together : Option ℕ → Option ℕ → Option ℕ
together None y = None
together (Some x) None = None
together (Some x) (Some y) = Some (capped (x + y))

-- nothing, or a number up to the cap
abbrev pub Cost : Option ℕ → Type 0
Cost None = Unit {0}
Cost (Some x) = x ≤ cap

-- a number up to the cap, or nothing: the lesser, the capped sum; a rule weighs its cost, capped
abbrev pub least_cost_ops : Ops (Option ℕ)
least_cost_ops = record {
  none = None;
  unit = Some 0;
  sum = lesser;
  product = together;
  weight = λ rule cost. Some (capped cost);
  admits = Cost;
}

-- one value of each of two kinds, side by side
abbrev pub pair_ops : {A B : Type 0} → Ops A → Ops B → Ops (A × B)
pair_ops a b = record {
  none = (a.none, b.none);
  unit = (a.unit, b.unit);
  sum = λ x y. (a.sum x.0 y.0, b.sum x.1 y.1);
  product = λ x y. (a.product x.0 y.0, b.product x.1 y.1);
  weight = λ rule cost. (a.weight rule cost, b.weight rule cost);
  admits = λ x. a.admits x.0 × b.admits x.1;
}
