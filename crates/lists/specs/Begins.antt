-- Lists that begin with another.
use Rattle.std.specs.Prelude.{◌≡◌, List, ◌++◌}

-- xs is p followed by some list
abbrev pub Begins : {A : Type 0} → List A → List A → Type 0
Begins {A} p xs = (ys : List A) × (xs ≡ p ++ ys)
