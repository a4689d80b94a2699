-- Lists that hold a set: exactly its elements, each once.
use Rattle.std.specs.Prelude.{List}
use Rattle.lists.specs.Members.{◌∈◌, Distinct}

-- the list R has no element twice, and its elements are those with P
pub record Exactly {A : Type 0} (P : A → Type 0) (R : List A) : Type 0 where
  pub distinct : Distinct R
  pub only : (a : A) → a ∈ R → P a
  pub every : (a : A) → P a → a ∈ R
