-- What is made of the rows of the dialect at first.
use Rattle.std.proofs.Common.{◌≡◌, [], Ok, Err, Result, inl, inr}
use Rattle.tokens.specs.declared.refusal.Refusal.{Refusal}
use Rattle.tokens.specs.declared.refusal.Refusal.TheVariants.{NoMemory}
use Rattle.dialect.specs.declared.dialect.Dialect.{Dialect}
use Rattle.dialect.specs.Loose.{loose}
use Rattle.dialect.specs.Loads.{Refuses, Made, Builtin}
use Rattle.dialect.proofs.Order.{refused}
use Rattle.dialect.proofs.Samples.{loose_good}

pub builtin_made : (r : Result Dialect Refusal) → Made [] loose 256 r → Builtin r
builtin_made (Ok d) h = h
builtin_made (Err e) w = go w
  where
    go : Refuses [] loose 256 e → e ≡ NoMemory
    go (inl f) = absurd (refused [] loose 256 e f loose_good)
    go (inr (g, m)) = m
