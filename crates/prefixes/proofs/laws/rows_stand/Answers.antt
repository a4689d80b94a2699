use Rattle.std.proofs.Common.{refl}
use Rattle.prefixes.proofs.Stacks.{chain_one, chain_push}
use Rattle.prefixes.proofs.laws.rows_stand.Goals as goal

pub returns : goal.returns
returns c = record { one = λ rows n us vs a b. chain_one a b refl; push = λ rows n us x a. chain_push x a }
