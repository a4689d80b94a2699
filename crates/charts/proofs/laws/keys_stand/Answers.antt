use Rattle.charts.proofs.Keys.{uses_falls, number_falls}
use Rattle.charts.proofs.laws.keys_stand.Goals as goal

pub returns : goal.returns
returns c = record { keys = λ g f r k ts x y u. uses_falls g f r k u; numbers = λ g f r k m n l p ts x y u. number_falls g f r k m n l p u }
