use Rattle.prefixes.proofs.Tables.{table_sum}
use Rattle.prefixes.proofs.laws.tables_stand.Goals as goal

pub returns : goal.returns
returns k c = λ g ts cost links ups v F r P x us hand table sep ways lifts values roots w inner outer. table_sum sep k.K.Semiring.ops cost k.K.Semiring.lawful links ways ups lifts v values F roots w hand table inner outer
