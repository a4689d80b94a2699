use Rattle.charts.proofs.Readable.{readable}
use Rattle.sums.proofs.Totals.{same_total, value_in}
use Rattle.semiring.specs.Values.{value}
use Rattle.sums.proofs.Unions.{one_sum}
use Rattle.sums.proofs.Values.{item_value}
use Rattle.sums.proofs.Ranked.{all_kept, values, valued}
use Rattle.sums.proofs.Finite.{reading_sum}
use Rattle.sums.proofs.laws.sums_stand.Goals as goal

pub returns : goal.returns
returns k c =
    let o = k.K.Semiring.ops in
    let laws = k.K.Semiring.lawful in
    record {
      order = λ cost R S d e f. same_total o laws (value o cost) (value_in o cost laws) R S d e (λ xs m. (f xs).0 m) (λ xs m. (f xs).1 m);
      items = λ g ts cost x L v separate i n l s t. item_value (readable g ts separate) o cost laws L v i n l s t;
      exist = λ g ts cost links rank ways falls. values o cost (all_kept g ts) links ways rank (λ x y i u. falls x y u);
      values = λ g ts cost links v rank separate h falls x i. valued (readable g ts separate) o cost laws (all_kept g ts) links v h rank (λ x y j u. falls x y u) x i;
      one = λ g ts cost x v w s t. one_sum o cost laws s t;
      readings = λ g ts cost F v separate headed l s. reading_sum separate headed o cost laws F v l s;
    }
