use Rattle.semiring.proofs.Totals.{yes_no_means, count_means, least_cost_means}
use Rattle.semiring.proofs.meaning.kinds_stand.Goals as goal

pub returns : goal.returns
returns c = record { yes = yes_no_means; count = count_means; least = least_cost_means }
