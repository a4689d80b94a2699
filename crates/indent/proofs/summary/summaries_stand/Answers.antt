use Rattle.indent.proofs.Numbers.{allowed, passes, inhabited}
use Rattle.indent.proofs.summary.summaries_stand.Goals as goal

pub returns-clause-through : goal.returns-clause-through
returns-clause-through c = allowed

pub returns-clause-pass : goal.returns-clause-pass
returns-clause-pass c = passes

pub returns-clause-inhabited : goal.returns-clause-inhabited
returns-clause-inhabited c = inhabited
