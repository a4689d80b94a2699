use Rattle.std.proofs.Common.{vec_items}
use Rattle.dialect.proofs.Goodness.{faultless_good}
use Rattle.dialect.proofs.dialect.Dialect.rules.Goals as goal

pub returns-clause-formed : goal.returns-clause-formed
returns-clause-formed c =
    let d = c.args.self.now in
    faultless_good (vec_items d.literals) (vec_items d.rules) d.start d.few d.spelled d.allowed d.named d.acyclic
