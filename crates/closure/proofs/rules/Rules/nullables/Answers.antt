use Rattle.std.proofs.Common.{rules, tests}
use Rattle.closure.proofs.Nulls.{sound_none, nullables_found}
use Rattle.closure.proofs.rules.Rules.nullables.Goals as goal

pub loop-next-init : goal.loop-next-init
loop-next-init c = sound_none c.args.self.now.rows.now c.new-set.result c.new-set.ensures

pub returns-then-eq : goal.returns-then-eq
returns-then-eq c = nullables_found c.args.self.now.rows.now c.loop-next.set c.loop-next.invariant (c.round-next.ensures.quiet (search (rules, tests)))
