use Rattle.dialect.proofs.Naming.{ruled_none}
use Rattle.dialect.proofs.names.ruled.Goals as goal

pub loop-rule-init : goal.loop-rule-init
loop-rule-init c = ruled_none c.args.rules.now.rows.now c.new-out.result c.new-out.ensures
