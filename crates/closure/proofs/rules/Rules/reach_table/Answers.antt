use Rattle.closure.proofs.Reaching.{reach_found}
use Rattle.closure.proofs.rules.Rules.reach_table.Goals as goal

pub returns : goal.returns
returns c = reach_found c.args.self.now.rows.now c.args.nullable c.step_table-table.result c.close.new.table c.args.self.now.formed c.requires c.step_table-table.ensures c.close.ensures
