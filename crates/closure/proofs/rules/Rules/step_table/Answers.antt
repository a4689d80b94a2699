use Rattle.std.proofs.Common.{arith}
use Rattle.closure.proofs.Stepping.{table_none, table_more}
use Rattle.closure.proofs.rules.Rules.step_table.Goals as goal

pub loop-row-init : goal.loop-row-init
loop-row-init c = table_none c.args.self.now.rows.now c.args.nullable c.new-table.result c.new-table.ensures

pub loop-row-preserved : goal.loop-row-preserved
loop-row-preserved c = table_more c.args.self.now.rows.now c.args.nullable c.loop-row.row-index c.loop-row.table c.index-table-k.result c.steps_of.result c.union.result (c.args.self.now.formed c.loop-row.row-index (omega arith)).0 c.loop-row.invariant c.steps_of.ensures c.union.ensures.symbols
