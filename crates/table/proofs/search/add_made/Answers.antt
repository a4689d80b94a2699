use Rattle.std.proofs.Common.{sym, ◌∙◌, arith}
use Rattle.table.proofs.Adding.{adds_there, adds_made, over_made}
use Rattle.table.proofs.search.add_made.Goals as goal

pub returns-then-is_some : goal.returns-then-is_some
returns-then-is_some c = adds_there _ _ _ _ _ c.in-Some.is _ c.find_row.ensures c.requires.0 c.requires.1 (sym c.is_some.ensures ∙ c.if-is_some.true)

pub returns-then-n-items : goal.returns-then-n-items
returns-then-n-items c = over_made _ _ _ _ _ c.in-Some.is _ c.find_row.ensures c.requires.0 c.requires.1 (omega arith) (sym c.is_some.ensures ∙ c.if-is_some.false)

pub returns : goal.returns
returns c = adds_made _ _ _ _ _ c.in-Some.is _ c.find_row.ensures c.requires.0 (omega arith) (sym c.is_some.ensures ∙ c.if-is_some.false)
