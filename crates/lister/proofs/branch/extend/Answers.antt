use Rattle.lister.proofs.Firsts.{whole_nowhere}
use Rattle.lister.proofs.branch.extend.Goals as goal

pub returns-then-whole : goal.returns-then-whole
returns-then-whole g c = λ t room p s.
    let h = c.whole.ensures t room p s in
    (h.0, whole_nowhere _ p (g.C.Cursor.lawful _ t room p s) (h.1.0 c.if-whole.true))
