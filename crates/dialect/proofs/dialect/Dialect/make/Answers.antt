use Rattle.std.proofs.Common.{vec_items}
use Rattle.dialect.proofs.Goodness.{carried}
use Rattle.dialect.proofs.dialect.Dialect.make.Goals as goal

pub invariant_of-result : goal.invariant_of-result
invariant_of-result c =
    let rows = c.args.rows.now in
    let t = carried rows.literals.now (vec_items c.in_ok-to_vec.field-0) rows.rules.now (vec_items c.in_ok-to_vec-2.field-0) rows.start c.in_ok-nullable.field-0
    (c.in_ok-to_vec.ensures.items_if_clones_equal (λ x y e. e)) (c.in_ok-to_vec-2.ensures.items_if_clones_equal (λ x y e. e)) c.in_ok-nullable.ensures in
    record { few = t.0; spelled = t.1.0; allowed = t.1.1.0; named = t.1.1.1.0; acyclic = t.1.1.1.1.0; nulls = t.1.1.1.1.1.0; ranked = t.1.1.1.1.1.1.0 }
