use Rattle.std.proofs.Common.{◌<◌, ◌≤◌, length, arith, rules}
use Rattle.dialect.specs.Faults.{many, literal, rule, unruled, cyclic}
use Rattle.dialect.proofs.Cycles.{cycle_stable, cycle_none}
use Rattle.dialect.proofs.Goodness.{allowed_formed}
use Rattle.dialect.proofs.examine.examine.Goals as goal

pub returns-then-rows-gt-MOST_LITERALS : goal.returns-then-rows-gt-MOST_LITERALS
returns-then-rows-gt-MOST_LITERALS c = many (λ f. elim c.then-rows-gt-MOST_LITERALS.branch [ goal.then-rows-gt-MOST_LITERALS-via-then-rows-gt-MOST_LITERALS w ↦ omega arith | goal.then-rows-gt-MOST_LITERALS-via-else-rows-gt-MOST_LITERALS+then-rows-gt-MOST_RULES w ↦ omega arith ])

pub returns-in-Some : goal.returns-in-Some
returns-in-Some c = literal c.in-Some.row (c.if-rows-gt-MOST_LITERALS.false, c.if-rows-gt-MOST_RULES.false) c.in-Some.ensures

pub returns-in-Some-rule_fault : goal.returns-in-Some-rule_fault
returns-in-Some-rule_fault c = rule c.in-Some-rule_fault.row (c.if-rows-gt-MOST_LITERALS.false, c.if-rows-gt-MOST_RULES.false) c.in_default.ensures c.in-Some-rule_fault.ensures

pub invariant_of-rules : goal.invariant_of-rules
invariant_of-rules c = record { formed = allowed_formed c.args.rows.now.literals.now c.args.rows.now.rules.now c.args.rows.now.start c.in_default-rule_fault.ensures }

pub returns-in-Some-name_fault : goal.returns-in-Some-name_fault
returns-in-Some-name_fault c = unruled c.in-Some-name_fault.row (c.if-rows-gt-MOST_LITERALS.false, c.if-rows-gt-MOST_RULES.false) c.in_default.ensures c.in_default-rule_fault.ensures c.in-Some-name_fault.ensures

pub overflow_cast-result-in-Some-cycle_fault : goal.overflow_cast-result-in-Some-cycle_fault
overflow_cast-result-in-Some-cycle_fault c =
    let h : c.in-Some-cycle_fault.row < length c.args.rows.now.rules.now = (c.in-Some-cycle_fault.ensures c.args.rows.now.start).0 in
    let k : length c.args.rows.now.rules.now ≤ 256 = c.if-rows-gt-MOST_RULES.false in
    search rules

pub returns-in-Some-cycle_fault : goal.returns-in-Some-cycle_fault
returns-in-Some-cycle_fault c =
    let i = c.in-Some-cycle_fault.row in
    let f = c.in-Some-cycle_fault.ensures c.args.rows.now.start in
    cyclic i (c.if-rows-gt-MOST_LITERALS.false, c.if-rows-gt-MOST_RULES.false) c.in_default.ensures c.in_default-rule_fault.ensures c.in_default-name_fault.ensures (cycle_stable c.args.rows.now.rules.now c.args.rows.now.start i f.1) f

pub returns : goal.returns
returns c = record {
  good = record {
    few = (c.if-rows-gt-MOST_LITERALS.false, c.if-rows-gt-MOST_RULES.false);
    spelled = c.in_default.ensures;
    allowed = c.in_default-rule_fault.ensures;
    named = c.in_default-name_fault.ensures;
    acyclic = cycle_none c.args.rows.now.rules.now c.args.rows.now.start (c.in_default-cycle_fault.ensures c.args.rows.now.start);
  };
  nullable = c.nullables-nullable.ensures;
  ranks = c.ranks-ranks.ensures c.args.rows.now.rules.now c.reach_table-reach.ensures;
}
