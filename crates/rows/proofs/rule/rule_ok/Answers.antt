use Rattle.std.proofs.Common.{take, arith, rules, tests}
use Rattle.std.proofs.lemmas.Iterator.{YieldsList-from_slice, cases_from_all}
use Rattle.rows.specs.Rows.{no_place, PlaceOk}
use Rattle.rows.proofs.Chains.{Not, Decides-front, rule_by_places}
use Rattle.rows.proofs.rule.rule_ok.Goals as goal

pub returns : goal.returns
returns c =
    let r = c.args.row.now in
    let P = PlaceOk c.args.literals in
    let ps = take r.count r.places in
    let d = Decides-front P no_place r.count r.places _ (λ k a b. absurd (omega arith)) (cases_from_all _ _ _ P (Not P) c.all.ensures.ran (YieldsList-from_slice ps cc) (λ x q k. search (rules, tests)) (λ x q k. search (rules, tests))) in
    rule_by_places c.args.literals r _ (search rules) (omega arith) (omega arith) d
