use Rattle.std.proofs.Common.{take, arith, rules, tests}
use Rattle.std.proofs.lemmas.Iterator.{YieldsList-from_slice, cases_from_all}
use Rattle.rows.specs.Rows.{no_place}
use Rattle.rows.proofs.Chains.{Not, Decides-front}
use Rattle.dialect.proofs.Naming.{NamedIn}
use Rattle.dialect.proofs.names.names_within.Goals as goal

pub returns : goal.returns
returns c =
    let r = c.args.row.now in
    let P = NamedIn c.args.set in
    let ps = take r.count r.places in
    Decides-front P no_place r.count r.places _ (λ k a b n. absurd (omega arith)) (cases_from_all _ _ _ P (Not P) c.all.ensures.ran (YieldsList-from_slice ps cc) (λ x q k. search (rules, tests)) (λ x q k. search (rules, tests)))
