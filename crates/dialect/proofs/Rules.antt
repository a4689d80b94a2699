-- What every rule of a well-formed dialect keeps to.
use Rattle.std.proofs.Common.{◌≡◌, ℕ, ◌<◌, ◌≤◌, List, length, get_or, take, Some, sym, subst, arith}
use Rattle.std.proofs.lemmas.List.{length-map, length-take}
use Rattle.lists.specs.Entries.{nth}
use Rattle.lists.proofs.Mapped.{mapped_at, front_at}
use Rattle.grammar.specs.Grammar.{Place, Rule}
use Rattle.rows.specs.declared.row.LiteralRow.{LiteralRow}
use Rattle.rows.specs.declared.row.RuleRow.{RuleRow}
use Rattle.rows.specs.Meaning.{place_of, rule_of, grammar_of_rows}
use Rattle.rows.specs.Rows.{no_rule, no_place, Nonterminal, Known, RuleOk}
use Rattle.dialect.specs.Faults.{Good}

pub record RuleKept (n : ℕ) (p : Rule) : Type 0 where
  pub left : Nonterminal p.left
  pub cost : p.cost ≤ 10000
  pub few : length p.places ≤ 6
  pub known : (k : ℕ) (q : Place) → nth p.places k ≡ Some q → Known n q.symbol

row_kept : (n : ℕ) (r : RuleRow) → RuleOk n r → RuleKept n (rule_of r)
row_kept n r o = record {
  left = o.left;
  cost = o.cost;
  few = omega (arith, length-map (take r.count r.places) place_of, length-take r.count r.places, o.count);
  known = λ k q h. let (l, e, _) = front_at place_of no_place r.count r.places k q h in subst (λ (x : Place). Known n x.symbol) (sym e) (o.places k l).symbol;
}

-- rule r of good rows: there are at most 256
pub rule_kept : (ls : List LiteralRow) (rs : List RuleRow) (s : ℕ) → Good ls rs s → (r : ℕ) (p : Rule) → nth (grammar_of_rows rs s).rules r ≡ Some p → (r < 256) × RuleKept (length ls) p
rule_kept ls rs s g r p h =
    let (l, e) = mapped_at rule_of no_rule rs r p h in
    (omega (arith, g.few), subst (λ (x : Rule). RuleKept (length ls) x) (sym e) (row_kept (length ls) (get_or rs r no_rule) ((g.allowed r (omega arith)).rule l)))
