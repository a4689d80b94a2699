-- Good rows, and what a dialect carries of them.
use Rattle.std.proofs.Common.{◌≡◌, ℕ, ◌+◌, ◌≤◌, Bool, true, false, ◌&&◌, eqb, ltb, List, [], length, get_or, Decides, arith}
use Rattle.std.proofs.lemmas.Bool.Decides.{same_from_decides, Decides-and, Decides-like, Decides-ltb, Decides-eqb}
use Rattle.grammar.specs.Steps.{Acyclic}
use Rattle.grammar.specs.Nulling.{nullable}
use Rattle.grammar.specs.Reaching.{circular}
use Rattle.grammar.proofs.Nulling.{nullable_decides}
use Rattle.grammar.proofs.Reaching.{acyclic_from}
use Rattle.rows.specs.declared.row.LiteralRow.{LiteralRow}
use Rattle.rows.specs.declared.row.RuleRow.{RuleRow}
use Rattle.rows.specs.Meaning.{grammar_of_rows}
use Rattle.rows.specs.Rows.{no_place, no_rule, Nonterminal, LiteralOk, RowOk}
use Rattle.rows.proofs.Deciding.{stable, implies, decides_implies, all_below, one_below, decides_all, decides_one, is_nonterminal, decides_nonterminal, literal_test, decides_literal_row, row_test, decides_row}
use Rattle.closure.specs.Sets.{in_set}
use Rattle.closure.specs.Nulls.{Formed, NullableSet}
use Rattle.closure.specs.Ranks.{RankTable}
use Rattle.dialect.specs.Faults.{Few, Ruled, NamesOk, Allowed, Named, Good}
use Rattle.dialect.specs.declared.examine.Tables.{Tables}
use Rattle.dialect.specs.Examined.{Tabled}
use Rattle.dialect.specs.Invariants.{Faultless, Nulls}

pub allowed_formed : (literals : List LiteralRow) (rules : List RuleRow) (start : ℕ) → Allowed literals rules start → Formed rules
allowed_formed literals rules start h i l = let o = (h i (omega arith)).rule l in (o.left, o.count)

abbrev ruled_test : List RuleRow → ℕ → Bool
ruled_test rules a = one_below (λ k. eqb (get_or rules k no_rule).left a) (length rules)

decides_ruled : (rules : List RuleRow) (a : ℕ) → Decides (ruled_test rules a) (Ruled rules a)
decides_ruled rules a = decides_one (λ k. eqb (get_or rules k no_rule).left a) (λ k. (get_or rules k no_rule).left ≡ a) (λ k. Decides-eqb (get_or rules k no_rule).left a) (length rules)

-- the symbol is no nonterminal, or has a rule
abbrev named_test : List RuleRow → ℕ → Bool
named_test rules a = implies (is_nonterminal a) (ruled_test rules a)

abbrev pub names_test : List RuleRow → ℕ → ℕ → Bool
names_test rules start i = implies (ltb i (length rules)) (all_below (λ k. named_test rules (get_or (get_or rules i no_rule).places k no_place).symbol) (get_or rules i no_rule).count) && implies (eqb i (length rules)) (ruled_test rules start)

pub decides_names : (rules : List RuleRow) (start i : ℕ) → Decides (names_test rules start i) (NamesOk rules start i)
decides_names rules start i =
    let row : RuleRow = get_or rules i no_rule in
    Decides-like (names_test rules start i) (λ x. record { rule = x.0; last = x.1 }) (λ o. (o.rule, o.last))
    (Decides-and (implies (ltb i (length rules)) (all_below (λ k. named_test rules (get_or row.places k no_place).symbol) row.count)) (implies (eqb i (length rules)) (ruled_test rules start))
    (decides_implies (ltb i (length rules)) (all_below (λ k. named_test rules (get_or row.places k no_place).symbol) row.count) (Decides-ltb i (length rules))
    (decides_all (λ k. named_test rules (get_or row.places k no_place).symbol) (λ k. Nonterminal (get_or row.places k no_place).symbol → Ruled rules (get_or row.places k no_place).symbol)
    (λ k. decides_implies (is_nonterminal (get_or row.places k no_place).symbol) (ruled_test rules (get_or row.places k no_place).symbol) (decides_nonterminal (get_or row.places k no_place).symbol) (decides_ruled rules (get_or row.places k no_place).symbol))
    row.count))
    (decides_implies (eqb i (length rules)) (ruled_test rules start) (Decides-eqb i (length rules)) (decides_ruled rules start)))

-- rules that are written out pass if the tests compute to true
pub computed_allowed : (rules : List RuleRow) (start : ℕ) → all_below (row_test 0 rules start) (length rules + 1) ≡ true → Allowed [] rules start
computed_allowed rules start = (decides_all (row_test 0 rules start) (RowOk 0 rules start) (decides_row 0 rules start) (length rules + 1)).0

pub computed_named : (rules : List RuleRow) (start : ℕ) → all_below (names_test rules start) (length rules + 1) ≡ true → Named rules start
computed_named rules start = (decides_all (names_test rules start) (NamesOk rules start) (decides_names rules start) (length rules + 1)).0

pub computed_good : (rules : List RuleRow) (start : ℕ) → length rules ≤ 256 → all_below (row_test 0 rules start) (length rules + 1) ≡ true → all_below (names_test rules start) (length rules + 1) ≡ true → circular (grammar_of_rows rules start) ≡ false → Good [] rules start
computed_good rules start f a n c = record {
  few = (omega arith, f);
  spelled = λ i h. absurd (omega arith);
  allowed = computed_allowed rules start a;
  named = computed_named rules start n;
  acyclic = acyclic_from (grammar_of_rows rules start) c;
}

-- what a dialect carries of its rows says that their left symbols and counts are allowed, and that they are good
pub faultless_formed : (n : ℕ) (rs : List RuleRow) (s : ℕ) → Faultless (RowOk n rs s) (length rs + 1) → Formed rs
faultless_formed n rs s h i l = let o = (stable (row_test n rs s i) (decides_row n rs s i) (h i (omega arith))).rule l in (o.left, o.count)

pub faultless_good : (ls : List LiteralRow) (rs : List RuleRow) (s : ℕ) → Few ls rs → Faultless (LiteralOk ls) (length ls) → Faultless (RowOk (length ls) rs s) (length rs + 1) → Faultless (NamesOk rs s) (length rs + 1) → Acyclic (grammar_of_rows rs s) → Good ls rs s
faultless_good ls rs s few spelled allowed named acyclic = record {
  few = few;
  spelled = λ i l. stable (literal_test ls i) (decides_literal_row ls i) (spelled i l);
  allowed = λ i l. stable (row_test (length ls) rs s i) (decides_row (length ls) rs s i) (allowed i l);
  named = λ i l. stable (names_test rs s i) (decides_names rs s i) (named i l);
  acyclic = acyclic;
}

pub nulls_from : (rules : List RuleRow) (start set : ℕ) → NullableSet rules set → Nulls rules start set
nulls_from rules start set n a = same_from_decides (in_set set a) (nullable (grammar_of_rows rules start) a) (n start a) (nullable_decides (grammar_of_rows rules start) a)

-- what a dialect carries, from rows that passed the tests
abbrev pub Carried : List LiteralRow → List RuleRow → ℕ → ℕ → List ℕ → Type 0
Carried ls rs s set ranks = Few ls rs × (Faultless (LiteralOk ls) (length ls) × (Faultless (RowOk (length ls) rs s) (length rs + 1) × (Faultless (NamesOk rs s) (length rs + 1) × (Acyclic (grammar_of_rows rs s) × (Nulls rs s set × (RankTable rs ranks × Unit {0}))))))

pub carried : (ls ls' : List LiteralRow) (rs rs' : List RuleRow) (s : ℕ) (t : Tables) → ls' ≡ ls → rs' ≡ rs → Tabled ls rs s t → Carried ls' rs' s t.nullable t.ranks
carried ls ls' rs rs' s t e f h =
    let g = h.good in
    rw (e, f) (
      g.few,
      (
        (λ i l n. n (g.spelled i l)),
        (
          (λ i l n. n (g.allowed i l)),
          ((λ i l n. n (g.named i l)), (g.acyclic, (nulls_from rs s t.nullable h.nullable, (h.ranks, tt)))),
        ),
      ),
    )
