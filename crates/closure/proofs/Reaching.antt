-- The paths through the table of steps are the paths of steps between nonterminals.
use Rattle.std.proofs.Common.{◌≡◌, ℕ, ◌+◌, ◌-◌, ◌<◌, true, List, length, get_or, Some, sym, ap, ◌∙◌, subst, arith}
use Rattle.lists.specs.Entries.{nth}
use Rattle.lists.proofs.Mapped.{mapped_at, mapped_from, front_at, front_from}
use Rattle.grammar.specs.Grammar.{Place, Rule, Grammar}
use Rattle.grammar.specs.Steps.{Nullable, Steps, GetsTo, one, further}
use Rattle.rows.specs.declared.row.RuleRow.{RuleRow}
use Rattle.rows.specs.Meaning.{place_of, rule_of, grammar_of_rows}
use Rattle.rows.specs.Rows.{no_rule, no_place, Nonterminal}
use Rattle.closure.specs.Sets.{has, in_set}
use Rattle.closure.specs.Nulls.{Formed, NullableSet}
use Rattle.closure.specs.Paths.{Path, direct, join, Closure}
use Rattle.closure.specs.Tables.{RowSteps, StepTable, ReachTable}
use Rattle.closure.proofs.Sets.{in_at, in_from}

step_to : (rules : List RuleRow) (start nulls : ℕ) → NullableSet rules nulls → {a b : ℕ} → Steps (grammar_of_rows rules start) a b → RowSteps rules nulls (length rules) a b
step_to rules start nulls n {a} {b} s =
    let (l, w) = mapped_at rule_of no_rule rules s.at s.of s.is in
    let r : RuleRow = get_or rules s.at no_rule in
    let h : nth (rule_of r).places s.place ≡ Some s.what = subst (λ (p : Rule). nth p.places s.place ≡ Some s.what) w s.there in
    let (c, v, m) = front_at place_of no_place r.count r.places s.place s.what h in
    let e : r.left ≡ a = sym (ap (λ (p : Rule). p.left) w) ∙ s.left in
    let d : (get_or r.places s.place no_place).symbol ≡ b = sym (ap (λ (q : Place). q.symbol) v) ∙ s.symbol in (
      s.at,
      l,
      e,
      (
        s.place,
        c,
        m,
        d,
        λ k u t ne. (n start (get_or r.places k no_place).symbol).1
            (s.others k (place_of (get_or r.places k no_place)) (subst (λ (p : Rule). nth p.places k ≡ Some (place_of (get_or r.places k no_place))) (sym w) (front_from place_of no_place r.count r.places k u t)) ne),
      ),
    )

step_from : (rules : List RuleRow) (start nulls a b : ℕ) → NullableSet rules nulls → RowSteps rules nulls (length rules) a b → Steps (grammar_of_rows rules start) a b
step_from rules start nulls a b n (i, l, e, (j, m, x, s, o)) = record {
  at = i;
  of = rule_of (get_or rules i no_rule);
  is = mapped_from rule_of no_rule rules i l;
  left = e;
  place = j;
  what = place_of (get_or (get_or rules i no_rule).places j no_place);
  there = front_from place_of no_place (get_or rules i no_rule).count (get_or rules i no_rule).places j m x;
  symbol = s;
  others = λ k q h ne.
      let (u, v, t) = front_at place_of no_place (get_or rules i no_rule).count (get_or rules i no_rule).places k q h in
      subst (λ (p : Place). Nullable (grammar_of_rows rules start) p.symbol) (sym v) ((n start (get_or (get_or rules i no_rule).places k no_place).symbol).0 (o k u t ne));
}

-- what steps is the left symbol of a rule
pub step_row : (rules : List RuleRow) (start : ℕ) {a b : ℕ} → Steps (grammar_of_rows rules start) a b → (i : ℕ) × (i < length rules) × ((get_or rules i no_rule).left ≡ a)
step_row rules start s = let (l, w) = mapped_at rule_of no_rule rules s.at s.of s.is in (s.at, l, sym (ap (λ (p : Rule). p.left) w) ∙ s.left)

pub gets_row : (rules : List RuleRow) (start : ℕ) {a b : ℕ} → GetsTo (grammar_of_rows rules start) a b → (i : ℕ) × (i < length rules) × ((get_or rules i no_rule).left ≡ a)
gets_row rules start (one s) = step_row rules start s
gets_row rules start (further s t) = step_row rules start s

pub step_first : (rules : List RuleRow) (start : ℕ) → Formed rules → {a b : ℕ} → Steps (grammar_of_rows rules start) a b → Nonterminal a
step_first rules start formed s = let (i, l, e) = step_row rules start s in subst (λ (x : ℕ). Nonterminal x) e (formed i l).0

gets_append : {g : Grammar} {a b c : ℕ} → GetsTo g a b → GetsTo g b c → GetsTo g a c
gets_append (one s) t = further s t
gets_append (further s u) t = further s (gets_append u t)

module _ (rules : List RuleRow) (start nulls : ℕ) (table : List ℕ) (formed : Formed rules) (n : NullableSet rules nulls) (d : StepTable rules nulls (length rules) table) where
  gets_first : {a b : ℕ} → GetsTo (grammar_of_rows rules start) a b → Nonterminal a
  gets_first (one s) = step_first rules start formed s
  gets_first (further s t) = step_first rules start formed s

  step_path : {a b : ℕ} → Steps (grammar_of_rows rules start) a b → Nonterminal b → Path table (a - 256) (b - 256)
  step_path {a} {b} s m =
      let f = step_first rules start formed s in
      direct (omega arith) (omega arith) (in_at (get_or table (a - 256) 0) b ((d a b f).1 (m, step_to rules start nulls n s))).1

  gets_path : {a b : ℕ} → GetsTo (grammar_of_rows rules start) a b → Nonterminal b → Path table (a - 256) (b - 256)
  gets_path (one s) m = step_path s m
  gets_path (further s t) m = join (step_path s (gets_first t)) (gets_path t m)

  path_gets : {x y : ℕ} → Path table x y → GetsTo (grammar_of_rows rules start) (x + 256) (y + 256)
  path_gets (direct {a = x} {b = y} h l e) =
      let u : (x + 256) - 256 ≡ x = omega arith in
      let v : (y + 256) - 256 ≡ y = omega arith in
      let i : has (get_or table ((x + 256) - 256) 0) ((y + 256) - 256) ≡ true = rw (u, v) e in
      one (step_from rules start nulls (x + 256) (y + 256) n ((d (x + 256) (y + 256) (omega arith, omega arith)).0 (in_from (get_or table ((x + 256) - 256) 0) (y + 256) (omega arith, omega arith) i)).1)
  path_gets (join x y) = gets_append (path_gets x) (path_gets y)

-- so the closed table has what each nonterminal gets to
pub reach_found : (rules : List RuleRow) (nulls : ℕ) (table closed : List ℕ) → Formed rules → NullableSet rules nulls → StepTable rules nulls (length rules) table → Closure table closed → ReachTable rules closed
reach_found rules nulls table closed formed n d c start a b f = (there, back)
  where
    there : in_set (get_or closed (a - 256) 0) b ≡ true → Nonterminal b × GetsTo (grammar_of_rows rules start) a b
    there e =
        let (m, h) = in_at (get_or closed (a - 256) 0) b e in
        let t = path_gets rules start nulls table formed n d ((c (a - 256) (b - 256) (omega arith) (omega arith)).0 h) in
        let u : (a - 256) + 256 ≡ a = omega arith in
        let v : (b - 256) + 256 ≡ b = omega arith in
        (m, subst (λ (x : ℕ). GetsTo (grammar_of_rows rules start) x b) u (subst (λ (y : ℕ). GetsTo (grammar_of_rows rules start) ((a - 256) + 256) y) v t))

    back : Nonterminal b × GetsTo (grammar_of_rows rules start) a b → in_set (get_or closed (a - 256) 0) b ≡ true
    back (m, t) = in_from (get_or closed (a - 256) 0) b m ((c (a - 256) (b - 256) (omega arith) (omega arith)).1 (gets_path rules start nulls table formed n d t m))
