-- The tests have exactly one answer: there is one, and each refusal denies what the later ones say.
use Rattle.std.proofs.Common.{◌≡◌, ℕ, ◌+◌, ◌<◌, ◌≤◌, not, ◌⊎◌, List, length, Some, None, Option, refl, ap, inl, inr, arith}
use Rattle.std.proofs.lemmas.Bool.{cases_order, cases_lt}
use Rattle.std.proofs.lemmas.Bool.Decides.{Decides-not}
use Rattle.tokens.specs.declared.refusal.Refusal.{Refusal}
use Rattle.tokens.specs.declared.refusal.Refusal.TheVariants.{TooManyRows, BadLiteral, BadRule, NoRule, Cyclic}
use Rattle.rows.specs.declared.row.LiteralRow.{LiteralRow}
use Rattle.rows.specs.declared.row.RuleRow.{RuleRow}
use Rattle.rows.specs.Rows.{LiteralOk, RowOk, Finds}
use Rattle.rows.proofs.Deciding.{literal_test, decides_literal_row, row_test, decides_row, first_found}
use Rattle.dialect.specs.Faults.{Few, Spelled, Allowed, Named, NamesOk, OnCycle, Why, many, literal, rule, unruled, cyclic, Good}
use Rattle.dialect.specs.Laws.{Verdict, Determined, Refused}
use Rattle.dialect.proofs.Cycles.{cycle_test, decides_cycle, cycle_stable, cycle_none}
use Rattle.dialect.proofs.Goodness.{names_test, decides_names}

-- a first fault is one, and is none where all is well
same_first : (Ok : ℕ → Type 0) (n i j : ℕ) → Finds Ok n (Some i) → Finds Ok n (Some j) → i ≡ j
same_first Ok n i j (a, f, k) (b, h, l) = go (cases_order i j)
  where
    go : (i ≡ j) ⊎ ((i < j) ⊎ (j < i)) → i ≡ j
    go (inl e) = e
    go (inr (inl u)) = absurd (f (l i u))
    go (inr (inr u)) = absurd (h (k j u))

none_first : (Ok : ℕ → Type 0) (n i : ℕ) → Finds Ok n (Some i) → ((k : ℕ) → k < n → Ok k) → ⊥
none_first Ok n i (a, f, k) all = f (all i a)

module _ {ls : List LiteralRow} {rs : List RuleRow} {s : ℕ} where
  not_good : {e : Refusal} → Why ls rs s e → Good ls rs s → ⊥
  not_good (many w) g = w g.few
  not_good (literal i f w) g = none_first _ _ i w g.spelled
  not_good (rule i f sp w) g = none_first _ _ i w g.allowed
  not_good (unruled i f sp a w) g = none_first _ _ i w g.named
  not_good (cyclic i f sp a n c w) g = g.acyclic _ c

  same : {a b : Refusal} → Why ls rs s a → Why ls rs s b → a ≡ b
  same (many v) (many w) = refl
  same (many v) (literal j fw w) = absurd (v fw)
  same (many v) (rule j fw sw w) = absurd (v fw)
  same (many v) (unruled j fw sw aw w) = absurd (v fw)
  same (many v) (cyclic j fw sw aw nw cw w) = absurd (v fw)
  same (literal i fv v) (many w) = absurd (w fv)
  same (literal i fv v) (literal j fw w) = ap (λ (x : ℕ). BadLiteral x) (same_first _ _ i j v w)
  same (literal i fv v) (rule j fw sw w) = absurd (none_first _ _ i v sw)
  same (literal i fv v) (unruled j fw sw aw w) = absurd (none_first _ _ i v sw)
  same (literal i fv v) (cyclic j fw sw aw nw cw w) = absurd (none_first _ _ i v sw)
  same (rule i fv sv v) (many w) = absurd (w fv)
  same (rule i fv sv v) (literal j fw w) = absurd (none_first _ _ j w sv)
  same (rule i fv sv v) (rule j fw sw w) = ap (λ (x : ℕ). BadRule x) (same_first _ _ i j v w)
  same (rule i fv sv v) (unruled j fw sw aw w) = absurd (none_first _ _ i v aw)
  same (rule i fv sv v) (cyclic j fw sw aw nw cw w) = absurd (none_first _ _ i v aw)
  same (unruled i fv sv av v) (many w) = absurd (w fv)
  same (unruled i fv sv av v) (literal j fw w) = absurd (none_first _ _ j w sv)
  same (unruled i fv sv av v) (rule j fw sw w) = absurd (none_first _ _ j w av)
  same (unruled i fv sv av v) (unruled j fw sw aw w) = ap (λ (x : ℕ). NoRule x) (same_first _ _ i j v w)
  same (unruled i fv sv av v) (cyclic j fw sw aw nw cw w) = absurd (none_first _ _ i v nw)
  same (cyclic i fv sv av nv cv v) (many w) = absurd (w fv)
  same (cyclic i fv sv av nv cv v) (literal j fw w) = absurd (none_first _ _ j w sv)
  same (cyclic i fv sv av nv cv v) (rule j fw sw w) = absurd (none_first _ _ j w av)
  same (cyclic i fv sv av nv cv v) (unruled j fw sw aw w) = absurd (none_first _ _ j w nv)
  same (cyclic i fv sv av nv cv v) (cyclic j fw sw aw nw cw w) = ap (λ (x : ℕ). Cyclic x) (same_first _ _ i j v w)

module _ (ls : List LiteralRow) (rs : List RuleRow) (s : ℕ) where
  same_verdict : (q r : Option Refusal) → Verdict ls rs s q → Verdict ls rs s r → q ≡ r
  same_verdict None None v w = refl
  same_verdict None (Some e) v w = absurd (not_good w v)
  same_verdict (Some e) None v w = absurd (not_good v w)
  same_verdict (Some d) (Some e) v w = ap (λ (x : Refusal). Some x) (same v w)

  -- some answer: the tests, one after the other
  answer : (r : Option Refusal) × Verdict ls rs s r
  answer = counted (cases_lt 64 (length ls)) (cases_lt 256 (length rs))
    where
      walked : Few ls rs → Spelled ls → Allowed ls rs s → Named rs s → ((k : ℕ) → k < length rs → OnCycle rs s k → ⊥) ⊎ ((i : ℕ) × Finds (λ k. OnCycle rs s k → ⊥) (length rs) (Some i)) → (r : Option Refusal) × Verdict ls rs s r
      walked f sp a n (inl h) = (None, record { few = f; spelled = sp; allowed = a; named = n; acyclic = cycle_none rs s h })
      walked f sp a n (inr (i, w)) = (Some (Cyclic i), cyclic i f sp a n (cycle_stable rs s i w.1) w)

      named : Few ls rs → Spelled ls → Allowed ls rs s → Named rs s ⊎ ((i : ℕ) × Finds (NamesOk rs s) (length rs + 1) (Some i)) → (r : Option Refusal) × Verdict ls rs s r
      named f sp a (inl n) = walked f sp a n (first_found (λ k. not (cycle_test rs s k)) (λ k. OnCycle rs s k → ⊥) (λ k. Decides-not (cycle_test rs s k) (decides_cycle rs s k)) (length rs))
      named f sp a (inr (i, w)) = (Some (NoRule i), unruled i f sp a w)

      allowed : Few ls rs → Spelled ls → Allowed ls rs s ⊎ ((i : ℕ) × Finds (RowOk (length ls) rs s) (length rs + 1) (Some i)) → (r : Option Refusal) × Verdict ls rs s r
      allowed f sp (inl a) = named f sp a (first_found (names_test rs s) (NamesOk rs s) (decides_names rs s) (length rs + 1))
      allowed f sp (inr (i, w)) = (Some (BadRule i), rule i f sp w)

      spelled : Few ls rs → Spelled ls ⊎ ((i : ℕ) × Finds (LiteralOk ls) (length ls) (Some i)) → (r : Option Refusal) × Verdict ls rs s r
      spelled f (inl sp) = allowed f sp (first_found (row_test (length ls) rs s) (RowOk (length ls) rs s) (decides_row (length ls) rs s) (length rs + 1))
      spelled f (inr (i, w)) = (Some (BadLiteral i), literal i f w)

      counted : (64 < length ls) ⊎ (length ls ≤ 64) → (256 < length rs) ⊎ (length rs ≤ 256) → (r : Option Refusal) × Verdict ls rs s r
      counted (inl h) k = (Some TooManyRows, many (λ f. omega arith))
      counted (inr h) (inl k) = (Some TooManyRows, many (λ f. omega arith))
      counted (inr h) (inr k) = spelled (h, k) (first_found (literal_test ls) (LiteralOk ls) (decides_literal_row ls) (length ls))

pub refused : Refused
refused ls rs s e w g = not_good w g

pub determined : Determined
determined ls rs s = let (r, v) = answer ls rs s in (r, v, λ q w. same_verdict ls rs s q r w v)
