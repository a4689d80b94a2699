-- The set of the symbols that have a rule, made row by row, and the first row that names one without.
use Rattle.std.proofs.Common.{◌≡◌, ℕ, ◌+◌, ◌<◌, ◌≤◌, Bool, true, false, not, ◌||◌, eqb, ◌⊎◌, List, length, get_or, Some, None, Option, Decides, MatchOption, sym, refl, ◌∙◌, inl, inr, arith}
use Rattle.std.specs.Bool.{then_some}
use Rattle.std.specs.Option.{option_or}
use Rattle.std.specs.List.{AllWithin, HoldsAt}
use Rattle.std.proofs.lemmas.Bool.{eq-eqb, eqb-true, or_cases, or_left, or_right, cases_lt}
use Rattle.rows.specs.declared.row.PlaceRow.{PlaceRow}
use Rattle.rows.specs.declared.row.RuleRow.{RuleRow}
use Rattle.rows.specs.Rows.{no_place, no_rule, Nonterminal, Finds}
use Rattle.rows.proofs.Chains.{Not}
use Rattle.closure.specs.Sets.{in_set}
use Rattle.closure.proofs.Sets.{in_none}
use Rattle.dialect.specs.Faults.{RuledBy, Ruled, NamesOk}

pub ruled_none : (rules : List RuleRow) (set : ℕ) → set ≡ 0 → (a : ℕ) → Decides (in_set set a) (RuledBy rules 0 a)
ruled_none rules set z = rw z (λ a. (λ e. absurd (in_none a e), λ h. absurd (omega (arith, h.1))))

pub ruled_more : (rules : List RuleRow) (set out i : ℕ) → ((a : ℕ) → Decides (in_set set a) (RuledBy rules i a)) → ((a : ℕ) → in_set out a ≡ (in_set set a || eqb (get_or rules i no_rule).left a)) → (a : ℕ) → Decides (in_set out a) (RuledBy rules (i + 1) a)
ruled_more rules set out i d o a = ((λ e. there (or_cases (in_set set a) (eqb (get_or rules i no_rule).left a) (sym (o a) ∙ e))), λ h. o a ∙ back h (cases_lt h.0 i))
  where
    there : (in_set set a ≡ true) ⊎ (eqb (get_or rules i no_rule).left a ≡ true) → RuledBy rules (i + 1) a
    there (inl h) = let (k, l, e) = (d a).0 h in (k, omega arith, e)
    there (inr h) = (i, omega arith, eqb-true (get_or rules i no_rule).left a h)

    back : (h : RuledBy rules (i + 1) a) → (h.0 < i) ⊎ (i ≤ h.0) → (in_set set a || eqb (get_or rules i no_rule).left a) ≡ true
    back (k, l, e) (inl b) = or_left (in_set set a) (eqb (get_or rules i no_rule).left a) ((d a).1 (k, b, e))
    back (k, l, e) (inr b) = let w : k ≡ i = omega arith in or_right (in_set set a) (eqb (get_or rules i no_rule).left a) (eq-eqb (get_or rules i no_rule).left a (cc))

-- a place whose symbol is no nonterminal, or one of the set
abbrev pub NamedIn : ℕ → PlaceRow → Type 0
NamedIn set p = Nonterminal p.symbol → in_set set p.symbol ≡ true

-- each place of the row passes
abbrev pub Within : ℕ → RuleRow → Type 0
Within set row = (k : ℕ) → k < row.count → NamedIn set (get_or row.places k no_place)

-- the first row at fault, from the first rule at fault and what is told of the start, where the set has the symbols that
-- have a rule
module _ (rules : List RuleRow) (start set : ℕ) (d : (a : ℕ) → Decides (in_set set a) (Ruled rules a)) where
  named : (n : ℕ) → n ≤ length rules → AllWithin (Within set) rules 0 n → (j : ℕ) → j < n → NamesOk rules start j
  named n h all j l = record { rule = λ _ k c n. (d (get_or (get_or rules j no_rule).places k no_place).symbol).0 (all j no_rule (omega arith) l k c n); last = λ e. absurd (omega arith) }

  pub names_found : (r : Option ℕ)
      → MatchOption r (AllWithin (Within set) rules 0 (length rules)) (λ i. (i < length rules) × HoldsAt (Not (Within set)) rules i × AllWithin (Within set) rules 0 i)
      → Finds (NamesOk rules start) (length rules + 1) (option_or r (then_some (not (in_set set start)) (length rules)))
  names_found (Some i) (l, f, all) = (omega arith, (λ o. f no_rule (λ k c n. (d (get_or (get_or rules i no_rule).places k no_place).symbol).1 (o.rule l k c n))), named i (omega arith) all)
  names_found None all = go (in_set set start) (d start)
    where
      go : (b : Bool) → Decides b (Ruled rules start) → Finds (NamesOk rules start) (length rules + 1) (then_some (not b) (length rules))
      go true e = λ i l. each i (cases_lt i (length rules)) l
        where
          each : (i : ℕ) → (i < length rules) ⊎ (length rules ≤ i) → i < length rules + 1 → NamesOk rules start i
          each i (inl h) l = named (length rules) (omega arith) all i h
          each i (inr h) l = record { rule = λ m. absurd (omega arith); last = λ _. e.0 refl }
      go false e = (omega arith, (λ o. let f = e.1 (o.last refl) in let z : ◌≡◌ {A = ℕ} 0 1 = cc in omega arith), named (length rules) (omega arith) all)
