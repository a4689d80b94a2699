-- The sets of steps, made place by place and row by row.
use Rattle.std.proofs.Common.{◌≡◌, ℕ, ◌+◌, ◌-◌, ◌<◌, ◌≤◌, Bool, true, ◌||◌, ◌==◌, eqb, ◌⊎◌, List, length, get_or, set, take, replicate, Decides, All, sym, refl, ap, ◌∙◌, zero-add, subst, inl, inr, arith}
use Rattle.std.specs.List.{list_all, enumerate_from}
use Rattle.std.proofs.lemmas.List.FromFn.{length-enumerate_from, get_or-enumerate_from}
use Rattle.std.proofs.lemmas.Bool.Decides.{Decides-by_and}
use Rattle.std.proofs.lemmas.List.{get_or_default, length-take, get_or-take, length-replicate, get_or-replicate, get_or-set_same, get_or-set_other, length-set}
use Rattle.std.proofs.lemmas.Bool.{eq-eqb, eqb-true, or_cases, or_left, or_right, cases_lt, cases_eq}
use Rattle.rows.specs.declared.row.PlaceRow.{PlaceRow}
use Rattle.rows.specs.declared.row.RuleRow.{RuleRow}
use Rattle.rows.specs.Rows.{no_rule, no_place, Nonterminal}
use Rattle.closure.specs.Sets.{in_set}
use Rattle.closure.specs.Tables.{OthersIn, StepsBy, RowSteps, StepTable}
use Rattle.closure.proofs.Sets.{in_none}

-- a numbered place passes if its number is j or its symbol is in the set
abbrev pub others_test : ℕ → ℕ → (ℕ × PlaceRow) → Bool
others_test set j x = (x.0 == j) || in_set set x.1.symbol

abbrev Other : ℕ → ℕ → (ℕ × PlaceRow) → Type 0
Other set j x = (x.0 ≡ j → ⊥) → in_set set x.1.symbol ≡ true

decides_other : (set j : ℕ) (x : ℕ × PlaceRow) → Decides (others_test set j x) (Other set j x)
decides_other set j x = (there, λ o. back o (cases_eq x.0 j))
  where
    there : others_test set j x ≡ true → Other set j x
    there e n = go (or_cases (x.0 == j) (in_set set x.1.symbol) e)
      where
        go : ((x.0 == j) ≡ true) ⊎ (in_set set x.1.symbol ≡ true) → in_set set x.1.symbol ≡ true
        go (inl u) = absurd (n (eqb-true x.0 j u))
        go (inr u) = u

    back : Other set j x → (x.0 ≡ j) ⊎ (x.0 ≡ j → ⊥) → others_test set j x ≡ true
    back o (inl e) = or_left (x.0 == j) (in_set set x.1.symbol) (eq-eqb x.0 j e)
    back o (inr n) = or_right (x.0 == j) (in_set set x.1.symbol) (o n)

-- a counted place, alone and with its number
counted_at : (row : RuleRow) (k : ℕ) (d : PlaceRow) → k < length (take row.count row.places) → get_or (take row.count row.places) k d ≡ get_or row.places k no_place
counted_at row k d l =
    get_or_default (take row.count row.places) k d no_place l ∙ get_or-take row.count row.places k no_place (omega (arith, length-take row.count row.places))

numbered : (row : RuleRow) (k : ℕ) (d : ℕ × PlaceRow) → k < length (take row.count row.places) → get_or (enumerate_from 0 (take row.count row.places)) k d ≡ (k, get_or row.places k no_place)
numbered row k d l =
    get_or-enumerate_from 0 (take row.count row.places) k d l ∙ ap (λ (n : ℕ). (n, get_or (take row.count row.places) k d.1)) (zero-add k) ∙ ap (λ (p : PlaceRow). (k, p)) (counted_at row k d.1 l)

-- the symbol of a counted place, and that the place is there
pub counted_in : (row : RuleRow) (ps : List PlaceRow) (j : ℕ) (d : PlaceRow) → ps ≡ take row.count row.places → j < length ps → ((get_or ps j d).symbol ≡ (get_or row.places j no_place).symbol) × (j < length row.places)
counted_in row ps j d e l =
    let m : j < length (take row.count row.places) = subst (λ (x : List PlaceRow). j < length x) e l in
    (ap (λ (p : PlaceRow). p.symbol) (ap (λ (x : List PlaceRow). get_or x j d) e ∙ counted_at row j d m), omega (arith, length-take row.count row.places))

-- so all numbered places pass if every other place is in the set
pub others_decides : (set : ℕ) (row : RuleRow) (j : ℕ) (r : Bool) → r ≡ list_all (others_test set j) (enumerate_from 0 (take row.count row.places)) → Decides r (OthersIn set row j)
others_decides set row j r e = rw e ((λ a k h l n. there k h l n ((d.0 a) k (0, no_place) (omega (arith, length-enumerate_from 0 ps, length-take row.count row.places)))), λ o. d.1 (λ k x l. back o k x l))
  where
    ps : List PlaceRow
    ps = take row.count row.places

    d : Decides (list_all (others_test set j) (enumerate_from 0 ps)) (All (Other set j) (enumerate_from 0 ps))
    d = Decides-by_and (others_test set j) (Other set j) (list_all (others_test set j)) (decides_other set j) refl (λ _ _. refl) (enumerate_from 0 ps)

    there : (k : ℕ) → k < row.count → k < length row.places → (k ≡ j → ⊥) → Other set j (get_or (enumerate_from 0 ps) k (0, no_place)) → in_set set (get_or row.places k no_place).symbol ≡ true
    there k h l n o =
        let e = numbered row k (0, no_place) (omega (arith, length-take row.count row.places)) in
        ap (λ (x : ℕ × PlaceRow). in_set set x.1.symbol) (sym e) ∙ o (λ f. n (ap (λ (x : ℕ × PlaceRow). x.0) (sym e) ∙ f))

    back : OthersIn set row j → (k : ℕ) (x : ℕ × PlaceRow) → k < length (enumerate_from 0 ps) → Other set j (get_or (enumerate_from 0 ps) k x)
    back o k x l n =
        let m : k < length ps = omega (arith, length-enumerate_from 0 ps) in
        let e = numbered row k x m in
        ap (λ (y : ℕ × PlaceRow). in_set set y.1.symbol) e
        ∙ o k (omega (arith, length-take row.count row.places)) (omega (arith, length-take row.count row.places)) (λ f. n (ap (λ (y : ℕ × PlaceRow). y.0) e ∙ f))

-- the set of the steps by the first n places
abbrev pub StepSet : ℕ → RuleRow → ℕ → ℕ → Type 0
StepSet nulls row n out = (b : ℕ) → Decides (in_set out b) (Nonterminal b × StepsBy nulls row n b)

pub steps_none : (nulls : ℕ) (row : RuleRow) (out : ℕ) → out ≡ 0 → StepSet nulls row 0 out
steps_none nulls row out z = rw z (λ b. ((λ e. absurd (in_none b e)), λ h. absurd (omega (arith, h.1.1))))

module _ (nulls : ℕ) (row : RuleRow) (j out : ℕ) (symbol : ℕ) (is : symbol ≡ (get_or row.places j no_place).symbol) (d : StepSet nulls row j out) where
  -- the place j adds no step
  pub steps_left : (Nonterminal symbol → OthersIn nulls row j → ⊥) → StepSet nulls row (j + 1) out
  steps_left n b = ((λ e. let (m, (k, l, x, s, o)) = (d b).0 e in (m, (k, omega arith, x, s, o))), λ h. back h (cases_lt h.1.0 j))
    where
      back : (h : Nonterminal b × StepsBy nulls row (j + 1) b) → (h.1.0 < j) ⊎ (j ≤ h.1.0) → in_set out b ≡ true
      back (m, (k, l, x, s, o)) (inl u) = (d b).1 (m, (k, u, x, s, o))
      back (m, (k, l, x, s, o)) (inr u) =
          let w : k ≡ j = omega arith in
          let t : symbol ≡ b = cc in
          absurd (n (subst (λ (x : ℕ). Nonterminal x) (sym t) m) (subst (λ (x : ℕ). OthersIn nulls row x) w o))

  -- the place j adds its symbol
  pub steps_more : (new : ℕ) → Nonterminal symbol → j < length row.places → OthersIn nulls row j → ((a : ℕ) → in_set new a ≡ (in_set out a || eqb symbol a)) → StepSet nulls row (j + 1) new
  steps_more new n y o v b = ((λ e. there (or_cases (in_set out b) (eqb symbol b) (sym (v b) ∙ e))), λ h. v b ∙ back h (cases_lt h.1.0 j))
    where
      there : (in_set out b ≡ true) ⊎ (eqb symbol b ≡ true) → Nonterminal b × StepsBy nulls row (j + 1) b
      there (inl e) = let (m, (k, l, x, s, o)) = (d b).0 e in (m, (k, omega arith, x, s, o))
      there (inr e) = let s = eqb-true symbol b e in (subst (λ (x : ℕ). Nonterminal x) s n, (j, omega arith, y, sym is ∙ s, o))

      back : (h : Nonterminal b × StepsBy nulls row (j + 1) b) → (h.1.0 < j) ⊎ (j ≤ h.1.0) → (in_set out b || eqb symbol b) ≡ true
      back (m, (k, l, x, s, o)) (inl u) = or_left (in_set out b) (eqb symbol b) ((d b).1 (m, (k, u, x, s, o)))
      back (m, (k, l, x, s, o)) (inr u) = let w : k ≡ j = omega arith in or_right (in_set out b) (eqb symbol b) (eq-eqb symbol b (cc))

-- the table of the steps by the first n rules, of 64 entries
abbrev pub Stepping : List RuleRow → ℕ → ℕ → List ℕ → Type 0
Stepping rules nulls n table = (length table ≡ 64) × StepTable rules nulls n table

pub table_none : (rules : List RuleRow) (nulls : ℕ) (empty : ℕ) → empty ≡ 0 → Stepping rules nulls 0 (replicate 64 empty)
table_none rules nulls empty is = rw is (length-replicate {A = ℕ} 64 0, λ a b n. ((λ e. absurd (in_none b (let z : get_or {A = ℕ} (replicate 64 0) (a - 256) 0 ≡ 0 = get_or-replicate {A = ℕ} 64 (a - 256) 0 0 (omega arith) in subst (λ (x : ℕ). in_set x b ≡ true) z e))), λ h. absurd (omega (arith, h.1.1))))

-- the rule i adds the steps of its left symbol, and no others
pub table_more : (rules : List RuleRow) (nulls i : ℕ) (table : List ℕ) (any s new : ℕ) → Nonterminal (get_or rules i no_rule).left → Stepping rules nulls i table
    → StepSet nulls (get_or rules i no_rule) (get_or rules i no_rule).count s
    → ((b : ℕ) → in_set new b ≡ (in_set (get_or table ((get_or rules i no_rule).left - 256) any) b || in_set s b))
    → Stepping rules nulls (i + 1) (set table ((get_or rules i no_rule).left - 256) new)
table_more rules nulls i table any s new n (len, d) m joined = (simp length-set len, λ a b t. both a b t (cases_eq (get_or rules i no_rule).left a))
  where
    o : (b : ℕ) → in_set new b ≡ (in_set (get_or table ((get_or rules i no_rule).left - 256) 0) b || in_set s b)
    o b = let e = get_or_default table ((get_or rules i no_rule).left - 256) any 0 (omega arith) in joined b ∙ ap (λ x. in_set x b || in_set s b) e

    shift : (a b : ℕ) → Nonterminal b × RowSteps rules nulls i a b → Nonterminal b × RowSteps rules nulls (i + 1) a b
    shift a b (u, (r, l, e, q)) = (u, (r, omega arith, e, q))

    here : (a b : ℕ) → (get_or rules i no_rule).left ≡ a → (in_set (get_or table ((get_or rules i no_rule).left - 256) 0) b ≡ true) ⊎ (in_set s b ≡ true) → Nonterminal b × RowSteps rules nulls (i + 1) a b
    here a b e (inl h) = shift a b (subst (λ (x : ℕ). Nonterminal b × RowSteps rules nulls i x b) e ((d (get_or rules i no_rule).left b n).0 h))
    here a b e (inr h) = let (u, q) = (m b).0 h in (u, (i, omega arith, e, q))

    back : (a b : ℕ) → (get_or rules i no_rule).left ≡ a → (h : Nonterminal b × RowSteps rules nulls (i + 1) a b) → (h.1.0 < i) ⊎ (i ≤ h.1.0) → (in_set (get_or table ((get_or rules i no_rule).left - 256) 0) b || in_set s b) ≡ true
    back a b e (u, (r, l, f, q)) (inl g) = or_left (in_set (get_or table ((get_or rules i no_rule).left - 256) 0) b) (in_set s b) ((d (get_or rules i no_rule).left b n).1 (u, (r, g, f ∙ sym e, q)))
    back a b e (u, (r, l, f, q)) (inr g) = let w : r ≡ i = omega arith in or_right (in_set (get_or table ((get_or rules i no_rule).left - 256) 0) b) (in_set s b) ((m b).1 (u, subst (λ (x : ℕ). StepsBy nulls (get_or rules x no_rule) (get_or rules x no_rule).count b) w q))

    away : (a b : ℕ) → ((get_or rules i no_rule).left ≡ a → ⊥) → (h : Nonterminal b × RowSteps rules nulls (i + 1) a b) → (h.1.0 < i) ⊎ (i ≤ h.1.0) → Nonterminal b × RowSteps rules nulls i a b
    away a b e (u, (r, l, f, q)) (inl g) = (u, (r, g, f, q))
    away a b e (u, (r, l, f, q)) (inr g) = let w : r ≡ i = omega arith in absurd (e (cc))

    both : (a b : ℕ) → Nonterminal a → ((get_or rules i no_rule).left ≡ a) ⊎ ((get_or rules i no_rule).left ≡ a → ⊥) → Decides (in_set (get_or (set table ((get_or rules i no_rule).left - 256) new) (a - 256) 0) b) (Nonterminal b × RowSteps rules nulls (i + 1) a b)
    both a b t (inl e) =
        let same : get_or (set table ((get_or rules i no_rule).left - 256) new) (a - 256) 0 ≡ new = subst (λ (x : ℕ). get_or (set table ((get_or rules i no_rule).left - 256) new) (x - 256) 0 ≡ new) e (get_or-set_same table ((get_or rules i no_rule).left - 256) new 0 (omega arith)) in
        rw same ((λ x. here a b e (or_cases (in_set (get_or table ((get_or rules i no_rule).left - 256) 0) b) (in_set s b) (sym (o b) ∙ x))), λ h. o b ∙ back a b e h (cases_lt h.1.0 i))
    both a b t (inr e) =
        let other : get_or (set table ((get_or rules i no_rule).left - 256) new) (a - 256) 0 ≡ get_or table (a - 256) 0 = get_or-set_other table ((get_or rules i no_rule).left - 256) (a - 256) new 0 (λ x. e (omega arith)) in
        rw other ((λ x. shift a b ((d a b t).0 x)), λ h. (d a b t).1 (away a b e h (cases_lt h.1.0 i)))
