-- What a row may hold, as computed tests: so "not at fault" says that it holds, and rows that are written out are tested
-- by computation.
use Rattle.std.proofs.Common.{◌≡◌, ℕ, zero, suc, ◌+◌, ◌<◌, ◌≤◌, Bool, true, false, not, ◌&&◌, ◌||◌, eqb, ltb, leb, ◌⊎◌, List, length, get_or, take, is_some, Some, Decides, refl, subst, inl, inr, arith}
use Rattle.std.specs.Str.{bytes_eq}
use Rattle.std.proofs.lemmas.Slice.Eq.{bytes_eq-Decides}
use Rattle.std.proofs.lemmas.Bool.{leb-true, le-leb, cases_Bool, cases_lt}
use Rattle.std.proofs.lemmas.Bool.Decides.{not_from_Decides, Decides-not, Decides-and, Decides-or, Decides-like, Decides-ltb, Decides-eqb, Decides-below_and, Decides-below_or}
use Rattle.indent.specs.Relations.{relation_at}
use Rattle.rows.specs.declared.row.LiteralRow.{LiteralRow}
use Rattle.rows.specs.declared.row.PlaceRow.{PlaceRow}
use Rattle.rows.specs.declared.row.RuleRow.{RuleRow}
use Rattle.rows.specs.Rows.{no_literal, no_place, no_rule, Nonterminal, Known, PlaceOk, RuleOk, Alike, LiteralOk, RowOk, Finds}

-- what is decided and cannot fail holds
pub stable : {P : Type 0} (r : Bool) → Decides r P → ((P → ⊥) → ⊥) → P
stable true d h = d.0 refl
stable false d h = absurd (h (not_from_Decides false d refl))

abbrev pub implies : Bool → Bool → Bool
implies x y = not x || y

pub decides_implies : {P Q : Type 0} (x y : Bool) → Decides x P → Decides y Q → Decides (implies x y) (P → Q)
decides_implies true y d e = ((λ h _. e.0 h), λ f. e.1 (f (d.0 refl)))
decides_implies false y d e = ((λ _ p. absurd (not_from_Decides false d refl p)), λ _. refl)

pub decides_leb : (a b : ℕ) → Decides (leb a b) (a ≤ b)
decides_leb a b = (leb-true a b, le-leb a b)

-- all numbers below n pass, and one does
abbrev pub all_below : (ℕ → Bool) → ℕ → Bool
all_below p zero = true
all_below p (suc n) = p n && all_below p n

abbrev pub one_below : (ℕ → Bool) → ℕ → Bool
one_below p zero = false
one_below p (suc n) = p n || one_below p n

pub decides_all : (p : ℕ → Bool) (P : ℕ → Type 0) → ((k : ℕ) → Decides (p k) (P k)) → (n : ℕ) → Decides (all_below p n) ((k : ℕ) → k < n → P k)
decides_all p P each n = Decides-below_and p P (all_below p) each refl (λ _. refl) n

pub decides_one : (p : ℕ → Bool) (P : ℕ → Type 0) → ((k : ℕ) → Decides (p k) (P k)) → (n : ℕ) → Decides (one_below p n) ((k : ℕ) × (k < n) × P k)
decides_one p P each n = Decides-below_or p P (one_below p) each refl (λ _. refl) n

abbrev pub is_nonterminal : ℕ → Bool
is_nonterminal s = leb 256 s && leb s 319

pub decides_nonterminal : (s : ℕ) → Decides (is_nonterminal s) (Nonterminal s)
decides_nonterminal s = Decides-and (leb 256 s) (leb s 319) (decides_leb 256 s) (decides_leb s 319)

abbrev is_literal : ℕ → ℕ → Bool
is_literal n s = leb 16 s && (leb s 79 && ltb s (16 + n))

decides_literal : (n s : ℕ) → Decides (is_literal n s) ((16 ≤ s) × (s ≤ 79) × (s < 16 + n))
decides_literal n s =
    Decides-like (is_literal n s) (λ x. (x.0, x.1.0, x.1.1)) (λ x. (x.0, (x.1, x.2)))
    (Decides-and (leb 16 s) (leb s 79 && ltb s (16 + n)) (decides_leb 16 s) (Decides-and (leb s 79) (ltb s (16 + n)) (decides_leb s 79) (Decides-ltb s (16 + n))))

abbrev is_known : ℕ → ℕ → Bool
is_known n s = (leb 1 s && leb s 4) || (is_literal n s || is_nonterminal s)

decides_known : (n s : ℕ) → Decides (is_known n s) (Known n s)
decides_known n s =
    Decides-or (leb 1 s && leb s 4) (is_literal n s || is_nonterminal s) (Decides-and (leb 1 s) (leb s 4) (decides_leb 1 s) (decides_leb s 4))
    (Decides-or (is_literal n s) (is_nonterminal s) (decides_literal n s) (decides_nonterminal s))

abbrev place_test : ℕ → PlaceRow → Bool
place_test n p = is_some (relation_at p.relation) && is_known n p.symbol

decides_place : (n : ℕ) (p : PlaceRow) → Decides (place_test n p) (PlaceOk n p)
decides_place n p =
    Decides-like (place_test n p) (λ x. record { relation = x.0; symbol = x.1 }) (λ o. (o.relation, o.symbol))
    (Decides-and (is_some (relation_at p.relation)) (is_known n p.symbol) ((λ e. e), λ e. e) (decides_known n p.symbol))

abbrev pub rule_test : ℕ → RuleRow → Bool
rule_test n r = (is_nonterminal r.left && leb r.cost 10000) && (leb r.count 6 && all_below (λ k. place_test n (get_or r.places k no_place)) r.count)

pub decides_rule : (n : ℕ) (r : RuleRow) → Decides (rule_test n r) (RuleOk n r)
decides_rule n r =
    Decides-like (rule_test n r) (λ x. record { left = x.0.0; cost = x.0.1; count = x.1.0; places = x.1.1 }) (λ o. ((o.left, o.cost), (o.count, o.places)))
    (Decides-and (is_nonterminal r.left && leb r.cost 10000) (leb r.count 6 && all_below (λ k. place_test n (get_or r.places k no_place)) r.count)
    (Decides-and (is_nonterminal r.left) (leb r.cost 10000) (decides_nonterminal r.left) (decides_leb r.cost 10000))
    (Decides-and (leb r.count 6) (all_below (λ k. place_test n (get_or r.places k no_place)) r.count) (decides_leb r.count 6)
    (decides_all (λ k. place_test n (get_or r.places k no_place)) (λ k. PlaceOk n (get_or r.places k no_place)) (λ k. decides_place n (get_or r.places k no_place)) r.count)))

abbrev pub row_test : ℕ → List RuleRow → ℕ → ℕ → Bool
row_test n rules start i = implies (ltb i (length rules)) (rule_test n (get_or rules i no_rule)) && implies (eqb i (length rules)) (is_nonterminal start)

pub decides_row : (n : ℕ) (rules : List RuleRow) (start i : ℕ) → Decides (row_test n rules start i) (RowOk n rules start i)
decides_row n rules start i =
    Decides-like (row_test n rules start i) (λ x. record { rule = x.0; last = x.1 }) (λ o. (o.rule, o.last))
    (Decides-and (implies (ltb i (length rules)) (rule_test n (get_or rules i no_rule))) (implies (eqb i (length rules)) (is_nonterminal start))
    (decides_implies (ltb i (length rules)) (rule_test n (get_or rules i no_rule)) (Decides-ltb i (length rules)) (decides_rule n (get_or rules i no_rule)))
    (decides_implies (eqb i (length rules)) (is_nonterminal start) (Decides-eqb i (length rules)) (decides_nonterminal start)))

abbrev alike_test : LiteralRow → LiteralRow → Bool
alike_test a b = eqb a.length b.length && bytes_eq (take a.length a.bytes) (take a.length b.bytes)

decides_alike : (a b : LiteralRow) → Decides (alike_test a b) (Alike a b)
decides_alike a b =
    Decides-and (eqb a.length b.length) (bytes_eq (take a.length a.bytes) (take a.length b.bytes))
    (Decides-eqb a.length b.length) (bytes_eq-Decides (take a.length a.bytes) (take a.length b.bytes))

abbrev pub literal_test : List LiteralRow → ℕ → Bool
literal_test ls i = (leb 1 (get_or ls i no_literal).length && leb (get_or ls i no_literal).length 32) && all_below (λ j. not (alike_test (get_or ls i no_literal) (get_or ls j no_literal))) i

pub decides_literal_row : (ls : List LiteralRow) (i : ℕ) → Decides (literal_test ls i) (LiteralOk ls i)
decides_literal_row ls i =
    let r : LiteralRow = get_or ls i no_literal in
    Decides-like (literal_test ls i) (λ x. record { some = x.0.0; few = x.0.1; new = x.1 }) (λ o. ((o.some, o.few), o.new))
    (Decides-and (leb 1 r.length && leb r.length 32) (all_below (λ j. not (alike_test r (get_or ls j no_literal))) i)
    (Decides-and (leb 1 r.length) (leb r.length 32) (decides_leb 1 r.length) (decides_leb r.length 32))
    (decides_all (λ j. not (alike_test r (get_or ls j no_literal))) (λ j. Alike r (get_or ls j no_literal) → ⊥) (λ j. Decides-not (alike_test r (get_or ls j no_literal)) (decides_alike r (get_or ls j no_literal))) i))

-- the first of n rows that is not as it should be is found by looking
pub first_found : (p : ℕ → Bool) (Ok : ℕ → Type 0) → ((k : ℕ) → Decides (p k) (Ok k)) → (n : ℕ) → ((k : ℕ) → k < n → Ok k) ⊎ ((i : ℕ) × Finds Ok n (Some i))
first_found p Ok d zero = inl (λ k h. absurd (omega arith))
first_found p Ok d (suc n) = go (first_found p Ok d n) (cases_Bool (p n))
  where
    go : ((k : ℕ) → k < n → Ok k) ⊎ ((i : ℕ) × Finds Ok n (Some i)) → (p n ≡ true) ⊎ (p n ≡ false) → ((k : ℕ) → k < suc n → Ok k) ⊎ ((i : ℕ) × Finds Ok (suc n) (Some i))
    go (inr (i, (l, f, k))) b = inr (i, (omega arith, f, k))
    go (inl all) (inr e) = inr (n, (omega arith, not_from_Decides (p n) (d n) e, all))
    go (inl all) (inl e) = inl (λ k h. last k h (cases_lt k n))
      where
        last : (k : ℕ) → k < suc n → (k < n) ⊎ (n ≤ k) → Ok k
        last k h (inl l) = all k l
        last k h (inr l) = let w : n ≡ k = omega arith in subst Ok w ((d n).0 e)
