-- The turns of the loops that find the nullable symbols.
use Rattle.std.proofs.Common.{◌≡◌, ℕ, ◌+◌, ◌<◌, ◌≤◌, Bool, true, false, ◌&&◌, ◌||◌, eqb, ◌⊎◌, List, [], ◌∷◌, map, length, get_or, sym, refl, ap, ◌∙◌, subst, inl, inr, arith}
use Rattle.std.specs.List.{list_all}
use Rattle.std.proofs.lemmas.Bool.{eq-eqb, eqb-true, or_cases, or_right, cases_lt}
use Rattle.lists.proofs.Mapped.{mapped_at, mapped_from}
use Rattle.grammar.specs.Grammar.{Rule}
use Rattle.grammar.specs.Steps.{Nullable}
use Rattle.grammar.specs.Nulling.{every, Settled}
use Rattle.grammar.proofs.Nulling.{mark_sound, settled_decides}
use Rattle.rows.specs.declared.row.PlaceRow.{PlaceRow}
use Rattle.rows.specs.declared.row.RuleRow.{RuleRow}
use Rattle.rows.specs.Meaning.{place_of, rule_of, grammar_of_rows}
use Rattle.rows.specs.Rows.{no_rule}
use Rattle.closure.specs.Sets.{in_set}
use Rattle.closure.specs.Nulls.{Sound, Quiet, NullableSet}
use Rattle.closure.proofs.Sets.{in_none}

-- the symbol of every place passes, said of the rows of the places
pub every_all : (f : ℕ → Bool) (ps : List PlaceRow) → list_all (λ p. f p.symbol) ps ≡ every f (map place_of ps)
every_all f [] = refl
every_all f (p ∷ ps) = ap (λ b. f p.symbol && b) (every_all f ps)

pub sound_none : (rules : List RuleRow) (set : ℕ) → set ≡ 0 → Sound rules set
sound_none rules set z = rw z (λ s a e. absurd (in_none a e))

-- one more symbol: a rule of it has symbols of the set alone
sound_more : (rules : List RuleRow) (set out i : ℕ) → i < length rules → every (in_set set) (rule_of (get_or rules i no_rule)).places ≡ true → ((a : ℕ) → in_set out a ≡ (in_set set a || eqb (get_or rules i no_rule).left a)) → Sound rules set → Sound rules out
sound_more rules set out i h m o sound s a e = go (or_cases (in_set set a) (eqb (get_or rules i no_rule).left a) (sym (o a) ∙ e))
  where
    go : (in_set set a ≡ true) ⊎ (eqb (get_or rules i no_rule).left a ≡ true) → Nullable (grammar_of_rows rules s) a
    go (inl u) = sound s a u
    go (inr u) = subst (λ (b : ℕ). Nullable (grammar_of_rows rules s) b) (eqb-true (get_or rules i no_rule).left a u) (mark_sound (grammar_of_rows rules s) (in_set set) (sound s) i (rule_of (get_or rules i no_rule)) (mapped_from rule_of no_rule rules i h) m)

quiet_more : (rules : List RuleRow) (set i : ℕ) → Quiet rules set i → (every (in_set set) (rule_of (get_or rules i no_rule)).places ≡ true → in_set set (get_or rules i no_rule).left ≡ true) → Quiet rules set (i + 1)
quiet_more rules set i q here j h e = go (cases_lt j i)
  where
    go : (j < i) ⊎ (i ≤ j) → in_set set (get_or rules j no_rule).left ≡ true
    go (inl l) = q j l e
    go (inr l) = let w : i ≡ j = omega arith in let u : every (in_set set) (rule_of (get_or rules i no_rule)).places ≡ true = cc in let v = here u in cc

quiet_settled : (rules : List RuleRow) (set s : ℕ) → Quiet rules set (length rules) → Settled (grammar_of_rows rules s) (in_set set)
quiet_settled rules set s q r p h e =
    let (l, w) = mapped_at rule_of no_rule rules r p h in
    let u : every (in_set set) (rule_of (get_or rules r no_rule)).places ≡ true = subst (λ (o : Rule). every (in_set set) o.places ≡ true) w e in
    subst (λ (o : Rule). in_set set o.left ≡ true) (sym w) (q r l u)

pub nullables_found : (rules : List RuleRow) (set : ℕ) → Sound rules set → Quiet rules set (length rules) → NullableSet rules set
nullables_found rules set k q s = settled_decides (grammar_of_rows rules s) (in_set set) (quiet_settled rules set s q) (k s)

-- what a round keeps: the set only grows, stays sound, and where it has not grown the rules so far add nothing
abbrev pub Turn : List RuleRow → ℕ → ℕ → ℕ → Type 0
Turn rules set out i = (set ≤ out) × (Sound rules set → Sound rules out) × (out ≡ set → Quiet rules set i)

pub turn_left : (rules : List RuleRow) (set out i : ℕ) → Turn rules set out i → every (in_set out) (rule_of (get_or rules i no_rule)).places ≡ false → Turn rules set out (i + 1)
turn_left rules set out i (g, k, q) n = (g, k, λ e. quiet_more rules set i (q e) (λ m. let u = subst (λ (x : ℕ). every (in_set x) (rule_of (get_or rules i no_rule)).places ≡ false) e n in let z : ◌≡◌ {A = ℕ} 0 1 = cc in absurd (omega arith)))

pub turn_insert : (rules : List RuleRow) (set out new i : ℕ) → Turn rules set out i → i < length rules → every (in_set out) (rule_of (get_or rules i no_rule)).places ≡ true → ((a : ℕ) → in_set new a ≡ (in_set out a || eqb (get_or rules i no_rule).left a)) → out ≤ new → Turn rules set new (i + 1)
turn_insert rules set out new i (g, s, q) h m o b = (
  omega arith,
  (λ t. sound_more rules out new i h m o (s t)),
  λ e. quiet_more rules set i (q (omega arith)) (λ _. subst (λ (x : ℕ). in_set x (get_or rules i no_rule).left ≡ true) e (o (get_or rules i no_rule).left ∙ or_right (in_set out (get_or rules i no_rule).left) (eqb (get_or rules i no_rule).left (get_or rules i no_rule).left) (eq-eqb (get_or rules i no_rule).left (get_or rules i no_rule).left refl))),
)
