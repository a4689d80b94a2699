-- The sizes of the sets in a table of what each nonterminal gets to are the ranks, and fall along every step.
use Rattle.std.proofs.Common.{◌≡◌, ℕ, suc, ◌+◌, ◌-◌, ◌<◌, ◌≤◌, ◌⊎◌, List, get_or, sym, ◌∙◌, subst, inl, inr, arith}
use Rattle.std.proofs.lemmas.Bool.{cases_lt, le-leb, lt-leb}
use Rattle.std.proofs.lemmas.Bool.Decides.{same_from_decides}
use Rattle.lists.specs.Members.{◌∈◌}
use Rattle.lists.specs.Tallies.{tally, up_from}
use Rattle.lists.proofs.Tallies.{tally_runs, run_has}
use Rattle.grammar.specs.Grammar.{Grammar}
use Rattle.grammar.specs.Steps.{Steps, Acyclic}
use Rattle.grammar.specs.Reaching.{reaches}
use Rattle.grammar.proofs.Reaching.{reaches_decides, fewer}
use Rattle.rows.specs.declared.row.RuleRow.{RuleRow}
use Rattle.rows.specs.Meaning.{grammar_of_rows}
use Rattle.rows.specs.Rows.{Nonterminal}
use Rattle.closure.specs.Sets.{has, in_set}
use Rattle.closure.specs.Nulls.{Formed}
use Rattle.closure.specs.Tables.{ReachTable}
use Rattle.closure.specs.Ranks.{reached, rank, RankTable}
use Rattle.closure.proofs.Sets.{in_bit}
use Rattle.closure.proofs.Reaching.{step_first}

-- sets that are counted one by one
abbrev pub Counted : List ℕ → List ℕ → Type 0
Counted table ranks = (k : ℕ) → k < 64 → get_or ranks k 0 ≡ tally (has (get_or table k 0)) (up_from 0 64)

pub ranks_found : (rules : List RuleRow) (table ranks : List ℕ) → Counted table ranks → ReachTable rules table → RankTable rules ranks
unfolding reached
ranks_found rules table ranks n t start a m =
    n (a - 256) (omega arith) ∙ tally_runs (has (get_or table (a - 256) 0)) (reaches (grammar_of_rows rules start) a) 0 256 64 agree
  where
    agree : (k : ℕ) → k < 64 → has (get_or table (a - 256) 0) (0 + k) ≡ reaches (grammar_of_rows rules start) a (256 + k)
    agree k h =
        let f : Nonterminal (256 + k) = (omega arith, omega arith) in
        let u : (256 + k) - 256 ≡ 0 + k = omega arith in
        let w : in_set (get_or table (a - 256) 0) (256 + k) ≡ has (get_or table (a - 256) 0) (0 + k) = subst (λ (x : ℕ). in_set (get_or table (a - 256) 0) (256 + k) ≡ has (get_or table (a - 256) 0) x) u (in_bit (get_or table (a - 256) 0) (256 + k) f) in
        let d = t start a (256 + k) m in
        sym w ∙ same_from_decides (in_set (get_or table (a - 256) 0) (256 + k)) (reaches (grammar_of_rows rules start) a (256 + k)) ((λ x. (d.0 x).1), λ g. d.1 (f, g)) (reaches_decides (grammar_of_rows rules start) a (256 + k))

pub rank_at : (g : Grammar) (a : ℕ) → Nonterminal a → rank g a ≡ suc (reached g a)
rank_at g a (l, h) = rw (le-leb 256 a l, le-leb a 319 h)

pub rank_other : (g : Grammar) (a : ℕ) → (Nonterminal a → ⊥) → rank g a ≡ 0
rank_other g a n = go (cases_lt a 256) (cases_lt 319 a)
  where
    go : (a < 256) ⊎ (256 ≤ a) → (319 < a) ⊎ (a ≤ 319) → rank g a ≡ 0
    go (inl h) t = rw (lt-leb 256 a h)
    go (inr h) (inl k) = rw (le-leb 256 a h, lt-leb a 319 k)
    go (inr h) (inr k) = absurd (n (h, k))

-- without a cycle a step leads to a nonterminal that gets to fewer
reached_falls : (g : Grammar) → Acyclic g → (a b : ℕ) → Steps g a b → Nonterminal b → reached g b < reached g a
unfolding reached
reached_falls g n a b s m = fewer g n a b (up_from 256 64) s (let e : 256 + (b - 256) ≡ b = omega arith in subst (λ (x : ℕ). x ∈ up_from 256 64) e (run_has 256 64 (b - 256) (omega arith)))

-- so each step lowers the rank
pub rank_falls : (rules : List RuleRow) (start : ℕ) → Formed rules → Acyclic (grammar_of_rows rules start) → (a b : ℕ) → Steps (grammar_of_rows rules start) a b → rank (grammar_of_rows rules start) b < rank (grammar_of_rows rules start) a
rank_falls rules start formed n a b s = go (cases_lt b 256) (cases_lt 319 b)
  where
    first : rank (grammar_of_rows rules start) a ≡ suc (reached (grammar_of_rows rules start) a)
    first = rank_at (grammar_of_rows rules start) a (step_first rules start formed s)

    go : (b < 256) ⊎ (256 ≤ b) → (319 < b) ⊎ (b ≤ 319) → rank (grammar_of_rows rules start) b < rank (grammar_of_rows rules start) a
    go (inl h) t = rw (rank_other (grammar_of_rows rules start) b (λ m. omega arith), first) (omega arith)
    go (inr h) (inl k) = rw (rank_other (grammar_of_rows rules start) b (λ m. omega arith), first) (omega arith)
    go (inr h) (inr k) = let l = reached_falls (grammar_of_rows rules start) n a b s (h, k) in rw (rank_at (grammar_of_rows rules start) b (h, k), first) (omega arith)
