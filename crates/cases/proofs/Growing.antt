-- All trees of a dialect over tokens, grown in rounds: each round makes trees of the rules from the trees of the last.
use Rattle.std.proofs.Common.{◌≡◌, ℕ, zero, suc, ◌≤◌, ◌&&◌, eqb, List, [], ◌∷◌, ◌++◌, map, length, Some, sym, refl, ap, ◌∙◌, subst, subst₂, arith}
use mathlib.Core.List.Memᴰ
use Rattle.std.proofs.lemmas.Bool.{and_parts, and_from, eqb-true, eq-eqb}
use Rattle.indent.specs.declared.summary.Summary.{Summary}
use Rattle.indent.specs.declared.summary.Summary.TheVariants.{Free, Exact}
use Rattle.indent.specs.Summaries.{passed}
use Rattle.indent.specs.Codes.{encode, decode}
use Rattle.indent.proofs.Coding.{decode_encode}
use Rattle.tokens.specs.declared.token.Token.{Token}
use Rattle.lists.specs.Entries.{nth}
use Rattle.lists.specs.Members.{◌∈◌}
use Rattle.lists.proofs.Entries.{nth_below}
use Rattle.grammar.specs.Grammar.{Grammar, Rule, Place}
use Rattle.readings.specs.Reading.{Tree, token, rule, Trees, start, pass}
use Rattle.readings.proofs.Spans.{span_row}
use Rattle.cases.proofs.Gathering.{gather, gather_in, gather_of, when, when_in, when_of, held, held_in, held_of, numbered, entry_in, entry_of, below, below_in, below_of}
use Rattle.cases.proofs.Rounds.{Every, every_append, Makes}

-- a tree: its symbol, the tokens that it stands over, its summary and its list
pub record Grown : Type 0 where
  pub symbol : ℕ
  pub from : ℕ
  pub to : ℕ
  pub summary : Summary
  pub list : List ℕ

-- trees for the first places of a rule: their end, their summary and their lists, one after the other
pub record Branch : Type 0 where
  pub to : ℕ
  pub summary : Summary
  pub list : List ℕ

abbrev pub grown_code : Grown → List ℕ
grown_code t = t.symbol ∷ t.from ∷ t.to ∷ encode t.summary ∷ t.list

pub same_summary : (σ τ : Summary) → encode σ ≡ encode τ → σ ≡ τ
same_summary σ τ e = sym (decode_encode σ) ∙ ap decode e ∙ decode_encode τ

pub same_grown : (t u : Grown) → grown_code t ≡ grown_code u → t ≡ u
same_grown t u e =
    let a : t.symbol ≡ u.symbol = cc in
    let b : t.from ≡ u.from = cc in
    let c : t.to ≡ u.to = cc in
    let d : t.summary ≡ u.summary = same_summary t.summary u.summary (cc) in
    let f : t.list ≡ u.list = cc in
    λ i. record { symbol = a i; from = b i; to = c i; summary = d i; list = f i }

-- the tree of a token by its number
abbrev leaf_of : ℕ × Token → Grown
leaf_of n = record { symbol = n.1.kind; from = n.0; to = suc n.0; summary = Exact n.1.column; list = [] }

-- a branch with one tree more, which leaves the summary υ
abbrev longer : Branch → Grown → Summary → Branch
longer w t υ = record { to = t.to; summary = υ; list = w.list ++ t.list }

-- the branch w with the tree t at the place q, where t fits
abbrev fits : Branch → Place → Grown → List Branch
fits w q t = when (eqb t.symbol q.symbol && eqb t.from w.to) (map (longer w t) (held (passed w.summary q.relation t.summary)))

abbrev fit : List Grown → Place → Branch → List Branch
fit T q w = gather (fits w q) T

-- the branches W with the trees T at the place q
abbrev next : List Grown → List Branch → Place → List Branch
next T W q = gather (fit T q) W

-- the branches for the first k places from s on, of the trees T
abbrev branches : List Grown → List Place → ℕ → ℕ → List Branch
branches T ps zero s = record { to = s; summary = Free; list = [] } ∷ []
branches T ps (suc k) s = gather (next T (branches T ps k s)) (held (nth ps k))

-- the tree of the n-th rule with the branch w from s on
abbrev tree_of : ℕ × Rule → ℕ → Branch → Grown
tree_of n s w = record { symbol = n.1.left; from = s; to = w.to; summary = w.summary; list = n.0 ∷ w.list }

abbrev trees_from : List Grown → ℕ × Rule → ℕ → List Grown
trees_from T n s = map (tree_of n s) (branches T n.1.places (length n.1.places) s)

abbrev trees_by : List Token → List Grown → ℕ × Rule → List Grown
trees_by ts T n = gather (trees_from T n) (below (suc (length ts)))

-- one round: the trees of the tokens, and those of the rules from the trees T
abbrev pub grow : Grammar → List Token → List Grown → List Grown
grow g ts T = map leaf_of (numbered 0 ts) ++ gather (trees_by ts T) (numbered 0 g.rules)

-- a tree that does not start behind the tokens
pub record Grows (g : Grammar) (ts : List Token) (t : Grown) : Type 0 where
  pub starts : t.from ≤ length ts
  pub tree : Tree g ts t.symbol t.from t.to t.summary t.list

leaf_sound : (g : Grammar) (ts : List Token) → Every (Grows g ts) (map leaf_of (numbered 0 ts))
leaf_sound g ts t m =
    let (n, i, e) = Memᴰ.of_map leaf_of (numbered 0 ts) m in
    let k : nth ts n.0 ≡ Some n.1 = entry_of ts i in
    subst (Grows g ts) e (record { starts = omega (arith, nth_below ts n.0 k); tree = token n.1 k })

module _ (g : Grammar) (ts : List Token) (T : List Grown) (h : Every (Grows g ts) T) where
  -- a branch and a tree that fits it
  fits_sound : (ps : List Place) (k s : ℕ) (q : Place) (w : Branch) (t : Grown) → nth ps k ≡ Some q → Trees g ts ps k s w.to w.summary w.list → Grows g ts t → (v : Branch) → v ∈ fits w q t → Trees g ts ps (suc k) s v.to v.summary v.list
  fits_sound ps k s q w t e d b v m =
      let (p, n) = when_of (eqb t.symbol q.symbol && eqb t.from w.to) (map (longer w t) (held (passed w.summary q.relation t.summary))) m in
      let (x, y) = and_parts (eqb t.symbol q.symbol) (eqb t.from w.to) p in
      let (υ, o, i) = Memᴰ.of_map (longer w t) (held (passed w.summary q.relation t.summary)) n in
      let c : Tree g ts q.symbol w.to t.to t.summary t.list = subst₂ (λ (a f : ℕ). Tree g ts a f t.to t.summary t.list) (eqb-true t.symbol q.symbol x) (eqb-true t.from w.to y) b.tree in
      subst (λ (u : Branch). Trees g ts ps (suc k) s u.to u.summary u.list) i (pass q e d c (held_of (passed w.summary q.relation t.summary) o))

  branches_sound : (ps : List Place) (k s : ℕ) (w : Branch) → w ∈ branches T ps k s → Trees g ts ps k s w.to w.summary w.list
  branches_sound ps zero s w m = subst (λ (u : Branch). Trees g ts ps 0 s u.to u.summary u.list) (sym (Memᴰ.eq_of_singleton m)) start
  branches_sound ps (suc k) s w m =
      let (q, i, n) = gather_of (next T (branches T ps k s)) (held (nth ps k)) m in
      let (v, j, o) = gather_of (fit T q) (branches T ps k s) n in
      let (t, l, p) = gather_of (fits v q) T o in
      fits_sound ps k s q v t (held_of (nth ps k) i) (branches_sound ps k s v j) (h t l) w p

  tree_sound : Every (Grows g ts) (gather (trees_by ts T) (numbered 0 g.rules))
  tree_sound t m =
      let (n, i, o) = gather_of (trees_by ts T) (numbered 0 g.rules) m in
      let (s, j, p) = gather_of (trees_from T n) (below (suc (length ts))) o in
      let (w, k, e) = Memᴰ.of_map (tree_of n s) (branches T n.1.places (length n.1.places) s) p in
      let l = below_of (suc (length ts)) j in
      subst (Grows g ts) e (record { starts = omega arith; tree = rule n.0 n.1 (entry_of g.rules i) (branches_sound n.1.places (length n.1.places) s w k) })

module _ (g : Grammar) (ts : List Token) (T : List Grown) (c : Every (λ t. t ∈ T) (grow g ts T)) where
  mutual
    tree_in : {a s e : ℕ} {σ : Summary} {xs : List ℕ} → Tree g ts a s e σ xs → s ≤ length ts → record { symbol = a; from = s; to = e; summary = σ; list = xs } ∈ T
    tree_in (token {s = s} t h) l = c (leaf_of (s, t)) (Memᴰ.append_left (gather (trees_by ts T) (numbered 0 g.rules)) (Memᴰ.map leaf_of (entry_in ts s h)))
    tree_in (rule {s = s} {e = e} {σ = σ} {xs = xs} r p h d) l = c (tree_of (r, p) s (record { to = e; summary = σ; list = xs })) (Memᴰ.append_right (map leaf_of (numbered 0 ts)) (gather_in (trees_by ts T) (entry_in g.rules r h) (gather_in (trees_from T (r, p)) (below_in (suc (length ts)) s (omega arith)) (Memᴰ.map (tree_of (r, p) s) (branch_in d l)))))

    branch_in : {ps : List Place} {k s e : ℕ} {σ : Summary} {xs : List ℕ} → Trees g ts ps k s e σ xs → s ≤ length ts → record { to = e; summary = σ; list = xs } ∈ branches T ps k s
    branch_in start l = Memᴰ.head refl
    branch_in (pass {ps = ps} {k = k} {s = s} {m = m} {e = e} {σ = σ} {τ = τ} {υ = υ} {xs = xs} {ys = ys} q h d b j) l =
        gather_in (next T (branches T ps k s)) (held_in (nth ps k) h) (gather_in (fit T q) (branch_in d l) (gather_in (fits (record { to = m; summary = σ; list = xs }) q) (tree_in b ((span_row d).1 l)) (when_in (eqb q.symbol q.symbol && eqb m m) (and_from (eqb q.symbol q.symbol) (eqb m m) (eq-eqb q.symbol q.symbol refl) (eq-eqb m m refl)) (Memᴰ.map (longer (record { to = m; summary = σ; list = xs }) (record { symbol = q.symbol; from = m; to = e; summary = τ; list = ys })) (held_in (passed σ q.relation τ) j)))))

pub grow_makes : (g : Grammar) (ts : List Token) → Makes (Grows g ts) (grow g ts)
grow_makes g ts = record {
  sound = λ T h. every_append (Grows g ts) (map leaf_of (numbered 0 ts)) (leaf_sound g ts) (tree_sound g ts T h);
  whole = λ T c t w. tree_in g ts T c w.tree w.starts;
}
