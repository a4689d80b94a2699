-- The list of a tree's rules, root first, is read back in one way only, even where more follows it.
use Rattle.std.proofs.Common.{◌≡◌, ℕ, ◌<◌, ◌≤◌, List, [], ◌++◌, Some, sym, refl, ◌∙◌, append_assoc, append-nil, arith}
use Rattle.indent.specs.declared.summary.Summary.{Summary}
use Rattle.tokens.specs.declared.token.Token.{Token}
use Rattle.lists.specs.Entries.{nth}
use Rattle.grammar.specs.Grammar.{Grammar, Rule, Place}
use Rattle.readings.specs.Reading.{Tree, token, rule, Trees, start, pass, Reading, Separate, Headed}
use Rattle.readings.proofs.Adequacy.{reading_spec}

mutual
  one_tree : {g : Grammar} {ts : List Token} {a s e : ℕ} {σ : Summary} {xs : List ℕ} → Tree g ts a s e σ xs →
      Separate g ts → {a' s' e' : ℕ} {σ' : Summary} {xs' : List ℕ} → Tree g ts a' s' e' σ' xs' → (u v : List ℕ) →
      a ≡ a' → s ≡ s' → xs ++ u ≡ xs' ++ v → (xs ≡ xs') × (e ≡ e') × (σ ≡ σ') × (u ≡ v)
  one_tree (token t h) k (token t' h') u v p q r = (refl, cc, cc, r)
  one_tree (token {s = s} t h) k (rule n' p' h' d') u v p q r = absurd (k t s n' p' h h' p)
  one_tree (rule n p₁ h d) k (token {s = s'} t' h') u v p q r = absurd (k t' s' n p₁ h' h (sym p))
  one_tree (rule n p₁ h d) k (rule n' p' h' d') u v p q r =
      let (x, y, z, o) = one_row d k d' u v (cc) (cc) q (cc) in
      (cc, y, z, o)

  one_row : {g : Grammar} {ts : List Token} {ps : List Place} {k s e : ℕ} {σ : Summary} {xs : List ℕ} → Trees g ts ps k s e σ xs →
      Separate g ts → {ps' : List Place} {k' s' e' : ℕ} {σ' : Summary} {xs' : List ℕ} → Trees g ts ps' k' s' e' σ' xs' → (u v : List ℕ) →
      ps ≡ ps' → k ≡ k' → s ≡ s' → xs ++ u ≡ xs' ++ v → (xs ≡ xs') × (e ≡ e') × (σ ≡ σ') × (u ≡ v)
  one_row start k start u v o p q r = (refl, q, refl, r)
  one_row start k (pass q' h' d' c' e') u v o p q r = absurd (omega arith)
  one_row (pass q₁ h d c e) k start u v o p q r = absurd (omega arith)
  one_row (pass {xs = xs} {ys = ys} q₁ h d c e) k (pass {xs = xs'} {ys = ys'} q' h' d' c' e') u v o p q r =
      let (x, y, z, w) = one_row d k d' (ys ++ u) (ys' ++ v) o (cc) q (cc (append_assoc xs ys u, append_assoc xs' ys' v)) in
      let (x₂, y₂, z₂, w₂) = one_tree c k c' u v (cc) y w in
      (cc, y₂, cc, w₂)

pub unique_tree : {g : Grammar} {ts : List Token} → Separate g ts → {a s e e' : ℕ} {σ σ' : Summary} {xs xs' : List ℕ} (u v : List ℕ) →
    Tree g ts a s e σ xs → Tree g ts a s e' σ' xs' → xs ++ u ≡ xs' ++ v → (xs ≡ xs') × (e ≡ e') × (σ ≡ σ') × (u ≡ v)
unique_tree k u v d d' r = one_tree d k d' u v refl refl r

pub unique_row : {g : Grammar} {ts : List Token} → Separate g ts → {ps : List Place} {k s e e' : ℕ} {σ σ' : Summary} {xs xs' : List ℕ} (u v : List ℕ) →
    Trees g ts ps k s e σ xs → Trees g ts ps k s e' σ' xs' → xs ++ u ≡ xs' ++ v → (xs ≡ xs') × (e ≡ e') × (σ ≡ σ') × (u ≡ v)
unique_row k u v d d' r = one_row d k d' u v refl refl refl r

-- where kinds are the numbers below some bound and left symbols are not, no token is of a symbol that has rules
pub separate_at : (b : ℕ) (g : Grammar) (ts : List Token) → ((r : ℕ) (p : Rule) → nth g.rules r ≡ Some p → b ≤ p.left) → ((i : ℕ) (t : Token) → nth ts i ≡ Some t → t.kind < b) → Separate g ts
separate_at b g ts f k t i r p h l e = omega (arith, f r p l, k i t h)

-- no reading is a proper prefix of another
pub prefix_free : (g : Grammar) (ts : List Token) → Separate g ts → (xs ys : List ℕ) → Reading g ts xs → Reading g ts (xs ++ ys) → ys ≡ []
prefix_free g ts k xs ys d d' =
    let (σ, t) = (reading_spec g ts xs).0 d in
    let (σ', t') = (reading_spec g ts (xs ++ ys)).0 d' in
    let (x, y, z, w) = unique_tree k ys [] t t' (sym (append-nil (xs ++ ys))) in
    w

-- where the start symbol has a rule, no token is of it
pub no_start : (g : Grammar) (ts : List Token) → Separate g ts → Headed g → (t : Token) (i : ℕ) → nth ts i ≡ Some t → t.kind ≡ g.start → ⊥
no_start g ts k (r, p, h, l) t i e q = k t i r p e h (q ∙ sym l)

nil_tree : {g : Grammar} {ts : List Token} {a s e : ℕ} {σ : Summary} {xs : List ℕ} → Tree g ts a s e σ xs → xs ≡ [] → (t : Token) × (nth ts s ≡ Some t) × (t.kind ≡ a)
nil_tree (token t h) e = (t, h, refl)
nil_tree (rule r p h d) e = let z : ◌≡◌ {A = ℕ} 0 1 = cc in absurd (omega arith)

-- and so no reading is empty
pub not_empty : (g : Grammar) (ts : List Token) → Separate g ts → Headed g → Reading g ts [] → ⊥
not_empty g ts k r d =
    let (σ, t) = (reading_spec g ts []).0 d in
    let (u, h, e) = nil_tree t refl in
    no_start g ts k r u 0 h e
