-- A tree's tokens lie in a row, and a tree is one of those tokens alone: more tokens behind them change nothing.
use Rattle.std.proofs.Common.{◌≡◌, ℕ, ◌<◌, ◌≤◌, ◌↔◌, List, ◌++◌, length, Some, sym, ◌∙◌, arith}
use Rattle.indent.specs.declared.summary.Summary.{Summary}
use Rattle.tokens.specs.declared.token.Token.{Token}
use Rattle.lists.specs.Entries.{nth}
use Rattle.lists.proofs.Entries.{nth_below, nth_more}
use Rattle.grammar.specs.Grammar.{Grammar, Place}
use Rattle.readings.specs.Reading.{Tree, token, rule, Trees, start, pass}

-- a tree ends where it starts or later, and not behind the tokens unless it starts there: a rule with no places has a
-- tree at every position
mutual
  pub span : {g : Grammar} {ts : List Token} {a s e : ℕ} {σ : Summary} {xs : List ℕ} → Tree g ts a s e σ xs → (s ≤ e) × (s ≤ length ts → e ≤ length ts)
  span {ts = ts} (token {s = s} t h) = omega (arith, nth_below ts s h)
  span (rule r p h d) = span_row d

  pub span_row : {g : Grammar} {ts : List Token} {ps : List Place} {k s e : ℕ} {σ : Summary} {xs : List ℕ} → Trees g ts ps k s e σ xs → (s ≤ e) × (s ≤ length ts → e ≤ length ts)
  span_row start = omega arith
  span_row (pass q h d c l) = let x = span_row d in let y = span c in omega arith

-- a tree is one of any tokens that have what its own tokens have before its end
mutual
  pub agrees : {g : Grammar} {ts : List Token} {a s e : ℕ} {σ : Summary} {xs : List ℕ} → Tree g ts a s e σ xs → (vs : List Token) → ((i : ℕ) (t : Token) → i < e → nth ts i ≡ Some t → nth vs i ≡ Some t) → Tree g vs a s e σ xs
  agrees (token {s = s} t h) vs f = token t (f s t (omega arith) h)
  agrees (rule r p h d) vs f = rule r p h (agrees_row d vs f)

  pub agrees_row : {g : Grammar} {ts : List Token} {ps : List Place} {k s e : ℕ} {σ : Summary} {xs : List ℕ} → Trees g ts ps k s e σ xs → (vs : List Token) → ((i : ℕ) (t : Token) → i < e → nth ts i ≡ Some t → nth vs i ≡ Some t) → Trees g vs ps k s e σ xs
  agrees_row start vs f = start
  agrees_row (pass q h d c l) vs f = pass q h (agrees_row d vs (λ i t b. f i t (omega (arith, span c)))) (agrees c vs f) l

-- more tokens behind
pub stays : {g : Grammar} {ts : List Token} {a s e : ℕ} {σ : Summary} {xs : List ℕ} → Tree g ts a s e σ xs → (us : List Token) → Tree g (ts ++ us) a s e σ xs
stays {ts = ts} d us = agrees d (ts ++ us) (λ i t b h. nth_more ts us i (nth_below ts i h) ∙ h)

-- the tokens up to its end are enough
pub fewer : {g : Grammar} (ts us : List Token) {a s e : ℕ} {σ : Summary} {xs : List ℕ} → Tree g (ts ++ us) a s e σ xs → e ≤ length ts → Tree g ts a s e σ xs
fewer ts us d k = agrees d ts (λ i t b h. sym (nth_more ts us i (omega arith)) ∙ h)

pub local : (g : Grammar) (ts us : List Token) (a s e : ℕ) (σ : Summary) (xs : List ℕ) → e ≤ length ts → Tree g (ts ++ us) a s e σ xs ↔ Tree g ts a s e σ xs
local g ts us a s e σ xs h = (λ d. fewer ts us d h, λ d. stays d us)
