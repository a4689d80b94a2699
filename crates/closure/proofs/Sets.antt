-- The nonterminals of a set in a machine word.
use Rattle.std.proofs.Common.{◌≡◌, ℕ, ◌-◌, Bool, true, false, ◌&&◌, ◌||◌, eqb, leb, ◌⊎◌, sym, refl, ◌∙◌, inl, inr, arith}
use Rattle.std.proofs.lemmas.Bool.{le-leb, leb-true, eq-eqb, eqb-true, and_parts, or_cases, or_left, or_right}
use Rattle.std.proofs.lemmas.Bool.Decides.{same_from_decides}
use Rattle.rows.specs.Rows.{Nonterminal}
use Rattle.closure.specs.Sets.{has, in_set}
use Rattle.closure.proofs.Bits.{has_none}

pub in_at : (set a : ℕ) → in_set set a ≡ true → Nonterminal a × (has set (a - 256) ≡ true)
in_at set a e =
    let (x, y) = and_parts (leb 256 a && leb a 319) (has set (a - 256)) e in
    let (u, v) = and_parts (leb 256 a) (leb a 319) x in
    ((leb-true 256 a u, leb-true a 319 v), y)

-- of a nonterminal its bit tells
pub in_bit : (set a : ℕ) → Nonterminal a → in_set set a ≡ has set (a - 256)
in_bit set a (l, h) = rw (le-leb 256 a l, le-leb a 319 h)

pub in_from : (set a : ℕ) → Nonterminal a → has set (a - 256) ≡ true → in_set set a ≡ true
in_from set a n e = in_bit set a n ∙ e

pub in_none : (a : ℕ) → in_set 0 a ≡ true → ⊥
in_none a e = let h = (in_at 0 a e).1 in let n = has_none (a - 256) in let z : ◌≡◌ {A = ℕ} 0 1 = cc in omega arith

pub in_insert : (set out symbol : ℕ) → Nonterminal symbol → ((j : ℕ) → has out j ≡ (has set j || eqb (symbol - 256) j)) → (a : ℕ) → in_set out a ≡ (in_set set a || eqb symbol a)
in_insert set out symbol n o a = same_from_decides (in_set out a) (in_set set a || eqb symbol a) ((λ e. e), λ e. e) (from, to)
  where
    there : Nonterminal a → (has set (a - 256) ≡ true) ⊎ (eqb (symbol - 256) (a - 256) ≡ true) → (in_set set a || eqb symbol a) ≡ true
    there m (inl h) = or_left (in_set set a) (eqb symbol a) (in_from set a m h)
    there m (inr h) = or_right (in_set set a) (eqb symbol a) (eq-eqb symbol a (let e = eqb-true (symbol - 256) (a - 256) h in omega arith))

    back : (in_set set a ≡ true) ⊎ (eqb symbol a ≡ true) → in_set out a ≡ true
    back (inl h) = let (m, k) = in_at set a h in in_from out a m (o (a - 256) ∙ or_left (has set (a - 256)) (eqb (symbol - 256) (a - 256)) k)
    back (inr h) = let e = eqb-true symbol a h in in_from out a (omega arith, omega arith) (o (a - 256) ∙ or_right (has set (a - 256)) (eqb (symbol - 256) (a - 256)) (eq-eqb (symbol - 256) (a - 256) (omega arith)))

    to : in_set out a ≡ true → (in_set set a || eqb symbol a) ≡ true
    to e = let (m, h) = in_at out a e in there m (or_cases (has set (a - 256)) (eqb (symbol - 256) (a - 256)) (sym (o (a - 256)) ∙ h))

    from : (in_set set a || eqb symbol a) ≡ true → in_set out a ≡ true
    from e = back (or_cases (in_set set a) (eqb symbol a) e)

pub in_union : (x y out : ℕ) → ((j : ℕ) → has out j ≡ (has x j || has y j)) → (a : ℕ) → in_set out a ≡ (in_set x a || in_set y a)
in_union x y out o a = rw (o (a - 256)) (spread (leb 256 a && leb a 319) (has x (a - 256)) (has y (a - 256)))
  where
    spread : (p q r : Bool) → (p && (q || r)) ≡ ((p && q) || (p && r))
    spread true q r = refl
    spread false q r = refl
