-- The law of kinds.
use Rattle.std.proofs.Common.{◌≡◌, ℕ, zero, suc, ◌+◌, ◌<◌, Bool, true, false, ◌&&◌, leb, ◌⊎◌, List, [], ◌∷◌, length, get_or, take, sym, refl, ◌∙◌, inl, inr, arith}
use Rattle.std.specs.Str.{bytes_eq}
use Rattle.std.proofs.lemmas.Bool.{leb-true, le-leb, false≢true}
use Rattle.std.proofs.lemmas.Slice.Eq.{bytes_eq-Decides}
use Rattle.rows.specs.declared.row.LiteralRow.{LiteralRow}
use Rattle.rows.specs.Rows.{no_literal}
use Rattle.script.specs.Kinds.{spells, numbered, Spelled, FirstSpelled, Kinds}

-- the test in plain words
both : (a b : Bool) → (a && b) ≡ true → (a ≡ true) × (b ≡ true)
both true b e = (refl, e)
both false b e = absurd (false≢true e)

spelled_yes : (l : LiteralRow) (xs : List ℕ) → spells l xs ≡ true → Spelled l xs
spelled_yes l xs e =
    let r = both (leb l.length 32) (bytes_eq xs (take l.length l.bytes)) e in
    record { few = leb-true _ _ r.0; same = (bytes_eq-Decides xs (take l.length l.bytes)).0 r.1 }

spelled_no : (l : LiteralRow) (xs : List ℕ) → spells l xs ≡ false → Spelled l xs → ⊥
spelled_no l xs e s =
    let few = le-leb l.length 32 s.few in
    let same = (bytes_eq-Decides xs (take l.length l.bytes)).1 s.same in
    false≢true (sym e ∙ (rw (few, same) refl))

abbrev FoundFrom : ℕ → List LiteralRow → List ℕ → ℕ → Type 0
FoundFrom n ls xs class =
    ((i : ℕ) × FirstSpelled ls xs i × (numbered n ls xs class ≡ n + i))
    ⊎ (((k : ℕ) → k < length ls → Spelled (get_or ls k no_literal) xs → ⊥) × (numbered n ls xs class ≡ class))

below : (l : LiteralRow) (ls : List LiteralRow) (xs : List ℕ) (i : ℕ) → (Spelled l xs → ⊥) → ((k : ℕ) → k < i → Spelled (get_or ls k no_literal) xs → ⊥) → (k : ℕ) → k < suc i → Spelled (get_or (l ∷ ls) k no_literal) xs → ⊥
below l ls xs i e h zero b = e
below l ls xs i e h (suc k) b = h k (omega arith)

found_from : (n : ℕ) (ls : List LiteralRow) (xs : List ℕ) (class : ℕ) → FoundFrom n ls xs class
found_from n [] xs class = inr (λ k h. absurd (omega arith), refl)
found_from n (l ∷ ls) xs class = go (spells l xs) refl (found_from (n + 1) ls xs class)
  where
    go : (t : Bool) → spells l xs ≡ t → FoundFrom (n + 1) ls xs class → FoundFrom n (l ∷ ls) xs class
    go true e r = inl (0, record { row = omega arith; is = spelled_yes l xs e; first = λ k h. absurd (omega arith) }, (rw e (omega arith)))
    go false e (inl r) =
        let s = r.1 in
        let q = r.2 in
        let b = s.row in
        inl (suc r.0, record { row = omega arith; is = s.is; first = below l ls xs r.0 (spelled_no l xs e) s.first }, (rw e (omega arith)))
    go false e (inr r) = inr (below l ls xs (length ls) (spelled_no l xs e) r.0, (rw e r.1))

pub kinds : Kinds
kinds ls xs class = found_from 16 ls xs class
