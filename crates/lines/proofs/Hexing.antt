-- Hexadecimal digits read two at a time.
use Rattle.std.proofs.Common.{◌≡◌, ℕ, ◌-◌, ◌≤◌, List, [], ◌∷◌, ◌++◌, length, get_or, take, drop, Some, None, Option, refl, ap, ◌∙◌, append_assoc, arith}
use Rattle.std.proofs.lemmas.List.{take_rest}
use Rattle.lines.specs.Hex.{pair, behind, bytes}

-- the bytes read so far, before those of what is left
abbrev pub ahead : List ℕ → Option (List ℕ) → Option (List ℕ)
ahead out None = None
ahead out (Some xs) = Some (out ++ xs)

pub ahead_more : (out : List ℕ) (b : ℕ) (o : Option (List ℕ)) → ahead (out ++ b ∷ []) o ≡ ahead out (behind (Some b) o)
ahead_more out b None = refl
ahead_more out b (Some xs) = ap Some (append_assoc out (b ∷ []) xs)

-- two digits more are read
pub read_more : (xs out more : List ℕ) (b : ℕ) (r : Option (List ℕ)) → 2 ≤ length xs → Some b ≡ pair (get_or xs 0 0) (get_or xs 1 0) → more ≡ out ++ b ∷ [] → ahead out (bytes xs) ≡ r → ahead more (bytes (take (length xs - 2) (drop 2 xs))) ≡ r
read_more [] out more b r h e f g = absurd (omega arith)
read_more (x ∷ []) out more b r h e f g = absurd (omega arith)
read_more (x ∷ y ∷ xs) out more b r h e f g =
    let left : ahead out (behind (Some b) (bytes xs)) ≡ r = rw (← e) at g in
    rw (take_rest (x ∷ y ∷ xs) 2, f) (ahead_more out b (bytes xs) ∙ left)
