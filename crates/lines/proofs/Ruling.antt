-- A rule in which a word is no place, number or symbol.
use Rattle.std.proofs.Common.{◌≡◌, ℕ, List, [], ◌∷◌, None, refl}
use Rattle.lines.specs.Requests.{with_places}

pub unplaced : (ws : List (List ℕ)) → with_places None ws ≡ None
unplaced [] = refl
unplaced (w ∷ ws) = unplaced ws
