-- The words of a line: the longest runs of bytes that are no space (32) and no tab (9).
use Rattle.std.specs.Prelude.{ℕ, Bool, cond, ◌||◌, List, [], ◌∷◌, ◌==◌}

abbrev pub blank : ℕ → Bool
blank b = b == 32 || b == 9

-- the byte b before the first of the words
abbrev pub onto : ℕ → List (List ℕ) → List (List ℕ)
onto b [] = (b ∷ []) ∷ []
onto b (w ∷ ws) = (b ∷ w) ∷ ws

-- the byte b, which is not blank, before the bytes xs with the words ws
abbrev pub before : ℕ → List ℕ → List (List ℕ) → List (List ℕ)
before b [] ws = (b ∷ []) ∷ ws
before b (c ∷ xs) ws = cond (blank c) ((b ∷ []) ∷ ws) (onto b ws)

abbrev pub words : List ℕ → List (List ℕ)
words [] = []
words (b ∷ xs) = cond (blank b) (words xs) (before b xs (words xs))
