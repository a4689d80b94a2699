-- The worked cases.
use Rattle.std.specs.Prelude.{ℕ, List, [], ◌∷◌, Some, None}
use Rattle.rows.specs.Meaning.{grammar_of_rows}
use Rattle.dialect.specs.Loose.{loose}
use Rattle.cases.specs.Dialects.{strict, empty}
use Rattle.cases.specs.Case.{Case, Beginning, A, B, C, D, E, F, G, H}

-- the readings of three words at column 0 under LOOSE
abbrev pub side_or_below : List (List ℕ)
side_or_below = (0 ∷ 0 ∷ 1 ∷ 2 ∷ 2 ∷ 2 ∷ []) ∷ (0 ∷ 1 ∷ 2 ∷ 3 ∷ 1 ∷ 2 ∷ []) ∷ (0 ∷ 1 ∷ 3 ∷ 1 ∷ 2 ∷ 2 ∷ []) ∷ (1 ∷ 3 ∷ 0 ∷ 1 ∷ 2 ∷ 2 ∷ []) ∷ (1 ∷ 3 ∷ 1 ∷ 3 ∷ 1 ∷ 2 ∷ []) ∷ []

-- the sums of case E
abbrev pub after : List Beginning
after = record { prefix = 0 ∷ 1 ∷ []; count = 2; least = Some 6 } ∷ record { prefix = 2 ∷ []; count = 0; least = None } ∷ record { prefix = 1 ∷ []; count = 2; least = Some 6 } ∷ []

-- case H with its word: column 0 under STRICT
abbrev pub strict_word : Case
strict_word = record { name = H; dialect = grammar_of_rows strict 256; columns = 0 ∷ []; readings = (1 ∷ 2 ∷ []) ∷ []; count = 1; least = Some 1; beginnings = []; items = 12; links = 4 }

-- C and H are two rows each: before the word, and with it
abbrev pub table : List Case
table =
    record { name = A; dialect = grammar_of_rows loose 256; columns = []; readings = []; count = 0; least = None; beginnings = []; items = 4; links = 0 }
    ∷ record { name = B; dialect = grammar_of_rows loose 256; columns = 0 ∷ []; readings = (1 ∷ 2 ∷ []) ∷ []; count = 1; least = Some 1; beginnings = []; items = 12; links = 4 }
    ∷ record { name = C; dialect = grammar_of_rows empty 256; columns = []; readings = []; count = 0; least = None; beginnings = []; items = 4; links = 2 }
    ∷ record { name = C; dialect = grammar_of_rows empty 256; columns = 0 ∷ []; readings = (0 ∷ 1 ∷ 1 ∷ []) ∷ []; count = 1; least = Some 0; beginnings = []; items = 5; links = 3 }
    ∷ record { name = D; dialect = grammar_of_rows loose 256; columns = 0 ∷ 0 ∷ 0 ∷ []; readings = side_or_below; count = 5; least = Some 5; beginnings = []; items = 40; links = 29 }
    ∷ record { name = E; dialect = grammar_of_rows loose 256; columns = 0 ∷ 0 ∷ 0 ∷ []; readings = side_or_below; count = 5; least = Some 5; beginnings = after; items = 40; links = 29 }
    ∷ record { name = F; dialect = grammar_of_rows strict 256; columns = 0 ∷ 2 ∷ 0 ∷ []; readings = (0 ∷ 1 ∷ 3 ∷ 1 ∷ 2 ∷ 2 ∷ []) ∷ []; count = 1; least = Some 6; beginnings = []; items = 33; links = 17 }
    ∷ record { name = G; dialect = grammar_of_rows strict 256; columns = 0 ∷ 2 ∷ 1 ∷ []; readings = []; count = 0; least = None; beginnings = []; items = 31; links = 15 }
    ∷ record { name = H; dialect = grammar_of_rows strict 256; columns = []; readings = []; count = 0; least = None; beginnings = []; items = 4; links = 0 }
    ∷ strict_word
    ∷ []
