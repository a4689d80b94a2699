-- The code of a summary in a row: free 0, at most m is 1 + 2m, exact c is 2 + 2c.
use Rattle.std.specs.Prelude.{◌≡◌, ℕ, ◌+◌, ◌-◌, ◌*◌, ◌/◌, ◌%◌, cond, ◌==◌}
use Rattle.indent.specs.declared.summary.Summary.{Summary}
use Rattle.indent.specs.declared.summary.Summary.TheVariants.{Free, AtMost, Exact}

abbrev pub encode : Summary → ℕ
encode Free = 0
encode (AtMost m) = 1 + 2 * m
encode (Exact c) = 2 + 2 * c

abbrev pub decode : ℕ → Summary
decode c = cond (c == 0) Free (cond (c % 2 == 1) (AtMost (c / 2)) (Exact (c / 2 - 1)))

-- a number is the summary's code, and has no other
abbrev pub Encodes : Summary → ℕ → Type 0
Encodes s c = (c ≡ encode s) × (decode c ≡ s)

-- a summary is the one that the number is the code of, and has no other code
abbrev pub Decodes : ℕ → Summary → Type 0
Decodes c s = (s ≡ decode c) × (encode s ≡ c)
