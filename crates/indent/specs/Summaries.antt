-- Summaries: the sets of numbers that the root of a subtree may carry.
use Rattle.std.specs.Prelude.{◌≡◌, ℕ, ◌-◌, ◌≤◌, min, cond, ◌↔◌, Some, None, Option, ◌==◌, nat_le}
use Rattle.indent.specs.declared.relation.Relation.{Relation}
use Rattle.indent.specs.declared.relation.Relation.TheVariants.{Equal, Greater, AtLeast, Any}
use Rattle.indent.specs.declared.summary.Summary.{Summary}
use Rattle.indent.specs.declared.summary.Summary.TheVariants.{Free, AtMost, Exact}
use Rattle.indent.specs.Relations.{Holds}

-- the numbers of a summary
abbrev pub In : Summary → ℕ → Type 0
In Free i = Unit {0}
In (AtMost m) i = i ≤ m
In (Exact c) i = i ≡ c

-- the numbers less than m, if there are any
abbrev pub below : ℕ → Option Summary
below m = cond (m == 0) None (Some (AtMost (m - 1)))

-- the numbers of a parent that a child with this summary allows, by the relation's column of the table
abbrev pub through : Relation → Summary → Option Summary
through Equal s = Some s
through Greater Free = Some Free
through Greater (AtMost m) = below m
through Greater (Exact c) = below c
through AtLeast Free = Some Free
through AtLeast (AtMost m) = Some (AtMost m)
through AtLeast (Exact c) = Some (AtMost c)
through Any s = Some Free

-- the numbers that both summaries have
abbrev pub meet : Summary → Summary → Option Summary
meet Free s = Some s
meet (AtMost m) Free = Some (AtMost m)
meet (AtMost m) (AtMost n) = Some (AtMost (min m n))
meet (AtMost m) (Exact c) = cond (nat_le c m) (Some (Exact c)) None
meet (Exact c) Free = Some (Exact c)
meet (Exact c) (AtMost m) = cond (nat_le c m) (Some (Exact c)) None
meet (Exact c) (Exact d) = cond (c == d) (Some (Exact c)) None

abbrev pub meet_with : Summary → Option Summary → Option Summary
meet_with s None = None
meet_with s (Some t) = meet s t

-- a rule's summary so far, met with what a child at one place more allows
abbrev pub passed : Summary → Relation → Summary → Option Summary
passed s r child = meet_with s (through r child)

-- the numbers of a summary that may be missing
abbrev pub Within : Option Summary → ℕ → Type 0
Within None i = ⊥
Within (Some s) i = In s i

-- some number of the child's summary meets the relation with the parent's number i
abbrev pub Meets : Relation → Summary → ℕ → Type 0
Meets r s i = (j : ℕ) × In s j × Holds r j i

-- the answer has exactly the parent numbers for which some number of the child meets the relation
abbrev pub Allowed : Relation → Summary → Option Summary → Type 0
Allowed r s o = (i : ℕ) → Within o i ↔ Meets r s i

-- the answer has exactly the numbers of both
abbrev pub Both : Summary → Summary → Option Summary → Type 0
Both s t o = (i : ℕ) → Within o i ↔ (In s i × In t i)

-- the answer has exactly the numbers so far for which some number of the child meets the relation
abbrev pub Passes : Summary → Relation → Summary → Option Summary → Type 0
Passes s r child o = (i : ℕ) → Within o i ↔ (In s i × Meets r child i)

-- no summary is empty
abbrev pub Inhabited : Type 0
Inhabited = (s : Summary) → (i : ℕ) × In s i
