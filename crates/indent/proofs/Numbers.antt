-- Summaries stand for the sets of numbers that they should: `through` is a relation's preimage, `meet` the
-- intersection, and no summary is empty.
use Rattle.std.proofs.Common.{ℕ, suc, ◌↔◌, Some, None, Option, refl, subst, arith}
use Rattle.std.proofs.lemmas.Bool.Decides.{nat_tests}
use Rattle.indent.specs.declared.relation.Relation.{Relation}
use Rattle.indent.specs.declared.relation.Relation.TheVariants.{Equal, Greater, AtLeast, Any}
use Rattle.indent.specs.declared.summary.Summary.{Summary}
use Rattle.indent.specs.declared.summary.Summary.TheVariants.{Free, AtMost, Exact}
use Rattle.indent.specs.Relations.{Holds}
use Rattle.indent.specs.Summaries.{In, through, meet, meet_with, passed, Within, Meets, Allowed, Both, Passes, Inhabited}

pub inhabited : Inhabited
inhabited Free = (0, tt)
inhabited (AtMost m) = (0, omega arith)
inhabited (Exact c) = (c, refl)

through_there : (r : Relation) (s : Summary) (i j : ℕ) → In s j → Holds r j i → Within (through r s) i
through_there Equal s i j h k = subst (In s) k h
through_there Greater Free i j h k = tt
through_there Greater (AtMost m) i j h k = grind (arith, nat_tests)
through_there Greater (Exact c) i j h k = grind (arith, nat_tests)
through_there AtLeast Free i j h k = tt
through_there AtLeast (AtMost m) i j h k = omega arith
through_there AtLeast (Exact c) i j h k = omega arith
through_there Any s i j h k = tt

through_back : (r : Relation) (s : Summary) (i : ℕ) → Within (through r s) i → Meets r s i
through_back Equal s i h = (i, h, refl)
through_back Greater Free i h = (suc i, tt, omega arith)
through_back Greater (AtMost m) i h = (m, omega arith, grind (arith, nat_tests))
through_back Greater (Exact c) i h = (c, refl, grind (arith, nat_tests))
through_back AtLeast Free i h = (i, tt, omega arith)
through_back AtLeast (AtMost m) i h = (i, h, omega arith)
through_back AtLeast (Exact c) i h = (c, refl, h)
through_back Any s i h = ((inhabited s).0, (inhabited s).1, tt)

meet_there : (s t : Summary) (i : ℕ) → In s i → In t i → Within (meet s t) i
meet_there Free t i h k = k
meet_there (AtMost m) Free i h k = h
meet_there (AtMost m) (AtMost n) i h k = omega arith
meet_there (AtMost m) (Exact c) i h k = grind (arith, nat_tests)
meet_there (Exact c) Free i h k = h
meet_there (Exact c) (AtMost m) i h k = grind (arith, nat_tests)
meet_there (Exact c) (Exact d) i h k = grind (arith, nat_tests)

meet_back : (s t : Summary) (i : ℕ) → Within (meet s t) i → In s i × In t i
meet_back Free t i h = (tt, h)
meet_back (AtMost m) Free i h = (h, tt)
meet_back (AtMost m) (AtMost n) i h = omega arith
meet_back (AtMost m) (Exact c) i h = grind (arith, nat_tests)
meet_back (Exact c) Free i h = (h, tt)
meet_back (Exact c) (AtMost m) i h = grind (arith, nat_tests)
meet_back (Exact c) (Exact d) i h = grind (arith, nat_tests)

pub allowed : (r : Relation) (s : Summary) → Allowed r s (through r s)
allowed r s i = (through_back r s i, λ h. through_there r s i h.0 h.1 h.2)

pub both : (s t : Summary) → Both s t (meet s t)
both s t i = (meet_back s t i, λ h. meet_there s t i h.0 h.1)

meet_with_both : (s : Summary) (o : Option Summary) (i : ℕ) → Within (meet_with s o) i ↔ (In s i × Within o i)
meet_with_both s None i = (λ h. absurd h, λ h. h.1)
meet_with_both s (Some t) i = both s t i

pub passes : (s : Summary) (r : Relation) (child : Summary) → Passes s r child (passed s r child)
passes s r child i =
    let m = meet_with_both s (through r child) i in
    let a = allowed r child i in
    (λ h. ((m.0 h).0, a.0 (m.0 h).1), λ h. m.1 (h.0, a.1 h.1))
