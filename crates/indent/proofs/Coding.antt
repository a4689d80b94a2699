-- The code of a summary and the way back, each the inverse of the other; a step through a relation and a meet
-- make no larger code.
use Rattle.std.proofs.Common.{◌≡◌, ℕ, ◌≤◌, Some, None, Option, sym, refl, ap, ◌∙◌, subst, arith}
use Rattle.std.proofs.lemmas.Bool.Decides.{nat_tests}
use Rattle.indent.specs.declared.relation.Relation.{Relation}
use Rattle.indent.specs.declared.relation.Relation.TheVariants.{Equal, Greater, AtLeast, Any}
use Rattle.indent.specs.declared.summary.Summary.{Summary}
use Rattle.indent.specs.declared.summary.Summary.TheVariants.{Free, AtMost, Exact}
use Rattle.indent.specs.Summaries.{through, meet, meet_with, passed}
use Rattle.indent.specs.Codes.{encode, decode}

pub encode_decode : (c : ℕ) → encode (decode c) ≡ c
encode_decode c = grind (arith, nat_tests)

pub decode_encode : (s : Summary) → decode (encode s) ≡ s
decode_encode Free = refl
decode_encode (AtMost m) = grind (arith, nat_tests)
decode_encode (Exact c) = grind (arith, nat_tests)

pub same_code : (b c : ℕ) → decode b ≡ decode c → b ≡ c
same_code b c e = sym (encode_decode b) ∙ ap encode e ∙ encode_decode c

abbrev Codes : ℕ → Option Summary → Type 0
Codes n None = Unit {0}
Codes n (Some s) = encode s ≤ n

through_code : (n : ℕ) (r : Relation) (s : Summary) → encode s ≤ n → Codes n (through r s)
through_code n Equal s h = h
through_code n Greater Free h = omega arith
through_code n Greater (AtMost m) h = grind (arith, nat_tests)
through_code n Greater (Exact c) h = grind (arith, nat_tests)
through_code n AtLeast Free h = h
through_code n AtLeast (AtMost m) h = h
through_code n AtLeast (Exact c) h = omega arith
through_code n Any s h = omega arith

meet_code : (n : ℕ) (s t : Summary) → encode s ≤ n → encode t ≤ n → Codes n (meet s t)
meet_code n Free t h k = k
meet_code n (AtMost m) Free h k = h
meet_code n (AtMost m) (AtMost l) h k = omega arith
meet_code n (AtMost m) (Exact l) h k = grind (arith, nat_tests)
meet_code n (Exact m) Free h k = h
meet_code n (Exact m) (AtMost l) h k = grind (arith, nat_tests)
meet_code n (Exact m) (Exact l) h k = grind (arith, nat_tests)

meet_with_code : (n : ℕ) (s : Summary) (o : Option Summary) → encode s ≤ n → Codes n o → Codes n (meet_with s o)
meet_with_code n s None h k = tt
meet_with_code n s (Some t) h k = meet_code n s t h k

-- a place more makes no larger code than the greater of the two that it is made from
pub passed_code : (n : ℕ) (s : Summary) (r : Relation) (child t : Summary) → passed s r child ≡ Some t → encode s ≤ n → encode child ≤ n → encode t ≤ n
passed_code n s r child t e h k = subst (Codes n) e (meet_with_code n s (through r child) h (through_code n r child k))
