-- The classes of bytes in plain words, both ways.
use Rattle.std.proofs.Common.{◌≡◌, ℕ, Bool, true, false, ◌||◌, ◌⊎◌, refl, inl, inr, arith}
use Rattle.std.proofs.lemmas.Bool.Decides.{nat_tests}
use Rattle.std.proofs.lemmas.Bool.{cases_eq}
use Rattle.cutting.specs.declared.class.Class.{Class}
use Rattle.cutting.specs.declared.class.Class.TheVariants.{Blank, Line, Hash, Letter, Digit, Quote, Sign, Other}
use Rattle.cutting.specs.Classes.{within, letter, digit, classed, divides, wordy, digital, on_line}
use Rattle.cutting.specs.Starts.{plain}
use Rattle.cutting.specs.Shapes.{BlankByte, TokenByte}

-- blanks and line feeds
pub is_blank : (b : ℕ) → classed b ≡ Blank → BlankByte b
is_blank b e = go (cases_eq b 32) (cases_eq b 9) (cases_eq b 13)
  where
    go : (b ≡ 32) ⊎ (b ≡ 32 → ⊥) → (b ≡ 9) ⊎ (b ≡ 9 → ⊥) → (b ≡ 13) ⊎ (b ≡ 13 → ⊥) → BlankByte b
    go (inl p) q r = inl p
    go (inr p) (inl q) r = inr (inl q)
    go (inr p) (inr q) (inl r) = inr (inr (inr r))
    go (inr p) (inr q) (inr r) = inl (grind (arith, nat_tests))

pub is_line : (b : ℕ) → classed b ≡ Line → b ≡ 10
is_line b e = grind (arith, nat_tests)

pub blank_class : (b : ℕ) → BlankByte b → divides (classed b) ≡ true
blank_class b (inl e) = rw e refl
blank_class b (inr (inl e)) = rw e refl
blank_class b (inr (inr (inl e))) = rw e refl
blank_class b (inr (inr (inr e))) = rw e refl

-- comments
pub is_hash : (b : ℕ) → classed b ≡ Hash → b ≡ 35
is_hash b e = grind (arith, nat_tests)

pub hash_class : (b : ℕ) → b ≡ 35 → classed b ≡ Hash
hash_class b e = rw e refl

pub line_feed : (b : ℕ) → on_line (classed b) ≡ false → b ≡ 10
line_feed b e = grind (arith, nat_tests)

pub feed_line : (b : ℕ) → b ≡ 10 → on_line (classed b) ≡ false
feed_line b e = rw e refl

pub lineless : (b : ℕ) → (b ≡ 10 → ⊥) → on_line (classed b) ≡ true
lineless b e = grind (arith, nat_tests)

-- words and numbers
pub wordy_is : (b : ℕ) → wordy (classed b) ≡ (letter b || digit b)
wordy_is b = grind (arith, nat_tests)

pub digital_is : (b : ℕ) → digital (classed b) ≡ digit b
digital_is b = grind (arith, nat_tests)

pub is_letter : (b : ℕ) → classed b ≡ Letter → letter b ≡ true
is_letter b e = grind (arith, nat_tests)

pub letter_class : (b : ℕ) → letter b ≡ true → classed b ≡ Letter
letter_class b e = grind (arith, nat_tests)

pub digit_class : (b : ℕ) → digit b ≡ true → classed b ≡ Digit
digit_class b e = grind (arith, nat_tests)

-- texts
pub is_quote : (b : ℕ) → classed b ≡ Quote → b ≡ 34
is_quote b e = grind (arith, nat_tests)

pub quote_class : (b : ℕ) → b ≡ 34 → classed b ≡ Quote
quote_class b e = rw e refl

pub plain_quote : (b : ℕ) → plain b ≡ true → b ≡ 34 → ⊥
plain_quote b e q = grind (arith, nat_tests)

pub plain_line : (b : ℕ) → plain b ≡ true → b ≡ 10 → ⊥
plain_line b e q = grind (arith, nat_tests)

pub plain_from : (b : ℕ) → (b ≡ 34 → ⊥) → (b ≡ 10 → ⊥) → plain b ≡ true
plain_from b e f = grind (arith, nat_tests)

pub unplain : (b : ℕ) → plain b ≡ false → (b ≡ 34 → ⊥) → b ≡ 10
unplain b e q = grind (arith, nat_tests)

-- marks
pub sign_seen : (b : ℕ) → classed b ≡ Sign → within 33 126 b ≡ true
sign_seen b e = grind (arith, nat_tests)

pub sign_letter : (b : ℕ) → classed b ≡ Sign → letter b ≡ false
sign_letter b e = grind (arith, nat_tests)

pub sign_digit : (b : ℕ) → classed b ≡ Sign → digit b ≡ false
sign_digit b e = grind (arith, nat_tests)

pub sign_quote : (b : ℕ) → classed b ≡ Sign → b ≡ 34 → ⊥
sign_quote b e q = grind (arith, nat_tests)

pub sign_hash : (b : ℕ) → classed b ≡ Sign → b ≡ 35 → ⊥
sign_hash b e q = grind (arith, nat_tests)

pub sign_class : (b : ℕ) → within 33 126 b ≡ true → letter b ≡ false → digit b ≡ false → (b ≡ 34 → ⊥) → (b ≡ 35 → ⊥) → classed b ≡ Sign
sign_class b e f g h i = grind (arith, nat_tests)

-- bytes that start no token
pub other_unseen : (b : ℕ) → classed b ≡ Other → within 33 126 b ≡ false
other_unseen b e = grind (arith, nat_tests)

other_32 : (b : ℕ) → classed b ≡ Other → b ≡ 32 → ⊥
other_32 b e q = grind (arith, nat_tests)

other_9 : (b : ℕ) → classed b ≡ Other → b ≡ 9 → ⊥
other_9 b e q = grind (arith, nat_tests)

other_10 : (b : ℕ) → classed b ≡ Other → b ≡ 10 → ⊥
other_10 b e q = grind (arith, nat_tests)

other_13 : (b : ℕ) → classed b ≡ Other → b ≡ 13 → ⊥
other_13 b e q = grind (arith, nat_tests)

pub other_blank : (b : ℕ) → classed b ≡ Other → BlankByte b → ⊥
other_blank b e (inl q) = other_32 b e q
other_blank b e (inr (inl q)) = other_9 b e q
other_blank b e (inr (inr (inl q))) = other_10 b e q
other_blank b e (inr (inr (inr q))) = other_13 b e q

other_from : (b : ℕ) → within 33 126 b ≡ false → (b ≡ 32 → ⊥) → (b ≡ 9 → ⊥) → (b ≡ 10 → ⊥) → (b ≡ 13 → ⊥) → classed b ≡ Other
other_from b e f g h i = grind (arith, nat_tests)

pub other_class : (b : ℕ) → within 33 126 b ≡ false → (BlankByte b → ⊥) → classed b ≡ Other
other_class b e f = other_from b e (λ q. f (inl q)) (λ q. f (inr (inl q))) (λ q. f (inr (inr (inl q)))) (λ q. f (inr (inr (inr q))))

-- the classes that start a token
abbrev pub starting : Class → Bool
starting Blank = false
starting Line = false
starting Hash = false
starting Letter = true
starting Digit = true
starting Quote = true
starting Sign = true
starting Other = false

starting_seen : (b : ℕ) → starting (classed b) ≡ true → within 33 126 b ≡ true
starting_seen b e = grind (arith, nat_tests)

starting_hash : (b : ℕ) → starting (classed b) ≡ true → b ≡ 35 → ⊥
starting_hash b e q = grind (arith, nat_tests)

pub starting_byte : (b : ℕ) → starting (classed b) ≡ true → TokenByte b
starting_byte b e = (starting_seen b e, starting_hash b e)

seen_starts : (b : ℕ) → within 33 126 b ≡ true → (b ≡ 35 → ⊥) → starting (classed b) ≡ true
seen_starts b e h = grind (arith, nat_tests)

pub byte_starting : (b : ℕ) → TokenByte b → starting (classed b) ≡ true
byte_starting b t = seen_starts b t.0 t.1
