-- Each token has the shape of its class.
use Rattle.std.proofs.Common.{◌≡◌, ℕ, ◌+◌, ◌-◌, ◌<◌, eqb, List, length, get_or, drop, Some, None, Option, sym, refl, ap, ◌∙◌, subst, arith}
use Rattle.std.specs.List.{prefix_len}
use Rattle.std.proofs.lemmas.List.Sums.{prefix_len_passes}
use Rattle.std.proofs.lemmas.Bool.{eqb-true}
use Rattle.cutting.specs.declared.class.Class.{Class}
use Rattle.cutting.specs.declared.class.Class.TheVariants.{Blank, Line, Hash, Letter, Digit, Quote, Sign, Other}
use Rattle.cutting.specs.Columns.{column_at}
use Rattle.cutting.specs.Classes.{classed, wordy, digital}
use Rattle.cutting.specs.Starts.{TokenClass, word, number, text, mark, token, plain, closed, text_of, begins}
use Rattle.cutting.specs.Cuts.{step, takes, Span, Stop, Cuts, ends, breaks, skip, cut}
use Rattle.cutting.specs.Whole.{some_cond, taken, takes_fit}
use Rattle.cutting.specs.Shapes.{IsWord, IsNumber, IsText, IsMark, Shaped, Sound, AllSound}
use Rattle.cutting.specs.Laws.{Sounds}
use Rattle.cutting.proofs.Runs.{tail_byte, run_all, run_end}
use Rattle.cutting.proofs.Classing.{wordy_is, digital_is, is_letter, is_quote, plain_quote, plain_line, sign_seen, sign_letter, sign_digit, sign_quote, sign_hash}
use Rattle.cutting.proofs.Steps.{here}

word_shape : (xs : List ℕ) (a : ℕ) → classed (get_or xs a 0) ≡ Letter → IsWord xs a (1 + prefix_len (λ b. wordy (classed b)) (drop (a + 1) xs))
word_shape xs a c = record {
  first = is_letter (get_or xs a 0) c;
  all = λ k l. sym (wordy_is (get_or xs (a + k) 0)) ∙ run_all (λ b. wordy (classed b)) xs a (ap wordy c) k l;
  whole = λ l. sym (wordy_is (get_or xs (a + (1 + prefix_len (λ b. wordy (classed b)) (drop (a + 1) xs))) 0)) ∙ run_end (λ b. wordy (classed b)) xs a l;
}

number_shape : (xs : List ℕ) (a : ℕ) → classed (get_or xs a 0) ≡ Digit → IsNumber xs a (1 + prefix_len (λ b. digital (classed b)) (drop (a + 1) xs))
number_shape xs a c = record {
  all = λ k l. sym (digital_is (get_or xs (a + k) 0)) ∙ run_all (λ b. digital (classed b)) xs a (ap digital c) k l;
  whole = λ l. sym (digital_is (get_or xs (a + (1 + prefix_len (λ b. digital (classed b)) (drop (a + 1) xs))) 0)) ∙ run_end (λ b. digital (classed b)) xs a l;
}

text_shape : (xs : List ℕ) (a m : ℕ) → classed (get_or xs a 0) ≡ Quote → closed (drop (a + 1) xs) ≡ Some m → IsText xs a (m + 2)
text_shape xs a m c e =
    let r = some_cond (eqb (get_or (drop (a + 1) xs) (prefix_len plain (drop (a + 1) xs)) 0) 34) (prefix_len plain (drop (a + 1) xs)) m e in
    let q = r.1 in
    let z = eqb-true _ _ r.0 in
    record {
      two = omega arith;
      opens = is_quote (get_or xs a 0) c;
      closes = tail_byte xs a (prefix_len plain (drop (a + 1) xs)) (a + (m + 2 - 1)) (omega arith) ∙ z;
      inside = inner;
    }
  where
    inner : (k : ℕ) → 0 < k → k < m + 2 - 1 → (get_or xs (a + k) 0 ≡ 34 → ⊥) × (get_or xs (a + k) 0 ≡ 10 → ⊥)
    inner k l h =
        let r = some_cond (eqb (get_or (drop (a + 1) xs) (prefix_len plain (drop (a + 1) xs)) 0) 34) (prefix_len plain (drop (a + 1) xs)) m e in
        let q = r.1 in
        let t = tail_byte xs a (k - 1) (a + k) (omega arith) in
        let y = ap plain t ∙ prefix_len_passes plain (drop (a + 1) xs) (k - 1) 0 (omega arith) in
        (plain_quote (get_or xs (a + k) 0) y, plain_line (get_or xs (a + k) 0) y)

mark_shape : (xs : List ℕ) (a : ℕ) → classed (get_or xs a 0) ≡ Sign → IsMark xs a 1
mark_shape xs a c = record { one = refl; seen = sign_seen (get_or xs a 0) c; no_letter = sign_letter (get_or xs a 0) c; no_digit = sign_digit (get_or xs a 0) c; no_quote = sign_quote (get_or xs a 0) c; no_hash = sign_hash (get_or xs a 0) c }

shaped_at : (xs : List ℕ) (a : ℕ) {s r : TokenClass} {m n : ℕ} → s ≡ r → m ≡ n → Shaped xs s a m → Shaped xs r a n
shaped_at xs a {s} {r} {m} {n} p q h = subst (λ k. Shaped xs r a k) q (subst (λ k. Shaped xs k a m) p h)

shape_by : (xs : List ℕ) (a n : ℕ) (s : TokenClass) (c : Class) → classed (get_or xs a 0) ≡ c → begins c (drop (a + 1) xs) ≡ token s n → Shaped xs s a n
shape_by xs a n s Blank c e = cc
shape_by xs a n s Line c e = cc
shape_by xs a n s Hash c e = cc
shape_by xs a n s Letter c e = let p : word ≡ s = cc in let q : 1 + prefix_len (λ b. wordy (classed b)) (drop (a + 1) xs) ≡ n = cc in shaped_at xs a p q (word_shape xs a c)
shape_by xs a n s Digit c e = let p : number ≡ s = cc in let q : 1 + prefix_len (λ b. digital (classed b)) (drop (a + 1) xs) ≡ n = cc in shaped_at xs a p q (number_shape xs a c)
shape_by xs a n s Quote c e = go (closed (drop (a + 1) xs)) refl e
  where
    go : (o : Option ℕ) → closed (drop (a + 1) xs) ≡ o → text_of o ≡ token s n → Shaped xs s a n
    go None o h = cc
    go (Some m) o h = let p : text ≡ s = cc in let q : m + 2 ≡ n = cc in shaped_at xs a p q (text_shape xs a m c o)
shape_by xs a n s Sign c e = let p : mark ≡ s = cc in let q : 1 ≡ n = cc in shaped_at xs a p q (mark_shape xs a c)
shape_by xs a n s Other c e = cc

sound_at : (xs : List ℕ) (a n : ℕ) (s : TokenClass) → step xs a ≡ takes s n → Sound xs (record { class = s; place = a; column = column_at xs a; size = n })
sound_at xs a n s e =
    let lt : a < length xs = omega (arith, takes_fit xs a n s e) in
    let t = taken xs a n s e in
    record { short = t.0; shape = shape_by xs a n s (classed (get_or xs a 0)) refl (sym (here xs a lt) ∙ t.1); column = refl; low = t.2 }

sound_all : {xs : List ℕ} {a : ℕ} {ss : List Span} {e : Stop} → Cuts xs a ss e → AllSound xs ss
sound_all (ends p) = tt
sound_all (breaks p) = tt
sound_all (skip p c) = sound_all c
sound_all {xs} (cut {at = a} {n = n} {c = s} p c) = (sound_at xs a n s p, sound_all c)

pub sounds : Sounds
sounds xs a ss e c = sound_all c
