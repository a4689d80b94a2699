-- A token that begins at an offset is what the cutter answers.
use Rattle.std.proofs.Common.{◌≡◌, ℕ, ◌+◌, ◌-◌, ◌<◌, ◌≤◌, Bool, true, false, cond, leb, List, length, take, drop, Some, None, Ok, Err, Option, refl, ap, ◌∙◌, arith}
use Rattle.std.proofs.lemmas.List.{length-drop, length-take-le, take_rest}
use Rattle.std.proofs.lemmas.Bool.{leb-true, leb-false}
use Rattle.cutting.specs.declared.fault.Fault.TheVariants.{FarColumn}
use Rattle.cutting.specs.Columns.{column_at}
use Rattle.cutting.specs.Starts.{token, text_of, closed, start_of}
use Rattle.cutting.specs.Whole.{start_past}
use Rattle.cutting.specs.Meaning.{Same}
use Rattle.cutting.proofs.Steps.{first_cut, last_far}
use Rattle.script.specs.declared.position.Position.{Position}
use Rattle.script.specs.declared.lexeme.Lexeme.{Lexeme}
use Rattle.script.specs.Lexemes.{Found, held, class_of, NextPost, pieced}

-- what comes from an offset is what comes from one with the same tokens
pub next_same : (xs : List ℕ) (a b : ℕ) → Same xs a b → (r : Found) → NextPost xs b r → NextPost xs a r
next_same xs a b s (Ok (Some p)) f = record { tokens = s.tokens ∙ f.tokens; ending = s.ending ∙ f.ending; bytes = f.bytes; short = f.short; ends = f.ends; lies = f.lies; column = f.column }
next_same xs a b s (Ok None) l = (s.tokens ∙ l.0, s.ending ∙ l.1)
next_same xs a b s (Err f) l = (s.tokens ∙ l.0, s.ending ∙ l.1)

pub piece_post : (xs : List ℕ) → length xs ≤ 65536 → (n : ℕ) (part : Lexeme) (at e : Position) → start_of (drop at.place xs) ≡ token (class_of part) n → held part ≡ take n (drop at.place xs) → at.column ≡ column_at xs at.place → e.place ≡ at.place + n → e.column ≡ column_at xs e.place → NextPost xs at.place (pieced part at e)
piece_post xs short n part at e is bytes side there behind =
    let fit = start_past xs at.place (token (class_of part) n) is (λ q. let z : ◌≡◌ {A = ℕ} 0 1 = cc in omega arith) in
    let size : length (held part) ≡ n = ap length bytes ∙ length-take-le n (drop at.place xs) (omega (arith, length-drop at.place xs)) in
    go fit size (leb at.column 255) refl
  where
    go : (0 < n) × (n ≤ length xs - at.place) → length (held part) ≡ n → (t : Bool) → leb at.column 255 ≡ t → NextPost xs at.place (cond t (Ok (Some (record { lexeme = part; column = at.column; place = at.place }, e))) (Err (FarColumn at.place)))
    go fit size true q =
        let low : column_at xs at.place ≤ 255 = omega (arith, leb-true _ _ q) in
        let f = first_cut xs short at.place n (class_of part) is low in
        record { tokens = cc; ending = cc; bytes = cc; short = omega arith; ends = omega arith; lies = omega arith; column = behind }
    go fit size false q = last_far xs short at.place n (class_of part) is (omega (arith, leb-false _ _ q))

-- a text, by what the search behind its quote answers
pub text_open : (xs : List ℕ) (start inside : ℕ) (o : Option ℕ) → start_of (drop start xs) ≡ text_of (closed (drop inside xs)) → o ≡ closed (take (length xs - inside) (drop inside xs)) → start_of (drop start xs) ≡ text_of o
text_open xs start inside o q a = let e = take_rest xs inside in cc

pub taken_to : (xs : List ℕ) (a e n : ℕ) → e ≡ a + n → take (e - a) (drop a xs) ≡ take n (drop a xs)
taken_to xs a e n h = let q : e - a ≡ n = omega arith in rw q refl
