use Rattle.std.proofs.Common.{◌≡◌, not, length, ◌∷◌, sym, ap, ◌∙◌, arith, rules}
use Rattle.std.proofs.lemmas.Iterator.{YieldsList-from_slice}
use Rattle.std.proofs.lemmas.Iterator.Search.{position_from_yields_List}
use Rattle.lines.specs.Words.{blank, words}
use Rattle.lines.proofs.Wording.{no_word, next_word}
use Rattle.lines.proofs.words.WordsIterator.next.Goals as goal

pub returns-in_err-start-clause-steps : goal.returns-in_err-start-clause-steps
returns-in_err-start-clause-steps c =
    let p = position_from_yields_List (λ b. not (blank b)) _ _ _ c.in_err-start.ensures.ran (YieldsList-from_slice c.self.inside.rest.now c.iter.ensures.rest) (λ x b q k. search rules) in
    let e = sym c.self.view_is ∙ no_word c.self.inside.rest.now p in
    rw c.from_residual.ensures (e, e)

pub returns-clause-steps : goal.returns-clause-steps
returns-clause-steps c =
    let p = position_from_yields_List (λ b. not (blank b)) _ _ _ c.in_ok-start.ensures.ran (YieldsList-from_slice c.self.inside.rest.now c.iter.ensures.rest) (λ x b q k. search rules) in
    let q = position_from_yields_List blank _ _ _ c.position-2.ensures.ran (YieldsList-from_slice _ c.iter-2.ensures.rest) (λ x b q k. search rules) in
    let k = rw q at c.unwrap_or-end.ensures in
    sym c.self.view_is ∙ rw (c.split_at.ensures.front, c.split_at.ensures.back) (next_word c.self.inside.rest.now c.in_ok-start.start c.unwrap_or-end.result p k)

pub returns-clause-goes : goal.returns-clause-goes
returns-clause-goes c =
    let e : c.args.self.now ≡ c.split_at.result.0.now ∷ words c.split_at.result.1.now = returns-clause-steps c in
    record { on = λ f. (tt, tt, omega (arith, ap length e)); keeps = tt; rests = λ f. tt }
