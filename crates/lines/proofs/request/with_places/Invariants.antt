use Rattle.std.proofs.Common.{◌≡◌, Some}
use Rattle.lines.specs.Requests.{with_places}
use Rattle.lines.proofs.request.with_places.Given as goal

abbrev pub invariant-loop-word : goal.invariant-loop-word
invariant-loop-word l = with_places (Some l.row) l.word-iterator ≡ with_places (Some l.fn.bare) l.fn.words
