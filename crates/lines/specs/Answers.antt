-- What is written for an answer, without the line feed.
use Rattle.std.specs.Prelude.{ℕ, List, ◌++◌, codes, decimal}
use Rattle.tokens.specs.declared.refusal.Refusal.{Refusal}
use Rattle.tokens.specs.Refusals.{report}
use Rattle.lines.specs.declared.answer.Reason.{Reason}
use Rattle.lines.specs.declared.answer.Reason.TheVariants.{NotUnderstood, NoMemory}
use Rattle.lines.specs.declared.answer.Answer.{Answer}
use Rattle.lines.specs.declared.answer.Answer.TheVariants.{Loaded, Refused, Cut, End, Fault, Error}

-- numbers are decimal, with one space before each
abbrev pub spaced : ℕ → List ℕ
spaced n = codes " " ++ decimal n

-- a reason, alone and behind a space
abbrev pub said : Reason → List ℕ
said NotUnderstood = codes "invalid"
said NoMemory = codes "out of memory"

abbrev pub why : Reason → List ℕ
why r = codes " " ++ said r

abbrev pub text : Answer → List ℕ
text (Loaded literals rules) = codes "loaded" ++ (spaced literals ++ spaced rules)
text (Refused number place) = codes "refused" ++ (spaced number ++ spaced place)
text (Cut t) = codes "token" ++ (spaced t.kind ++ (spaced t.column ++ (spaced t.place ++ spaced t.length)))
text End = codes "end"
text (Fault number place source) = codes "fault" ++ (spaced number ++ (spaced place ++ spaced source))
text (Error line reason) = codes "error" ++ (spaced line ++ why reason)

-- a refusal is answered by its number and place, a fault by its source too
abbrev pub refused : Refusal → Answer
refused e = Refused (report e).number (report e).place

abbrev pub faulted : Refusal → Answer
faulted e = Fault (report e).number (report e).place (report e).source
