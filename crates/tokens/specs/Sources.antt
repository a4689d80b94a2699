-- What a source of tokens means: a finite list of tokens still to come, then an end or a fault.
use Rattle.std.specs.Prelude.{List, [], ◌∷◌, Option, Some, None, Result, Ok, Err}
use Rattle.tokens.specs.declared.token.Token.{Token}
use Rattle.tokens.specs.declared.refusal.Refusal.{Refusal}

-- what comes behind the last token
pub data Ending : Type 0 where
  end : Ending
  fault : Refusal → Ending

abbrev pub ended : Ending → Result (Option Token) Refusal
ended end = Ok None
ended (fault f) = Err f

-- asking gives the first token; once there is none, the end or the fault every time
abbrev pub answer : List Token → Ending → Result (Option Token) Refusal
answer [] e = ended e
answer (t ∷ ts) e = Ok (Some t)

-- and removes it; once there is none, it alters nothing
abbrev pub rest : List Token → List Token
rest [] = []
rest (t ∷ ts) = ts
