-- What each line does to a session, and what it answers.
use Rattle.std.specs.Prelude.{◌≡◌, ◌<◌, ℕ, List, [], ◌∷◌, ◌++◌, map, length, Some, None, Ok, Err, IfOk, vec_items, vec_len, vec_capacity, Option, Result, Vec}
use Rattle.std.specs.declared.alloc.Global.{Global}
use Rattle.std.specs.declared.alloc.AllocError.{AllocError}
use Rattle.tokens.specs.declared.token.Token.{Token}
use Rattle.tokens.specs.declared.refusal.Refusal.{Refusal}
use Rattle.tokens.specs.declared.refusal.Refusal.TheVariants.{NoMemory}
use Rattle.tokens.specs.Sources.{Ending, end, fault}
use Rattle.rows.specs.declared.row.LiteralRow.{LiteralRow}
use Rattle.rows.specs.declared.row.RuleRow.{RuleRow}
use Rattle.dialect.specs.Loads.{Holds, Refuses}
use Rattle.dialect.specs.Loose.{loose}
use Rattle.dialect.specs.Views.{literals_of}
use Rattle.script.specs.Tokens.{text_tokens, text_ending}
use Rattle.lines.specs.declared.answer.Reason.TheVariants.{NotUnderstood}
use Rattle.lines.specs.declared.answer.Answer.{Answer}
use Rattle.lines.specs.declared.answer.Answer.TheVariants as answer
use Rattle.lines.specs.Answers.{refused, faulted}
use Rattle.lines.specs.Requests as request
use Rattle.session.specs.declared.state.Session.{Session}

abbrev pub literals_in : Session → List LiteralRow
literals_in s = vec_items s.literals

abbrev pub rules_in : Session → List RuleRow
rules_in s = vec_items s.rules

abbrev pub script_in : Session → List ℕ
script_in s = vec_items s.script

-- a session at first: the built-in dialect, nothing collected, an empty script
pub record Fresh (s : Session) : Type 0 where
  pub dialect : Holds s.dialect [] loose 256
  pub literals : literals_in s ≡ []
  pub rules : rules_in s ≡ []
  pub start : s.start ≡ 0
  pub script : script_in s ≡ []

abbrev pub Begun : Result Session Refusal → Type 0
Begun (Ok s) = Fresh s
Begun (Err e) = e ≡ NoMemory

-- these rows are collected behind those that were; all else stays
pub record Collected (was now : Session) (ls : List LiteralRow) (rs : List RuleRow) : Type 0 where
  pub dialect : now.dialect ≡ was.dialect
  pub literals : literals_in now ≡ literals_in was ++ ls
  pub rules : rules_in now ≡ rules_in was ++ rs
  pub start : now.start ≡ was.start
  pub script : now.script ≡ was.script

-- what was collected is forgotten; the script stays
pub record Forgets (was now : Session) : Type 0 where
  pub literals : literals_in now ≡ []
  pub rules : rules_in now ≡ []
  pub start : now.start ≡ 0
  pub script : now.script ≡ was.script

-- a good load: the dialect holds what was collected, and the answer has the numbers of rows
pub record GoodLoad (was now : Session) (a : Answer) : Type 0 where
  pub holds : Holds now.dialect (literals_in was) (rules_in was) was.start
  pub answer : a ≡ answer.Loaded (length (literals_in was)) (length (rules_in was))

-- a refused one: the dialect stays, and the answer has the refusal's number and place
pub record BadLoad (was now : Session) (a : Answer) : Type 0 where
  pub refusal : Refusal
  pub stays : now.dialect ≡ was.dialect
  pub why : Refuses (literals_in was) (rules_in was) was.start refusal
  pub answer : a ≡ refused refusal

pub data LoadEnds (was now : Session) (a : Answer) : Type 0 where
  good : GoodLoad was now a → LoadEnds was now a
  bad : BadLoad was now a → LoadEnds was now a

pub record Loads (was now : Session) (a : Answer) : Type 0 where
  pub forgets : Forgets was now
  pub ends : LoadEnds was now a

-- the answers of `tokens`: the tokens of the script, then the end or the fault
abbrev pub ended : Ending → Answer
ended end = answer.End
ended (fault f) = faulted f

abbrev pub told : Session → List Answer
told s = map answer.Cut (text_tokens (literals_of s.dialect) (script_in s) 0) ++ ended (text_ending (script_in s) 0) ∷ []

abbrev pub Told : Session → Result (Vec Answer Global) AllocError → Type 0
Told s (Ok v) = vec_items v ≡ told s
Told s (Err e) = Unit {0}

-- the start, or the script, is set; all else stays
abbrev pub with_start : Session → ℕ → Session
with_start s n = record { dialect = s.dialect; literals = s.literals; rules = s.rules; start = n; script = s.script }

pub record ScriptSet (was now : Session) (bytes : List ℕ) : Type 0 where
  pub dialect : now.dialect ≡ was.dialect
  pub literals : now.literals ≡ was.literals
  pub rules : now.rules ≡ was.rules
  pub start : now.start ≡ was.start
  pub script : script_in now ≡ bytes

-- the line with the number n, which asks for this, leads from one session to the other with these answers
abbrev pub Step : Session → Session → ℕ → Option request.Asks → List Answer → Type 0
Step was now n None answers = (now ≡ was) × (answers ≡ answer.Error n NotUnderstood ∷ [])
Step was now n (Some request.blank) answers = (now ≡ was) × (answers ≡ [])
Step was now n (Some (request.literal row)) answers = Collected was now (row ∷ []) [] × (answers ≡ [])
Step was now n (Some (request.rule row)) answers = Collected was now [] (row ∷ []) × (answers ≡ [])
Step was now n (Some (request.start symbol)) answers = (now ≡ with_start was symbol) × (answers ≡ [])
Step was now n (Some request.load) answers = (a : Answer) × Loads was now a × (answers ≡ a ∷ [])
Step was now n (Some (request.script bytes)) answers = ScriptSet was now bytes × (answers ≡ [])
Step was now n (Some request.tokens) answers = (now ≡ was) × (answers ≡ told was)

-- the answers of a line, unless there is no memory for them
abbrev pub Responds : Session → Session → ℕ → Option request.Asks → Result (Vec Answer Global) AllocError → Type 0
Responds was now n asks (Ok v) = Step was now n asks (vec_items v)
Responds was now n asks (Err e) = Unit {0}

-- where there is no memory for a row, nothing is collected
abbrev pub Lacks : Session → Session → request.Asks → Type 0
Lacks was now (request.literal row) = Collected was now [] []
Lacks was now (request.rule row) = Collected was now [] []
Lacks was now asks = Unit {0}

-- the same of a request that was read; the line's number plays no part then
abbrev pub Runs : Session → Session → request.Asks → Result (Vec Answer Global) AllocError → Type 0
Runs was now asks (Ok v) = (n : ℕ) → Step was now n (Some asks) (vec_items v)
Runs was now asks (Err e) = Lacks was now asks

abbrev pub Cuts : List Token → Result (Vec Answer Global) AllocError → Type 0
Cuts ts r = IfOk r (λ v. (vec_items v ≡ map answer.Cut ts) × (vec_len v < vec_capacity v))
