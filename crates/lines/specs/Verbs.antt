-- The commands of the line format, by their first word.
use Rattle.std.specs.Prelude.{ℕ, cond, List, Some, None, codes, Option}
use Rattle.std.specs.Str.{bytes_eq}
use Rattle.lines.specs.declared.verb.Verb.{Verb}
use Rattle.lines.specs.declared.verb.Verb.TheVariants.{Literal, Rule, Start, Load, Script, Tokens}

abbrev pub verb_at : List ℕ → Option Verb
verb_at w =
    cond (bytes_eq w (codes "literal")) (Some Literal)
    (cond (bytes_eq w (codes "rule")) (Some Rule)
    (cond (bytes_eq w (codes "start")) (Some Start)
    (cond (bytes_eq w (codes "load")) (Some Load)
    (cond (bytes_eq w (codes "script")) (Some Script)
    (cond (bytes_eq w (codes "tokens")) (Some Tokens) None)))))
