use Rattle.std.proofs.Common.{codes, refl, arith, rules}
use Rattle.std.proofs.lemmas.Slice.Eq.{text_from_reads}
use Rattle.lines.proofs.verb.verb_of.Goals as goal

pub returns-in-literal : goal.returns-in-literal
returns-in-literal c = rw (text_from_reads c.args.word.now (codes "literal") (omega arith) (search rules)) refl

pub returns-in-script : goal.returns-in-script
returns-in-script c = rw (text_from_reads c.args.word.now (codes "script") (omega arith) (search rules)) refl

pub returns-in-tokens : goal.returns-in-tokens
returns-in-tokens c = rw (text_from_reads c.args.word.now (codes "tokens") (omega arith) (search rules)) refl
