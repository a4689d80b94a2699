use Rattle.std.proofs.Common.{◌∙◌}
use Rattle.std.proofs.lemmas.Bool.Decides.{Decides-at}
use Rattle.grammar.specs.Nulling.{nullable}
use Rattle.grammar.proofs.Nulling.{nullable_decides}
use Rattle.dialect.specs.Views.{grammar_of}
use Rattle.dialect.proofs.dialect.Dialect.is_nullable.Goals as goal

pub returns : goal.returns
returns c =
    let g = grammar_of c.args.self.now in
    Decides-at c.contains.result (nullable g c.args.symbol) (c.contains.ensures ∙ c.args.self.now.nulls c.args.symbol) (nullable_decides g c.args.symbol)
