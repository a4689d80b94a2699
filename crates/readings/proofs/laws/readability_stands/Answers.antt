use Rattle.readings.proofs.Unique.{unique_tree, prefix_free, not_empty}
use Rattle.readings.proofs.laws.readability_stands.Goals as goal

pub returns : goal.returns
returns c = record { unique = λ g ts a s e e' σ σ' xs xs' us us' k d d' h. unique_tree k us us' d d' h; prefixes = prefix_free; nonempty = not_empty }
