use Rattle.prefixes.proofs.Prefixed.{prefixed}
use Rattle.prefixes.proofs.Computed.{walk_spec}
use Rattle.prefixes.proofs.Nests.{nested_walk}
use Rattle.prefixes.proofs.Climbing.{walk_fresh}
use Rattle.prefixes.proofs.Leaving.{leaves, whole_spec}
use Rattle.prefixes.proofs.laws.prefixes_stand.Goals as goal

pub returns : goal.returns
returns c = record {
  readings = prefixed;
  walked = leaves;
  stack = record { computed = walk_spec; nested = λ g ts P x us w. nested_walk w; new = λ g ts P x us w. walk_fresh w };
  whole = whole_spec;
}
