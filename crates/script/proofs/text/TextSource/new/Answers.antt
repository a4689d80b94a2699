use Rattle.std.proofs.Common.{refl, arith}
use Rattle.cutting.specs.Meaning.{meant}
use Rattle.cutting.proofs.Laying.{lays}
use Rattle.cutting.proofs.Shaping.{sounds}
use Rattle.cutting.proofs.Faulting.{faults}
use Rattle.script.specs.Kinds.{class_kind}
use Rattle.script.specs.Tokens.{part_of}
use Rattle.script.proofs.Spellings.{kinds}
use Rattle.script.proofs.text.TextSource.new.Goals as goal

pub returns : goal.returns
returns c =
    let xs = c.args.script.now in
    let m = meant xs 0 in
    record {
      tokens = refl;
      ending = refl;
      lawful = record { laid = lays xs 0 _ _ (omega arith) m; sound = sounds xs 0 _ _ m; ended = faults xs 0 _ _ m };
      kinds = λ s. kinds _ (part_of xs s) (class_kind s.class);
    }
