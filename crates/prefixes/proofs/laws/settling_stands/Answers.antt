use Rattle.std.proofs.Common.{refl}
use Rattle.prefixes.proofs.Settling.{settle_completes, settle_opens, settled_open, settled_end, settled_dead}
use Rattle.prefixes.proofs.Nests.{ended, next_rules}
use Rattle.prefixes.proofs.laws.settling_stands.Goals as goal

pub returns : goal.returns
returns c = record {
  settled = record { completes = λ g ts sep x x' us us' s ys. settle_completes ys sep s; opens = λ g ts sep x x' us us' s r y vs. settle_opens r y vs sep s };
  shown = record { held = λ g ts x us q h k. settled_open k q h refl; ended = λ g ts x a f ys k. settled_end k f refl; dead = λ g ts x y us a q f w n ys k. settled_dead k f q refl w n };
  ended = λ g ts sep r P x x' us p w s h d. ended sep w s h d;
  next = λ g ts r s P x x' us us' q sep w m h. next_rules q sep w m h;
}
