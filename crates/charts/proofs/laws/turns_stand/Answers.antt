use Rattle.charts.proofs.Turns.{agenda_turn, first_spec, fed_spec}
use Rattle.charts.proofs.laws.turns_stand.Goals as goal

pub returns : goal.returns
returns c = record { turn = λ g us e R N M k z h a u. agenda_turn h a u; first = first_spec; fed = λ g ts t R N e f. fed_spec e f }
