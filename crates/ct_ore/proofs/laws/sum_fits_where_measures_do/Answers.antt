use Rattle.ct_ore.proofs.OperatorSums.{has_room, sum_allowed}
use Rattle.ct_ore.proofs.laws.sum_fits_where_measures_do.Goals as goal

pub returns : goal.returns
returns c = λ p q. (λ none. let room = has_room p q none in (room.few, room.small), λ room. sum_allowed p q room.0 room.1)
