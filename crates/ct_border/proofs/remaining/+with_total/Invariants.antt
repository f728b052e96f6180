use Rattle.ct_border.proofs.Base.{◌+◌, length}
use Rattle.ct_border.proofs.remaining.+with_total.Given as goal

abbrev pub decreases-with_total : goal.decreases-with_total
decreases-with_total l = length l.names.now + l.t
