use Rattle.ct_pool.proofs.Base.{◌-◌}
use Rattle.ct_pool.proofs.schedules.+explore.Given as goal

abbrev pub decreases-explore : goal.decreases-explore
decreases-explore l = 12 - l.len
