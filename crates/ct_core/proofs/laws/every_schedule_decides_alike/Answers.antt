use Rattle.ct_core.proofs.OneWorker.{decides_alike}
use Rattle.ct_core.proofs.laws.every_schedule_decides_alike.Goals as goal

pub returns : goal.returns
returns c = decides_alike
