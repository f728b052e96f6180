use Rattle.ct_core.proofs.OneWorker.{lone_decides}
use Rattle.ct_core.proofs.laws.one_worker_decides.Goals as goal

pub returns : goal.returns
returns c = lone_decides
