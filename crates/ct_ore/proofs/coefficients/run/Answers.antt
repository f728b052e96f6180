use Rattle.ct_ore.proofs.Gathering.{run_of}
use Rattle.ct_ore.proofs.coefficients.run.Goals as goal

pub returns : goal.returns
returns c = run_of c.run_length.ensures c.split_at.ensures.front c.in_ok-terms.ensures
