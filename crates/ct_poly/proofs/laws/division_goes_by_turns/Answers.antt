use Rattle.ct_poly.proofs.Base.{run_is}
use Rattle.ct_poly.specs.Division.{dividing_rank, next_term, checked_step}
use Rattle.ct_poly.proofs.DivisionSteps.{division_falls}
use Rattle.ct_poly.proofs.laws.division_goes_by_turns.Goals as goal

pub returns : goal.returns
returns c = λ f s. run_is dividing_rank (next_term f) (checked_step f) (division_falls f) s
