use Rattle.ct_algebra.proofs.CertificateLawProofs.{operator_difference_cleared}
use Rattle.ct_algebra.proofs.laws.operator_difference_is_cleared.Goals as goal

pub returns : goal.returns
returns c = operator_difference_cleared
