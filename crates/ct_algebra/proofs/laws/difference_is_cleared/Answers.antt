use Rattle.ct_algebra.proofs.CertificateLawProofs.{difference_cleared}
use Rattle.ct_algebra.proofs.laws.difference_is_cleared.Goals as goal

pub returns : goal.returns
returns g c = difference_cleared
