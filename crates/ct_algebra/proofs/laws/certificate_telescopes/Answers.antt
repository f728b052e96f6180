use Rattle.ct_algebra.proofs.CertificateLawProofs.{certificate_telescopes}
use Rattle.ct_algebra.proofs.laws.certificate_telescopes.Goals as goal

pub returns : goal.returns
returns g c = certificate_telescopes
