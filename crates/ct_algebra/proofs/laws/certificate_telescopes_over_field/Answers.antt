use Rattle.ct_algebra.proofs.CertificateLawProofs.{certificate_telescopes_over_field}
use Rattle.ct_algebra.proofs.laws.certificate_telescopes_over_field.Goals as goal

pub returns : goal.returns
returns c = certificate_telescopes_over_field
