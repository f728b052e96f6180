use Rattle.ct_algebra.proofs.FieldLawProofs.{ring}
use Rattle.ct_algebra.proofs.laws.field_is_a_ring.Goals as goal

pub returns : goal.returns
returns c = ring
