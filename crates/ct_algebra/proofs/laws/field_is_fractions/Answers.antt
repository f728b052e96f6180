use Rattle.ct_algebra.proofs.FieldLawProofs.{fractions}
use Rattle.ct_algebra.proofs.laws.field_is_fractions.Goals as goal

pub returns : goal.returns
returns c = fractions
