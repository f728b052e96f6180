use Rattle.ct_algebra.proofs.FieldLawProofs.{respect_the_field}
use Rattle.ct_algebra.proofs.laws.symbols_respect_the_field.Goals as goal

pub returns : goal.returns
returns c = respect_the_field
