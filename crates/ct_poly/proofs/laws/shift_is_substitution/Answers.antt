use Rattle.ct_poly.proofs.ShiftLaws.{shift_substitutes}
use Rattle.ct_poly.proofs.laws.shift_is_substitution.Goals as goal

pub returns : goal.returns
returns c = shift_substitutes
