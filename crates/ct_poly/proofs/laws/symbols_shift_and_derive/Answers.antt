use Rattle.ct_poly.proofs.ShiftLaws.{symbols_shift}
use Rattle.ct_poly.proofs.laws.symbols_shift_and_derive.Goals as goal

pub returns : goal.returns
returns c = symbols_shift
