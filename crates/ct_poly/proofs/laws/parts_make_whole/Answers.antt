use Rattle.ct_poly.proofs.PrimitiveParts.{part_whole, form_whole}
use Rattle.ct_poly.proofs.laws.parts_make_whole.Goals as goal

pub returns : goal.returns
returns c = λ p. (part_whole p, form_whole p)
