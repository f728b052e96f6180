use Rattle.ct_poly.proofs.PrimitiveParts.{part_primitive}
use Rattle.ct_poly.proofs.laws.primitive_part_is_primitive.Goals as goal

pub returns : goal.returns
returns c = part_primitive
