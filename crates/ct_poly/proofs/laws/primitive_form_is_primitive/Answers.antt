use Rattle.ct_poly.proofs.PrimitiveParts.{form_primitive}
use Rattle.ct_poly.proofs.laws.primitive_form_is_primitive.Goals as goal

pub returns : goal.returns
returns c = form_primitive
