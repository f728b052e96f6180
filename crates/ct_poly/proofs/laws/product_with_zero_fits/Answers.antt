use Rattle.ct_poly.proofs.Base.{refl, inl, inr, polys}
use Rattle.ct_poly.proofs.OverflowRules.{product_with_zero}
use Rattle.ct_poly.proofs.Values.{no_pairs}
use Rattle.ct_poly.proofs.laws.product_with_zero_fits.Goals as goal

pub returns : goal.returns
returns c = λ p. (
  product_with_zero polys.zero p (no_pairs polys.zero p (inl refl)),
  product_with_zero p polys.zero (no_pairs p polys.zero (inr refl)),
)
