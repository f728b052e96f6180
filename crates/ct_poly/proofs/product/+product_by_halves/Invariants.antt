use Rattle.ct_poly.proofs.Base.{length}
use Rattle.ct_poly.proofs.product.+product_by_halves.Given as goal

abbrev pub decreases-product_by_halves : goal.decreases-product_by_halves
decreases-product_by_halves l = length l.ps.now
