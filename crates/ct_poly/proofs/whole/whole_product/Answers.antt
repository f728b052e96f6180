use Rattle.ct_poly.proofs.Base.{◌≡◌, ◌≤◌, ◌*◌, Ok, ◌∙◌, ap, arith, largest_norm}
use Rattle.ct_poly.proofs.WholeLimits.{whole_fits, whole_passes}
use Rattle.ct_poly.proofs.whole.whole_product.Goals as goal

pub returns-then-product-gt-LARGEST_NORM : goal.returns-then-product-gt-LARGEST_NORM
returns-then-product-gt-LARGEST_NORM c =
    whole_passes (c.args.a * c.args.b) (grind (arith, c.saturating_mul-product.ensures, c.if-product-gt-LARGEST_NORM.true))

pub returns-else-product-gt-LARGEST_NORM : goal.returns-else-product-gt-LARGEST_NORM
returns-else-product-gt-LARGEST_NORM c =
    let same : c.args.a * c.args.b ≡ c.saturating_mul-product.result =
    grind (arith, c.saturating_mul-product.ensures, c.if-product-gt-LARGEST_NORM.false) in
    let low : c.args.a * c.args.b ≤ largest_norm = grind (arith, c.saturating_mul-product.ensures, c.if-product-gt-LARGEST_NORM.false) in
    whole_fits (c.args.a * c.args.b) low ∙ ap Ok same
