use Rattle.ct_poly.proofs.Base.{IfOk-weaker}
use Rattle.ct_poly.proofs.Products.{product_turned}
use Rattle.ct_poly.proofs.product.product_of_terms.Goals as goal

pub returns-else-ps-qs : goal.returns-else-ps-qs
returns-else-ps-qs c =
    IfOk-weaker c.product_by_halves-else-ps-qs.result _ _ (λ v l. product_turned c.args.ps.now c.args.qs.now v.items l)
    c.product_by_halves-else-ps-qs.ensures
