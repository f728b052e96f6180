use Rattle.ct_int.proofs.WideProducts.{product-halves}
use Rattle.ct_int.proofs.wide.Wide.product.Goals as goal

pub returns : goal.returns
returns c = product-halves c.args.a c.args.b
