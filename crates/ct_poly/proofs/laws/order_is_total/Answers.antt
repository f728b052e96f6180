use Rattle.ct_poly.specs.Order.{poly_cmp_total, poly_tied}
use Rattle.ct_poly.proofs.laws.order_is_total.Goals as goal

pub returns-clause-total : goal.returns-clause-total
returns-clause-total c = poly_cmp_total

pub returns-clause-tied : goal.returns-clause-tied
returns-clause-tied c = poly_tied
