use Rattle.ct_expr.proofs.PolynomialValues as values
use Rattle.ct_expr.proofs.laws.polynomials_lose_nothing.Goals as goal

pub returns : goal.returns
returns c = values.polynomials_lose_nothing
