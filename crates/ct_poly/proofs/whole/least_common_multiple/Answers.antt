use Rattle.ct_poly.proofs.Base.{◌*◌, ◌/◌, subst, Answers}
use Rattle.ct_poly.specs.Wholes.{checked_whole}
use Rattle.ct_int.specs.Divisors.{least_common}
use Rattle.ct_int.proofs.CommonDivisors.{divisor_positive, greatest_common_only}
use Rattle.ct_poly.proofs.whole.least_common_multiple.Goals as goal

pub nonzero_div-a : goal.nonzero_div-a
nonzero_div-a c = divisor_positive c.args.a c.args.b c.gcd.result c.requires c.gcd.ensures

pub returns : goal.returns
unfolding least_common
returns c =
    subst (λ g. Answers (checked_whole (c.args.a / g * c.args.b)) c.whole_product.result)
    (greatest_common_only c.args.a c.args.b c.gcd.result c.requires c.gcd.ensures) c.whole_product.ensures
