use Rattle.ct_frac.proofs.Base.{◌≡◌, Ok, ◌*◌, rules, checked_whole}
use Rattle.ct_frac.specs.Arithmetic.{checked_joined_all}
use Rattle.ct_frac.proofs.SumLaws.{product_den}
use Rattle.ct_frac.proofs.sum.full_product.Goals as goal

pub invariant_of-den : goal.invariant_of-den
invariant_of-den c =
    let wholes : checked_whole (c.args.x.now.den.whole * c.args.y.now.den.whole) ≡ Ok c.in_ok-whole.whole = search rules in
    let joined : checked_joined_all c.args.x.now.den.factors c.args.y.now.den.factors ≡ Ok c.in_ok-factors.factors.items = search rules in
    (product_den c.args.x.now.den c.args.y.now.den c.in_ok-whole.whole c.in_ok-factors.factors.items c.in_written_form.ensures.den
    c.in_written_form-2.ensures.den wholes joined).den
