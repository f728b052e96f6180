use Rattle.ct_frac.proofs.Base.{◌≡◌, Ok, rules}
use Rattle.ct_frac.specs.Arithmetic.{checked_wider}
use Rattle.ct_frac.proofs.CommonDenominators.{wider_ok}
use Rattle.ct_frac.proofs.tests.cleared_to_both.Goals as goal

pub clear-requires : goal.clear-requires
clear-requires c =
    let wide : checked_wider c.args.x.now.den c.args.y.now.den ≡ Ok c.in_ok-den.den = search rules in
    (wider_ok c.args.x.now.den c.args.y.now.den c.in_ok-den.den wide c.in_written_form.ensures.den c.in_written_form-2.ensures.den).first
