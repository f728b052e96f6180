use Rattle.ct_module.proofs.Base.{◌≡◌, sym, subst, rules}
use Rattle.ct_frac.specs.Written.{IsWritten}
use Rattle.ct_module.proofs.copies.copy_of.Goals as goal

pub invariant_of-result : goal.invariant_of-result
invariant_of-result c =
    let made : record { numerator = c.in_ok-numerator.numerator; den = c.in_ok-den.den } ≡ c.args.f.now = search rules in
    subst IsWritten (sym made) c.in_written_form.ensures
