use Rattle.ct_frac.proofs.Base.{◌≡◌, Ok, sym, ◌∙◌, ap, ap₂, subst, checked_whole, least_common}
use Rattle.ct_frac.specs.Arithmetic.{all_greatest}
use Rattle.ct_frac.specs.Written.{IsDenominator}
use Rattle.ct_frac.proofs.CommonDenominators.{wider_is}
use Rattle.ct_frac.proofs.common.wider.Goals as goal

pub invariant_of-result : goal.invariant_of-result
invariant_of-result c =
    let wholes : checked_whole (least_common c.args.d.whole c.args.e.now.whole) ≡ Ok c.in_ok-whole.whole =
    ap₂ (λ a b. checked_whole (least_common a b)) (sym c.whole.ensures) (sym c.whole-2.ensures) ∙ c.in_ok-whole.ensures in
    let factors : c.in_ok-factors.factors.items ≡ all_greatest c.args.d.factors c.args.e.now.factors =
    c.in_ok-factors.ensures ∙ ap₂ all_greatest (ap (λ d. d.factors) c.d.view_is) c.factors.ensures in
    subst (λ fs. IsDenominator (record { whole = c.in_ok-whole.whole; factors = fs })) (sym factors)
    (wider_is c.args.d c.args.e.now c.in_ok-whole.whole wholes c.in_written_form.ensures c.in_written_form-2.ensures).den
