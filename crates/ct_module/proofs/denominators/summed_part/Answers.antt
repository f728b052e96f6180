use Rattle.ct_module.proofs.Base.{◌≡◌, ◌∙◌, ap, ap₂, sym, subst, filter}
use Rattle.ct_algebra.specs.Polynomial.{polys}
use Rattle.ct_algebra.specs.Substitution.{one_is}
use Rattle.ct_frac.specs.Written.{IsDenominator, IsWritten}
use Rattle.ct_module.specs.Columns.{has_summed, summed_factors}
use Rattle.ct_module.specs.Denominators.{part_of}
use Rattle.ct_module.proofs.SummedParts.{part_written}
use Rattle.ct_module.proofs.denominators.summed_part.Goals as goal

pub invariant_of-den : goal.invariant_of-den
invariant_of-den c =
    let made : c.in_ok-factors.factors.items ≡ summed_factors c.args.algebra.now c.args.f.now =
    c.in_ok-factors.ensures ∙ ap (filter (λ f. has_summed c.args.algebra.now f.poly)) (c.factors.ensures ∙ ap (λ d. d.factors) c.den.ensures) in
    subst (λ fs. IsDenominator (record { whole = 1; factors = fs })) (sym made) (part_written c.args.algebra.now c.args.f.now c.in_written_form.ensures).den

pub invariant_of-result : goal.invariant_of-result
invariant_of-result c =
    let made : c.in_ok-factors.factors.items ≡ summed_factors c.args.algebra.now c.args.f.now =
    c.in_ok-factors.ensures ∙ ap (filter (λ f. has_summed c.args.algebra.now f.poly)) (c.factors.ensures ∙ ap (λ d. d.factors) c.den.ensures) in
    let whole : c.in_ok-numerator.numerator ≡ polys.one = c.in_ok-numerator.ensures.value ∙ sym one_is in
    subst IsWritten (sym (ap₂ (λ n fs. record { numerator = n; den = record { whole = 1; factors = fs } }) whole made))
    (part_written c.args.algebra.now c.args.f.now c.in_written_form.ensures)

pub returns-clause-value : goal.returns-clause-value
returns-clause-value c =
    let made : c.in_ok-factors.factors.items ≡ summed_factors c.args.algebra.now c.args.f.now =
    c.in_ok-factors.ensures ∙ ap (filter (λ f. has_summed c.args.algebra.now f.poly)) (c.factors.ensures ∙ ap (λ d. d.factors) c.den.ensures) in
    let whole : c.in_ok-numerator.numerator ≡ polys.one = c.in_ok-numerator.ensures.value ∙ sym one_is in
    ap₂ (λ n fs. record { numerator = n; den = record { whole = 1; factors = fs } }) whole made

pub returns-clause-written : goal.returns-clause-written
returns-clause-written c = invariant_of-result c
