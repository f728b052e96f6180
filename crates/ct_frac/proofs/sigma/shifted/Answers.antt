use Rattle.ct_frac.proofs.Base.{◌≡◌, [], Ok, sym, subst, rules, name_with, checked_shifted}
use Rattle.ct_frac.specs.Symbols.{checked_shifted_factors}
use Rattle.ct_frac.specs.Written.{IsDenominator, IsWritten}
use Rattle.ct_frac.proofs.ShiftedFactors.{shifted_written}
use Rattle.ct_frac.proofs.sigma.shifted.Goals as goal

pub invariant_of-den : goal.invariant_of-den
invariant_of-den c =
    let made : checked_shifted (name_with c.args.i) 1 c.args.f.now.numerator ≡ Ok c.in_ok-numerator.numerator = search rules in
    let factors : checked_shifted_factors (name_with c.args.i) [] c.args.f.now.den.factors ≡ Ok c.in_ok-factors.factors.items = search rules in
    let whole : c.whole.result ≡ c.args.f.now.den.whole = search rules in
    subst (λ n. IsDenominator (record { whole = n; factors = c.in_ok-factors.factors.items })) (sym whole)
    (shifted_written (name_with c.args.i) c.args.f.now c.in_ok-numerator.numerator c.in_ok-factors.factors.items c.in_written_form.ensures made
    factors).den

pub invariant_of-result : goal.invariant_of-result
invariant_of-result c =
    let made : checked_shifted (name_with c.args.i) 1 c.args.f.now.numerator ≡ Ok c.in_ok-numerator.numerator = search rules in
    let factors : checked_shifted_factors (name_with c.args.i) [] c.args.f.now.den.factors ≡ Ok c.in_ok-factors.factors.items = search rules in
    let whole : c.whole.result ≡ c.args.f.now.den.whole = search rules in
    subst (λ n. IsWritten (record { numerator = c.in_ok-numerator.numerator; den = record { whole = n; factors = c.in_ok-factors.factors.items } }))
    (sym whole)
    (shifted_written (name_with c.args.i) c.args.f.now c.in_ok-numerator.numerator c.in_ok-factors.factors.items c.in_written_form.ensures made
    factors)
