use Rattle.ct_frac.proofs.Base.{◌≡◌, Ok, sym, subst, rules, name_with}
use Rattle.ct_frac.specs.Symbols.{checked_raised}
use Rattle.ct_frac.specs.Written.{IsDenominator}
use Rattle.ct_frac.proofs.DerivedFractions.{raised_den}
use Rattle.ct_frac.proofs.delta.derived.Goals as goal

pub invariant_of-den : goal.invariant_of-den
invariant_of-den c =
    let factors : checked_raised (name_with c.args.i) c.args.f.now.den.factors ≡ Ok c.in_ok-factors.factors.items = search rules in
    let whole : c.whole.result ≡ c.args.f.now.den.whole = search rules in
    subst (λ n. IsDenominator (record { whole = n; factors = c.in_ok-factors.factors.items })) (sym whole)
    (raised_den (name_with c.args.i) c.args.f.now.den c.in_ok-factors.factors.items c.in_written_form.ensures.den factors)
