use Rattle.ct_module.proofs.Base.{◌≡◌, ◌∙◌, Ok, Some, ap, sym, subst}
use Rattle.std.specs.Option.{option_map}
use Rattle.ct_algebra.specs.Names.{name_with}
use Rattle.ct_algebra.specs.Polynomial.{polys}
use Rattle.ct_module.specs.Columns.{by_den, checked_common_denominator}
use Rattle.ct_module.specs.Denominators.{MeansBy}
use Rattle.ct_module.specs.Fitting.{IsDenOf, DenFits}
use Rattle.ct_module.specs.Modules.{den_of}
use Rattle.ct_module.proofs.calls.denominator.Goals as goal

pub one_over-requires : goal.one_over-requires
one_over-requires c =
    let s = c.args.setting.now in
    let given : den_of s.dens (name_with c.args.name) ≡ Some c.in-Some.p.now = sym c.den.ensures ∙ ap (option_map (λ p. p.now)) c.in-Some.is in
    let fits : IsDenOf s.names (name_with c.args.name) c.in-Some.p.now =
    subst (DenFits s.names (name_with c.args.name)) given (c.fits.ensures.fits.each (name_with c.args.name)) in
    fits.nonzero

pub returns-in_ok-one_over-in-Some-clause-steps : goal.returns-in_ok-one_over-in-Some-clause-steps
returns-in_ok-one_over-in-Some-clause-steps c =
    let s = c.args.setting.now in
    let given : den_of s.dens (name_with c.args.name) ≡ Some c.in-Some.p.now = sym c.den.ensures ∙ ap (option_map (λ p. p.now)) c.in-Some.is in
    ap (λ o. by_den o (checked_common_denominator s c.args.order)) given ∙ ap Ok (sym c.in_ok-one_over-in-Some.ensures.written)

pub returns-in_ok-one_over-in-Some-clause-means : goal.returns-in_ok-one_over-in-Some-clause-means
returns-in_ok-one_over-in-Some-clause-means c =
    let s = c.args.setting.now in
    let given : den_of s.dens (name_with c.args.name) ≡ Some c.in-Some.p.now = sym c.den.ensures ∙ ap (option_map (λ p. p.now)) c.in-Some.is in
    subst (MeansBy s c.args.order c.in_ok-one_over-in-Some.field-0) (sym given) c.in_ok-one_over-in-Some.ensures.product
