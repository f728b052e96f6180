use Rattle.ct_ore.proofs.Base.{◌∙◌, ap, sym, subst}
use Rattle.ct_ore.specs.Wholes.{DividesTerms, over_whole}
use Rattle.ct_ore.proofs.OperatorMeasures.{fits_of_terms}
use Rattle.ct_ore.proofs.WholeDivisors.{over_one, over_listed, over_fits}
use Rattle.ct_ore.proofs.WrittenOperators.{value_of_terms}
use Rattle.ct_ore.proofs.op.Op.over_whole.Goals as goal

pub returns-then-divisor-eq1 : goal.returns-then-divisor-eq1
returns-then-divisor-eq1 c = record { value = sym (ap (λ d. over_whole d c.args.self) c.if-divisor-eq1.true ∙ over_one c.args.self) }

pub terms_over_whole-requires-clause-divides : goal.terms_over_whole-requires-clause-divides
terms_over_whole-requires-clause-divides c = subst (DividesTerms c.args.divisor) (sym c.terms.ensures) c.requires.divides

pub of_terms-requires : goal.of_terms-requires
of_terms-requires c =
    let fits = fits_of_terms (over_whole c.args.divisor c.args.self) c.in_ok-terms.terms.items
    (over_listed c.args.divisor c.args.self c.terms.result.now c.in_ok-terms.terms.items c.requires.divides c.terms.ensures
    c.in_ok-terms.ensures) (over_fits c.args.divisor c.args.self c.requires.divides c.within_limits.ensures.few c.within_limits.ensures.small)
    in
    record { falling = fits.0; few = fits.1; small = fits.2 }

pub returns : goal.returns
returns c = record {
  value = c.of_terms.ensures
      ∙ value_of_terms c.in_ok-terms.terms.items
      (over_listed c.args.divisor c.args.self c.terms.result.now c.in_ok-terms.terms.items c.requires.divides c.terms.ensures c.in_ok-terms.ensures);
}
