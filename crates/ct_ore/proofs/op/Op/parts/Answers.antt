use Rattle.ct_ore.proofs.Base.{◌≡◌, ◌≤◌, ◌∙◌, ap, sym, subst, arith, most_terms}
use Rattle.ct_ore.specs.Terms.{op_entries}
use Rattle.ct_ore.specs.CoefficientTerms.{all_terms, coefficient_terms}
use Rattle.ct_ore.specs.Measures.{term_count}
use Rattle.ct_ore.specs.Lists.{Fits}
use Rattle.ct_ore.proofs.WrittenOperators.{terms_of}
use Rattle.ct_ore.proofs.OperatorMeasures.{listed_count, fits_of_invariant}
use Rattle.ct_ore.proofs.op.Op.parts.Goals as goal

pub parts_of-requires : goal.parts_of-requires
parts_of-requires c =
    let same = ap op_entries c.as_slice.ensures.value ∙ terms_of c.self.inside.terms.items c.self.invariant.0 c.self.view_is in
    omega (
      arith,
      listed_count c.args.self.now (op_entries c.as_slice.result.now) same,
      subst (λ p. term_count p ≤ most_terms) c.self.view_is c.self.invariant.1,
    )

pub returns : goal.returns
unfolding coefficient_terms
returns c =
    let list : c.in_ok-parts.parts.items ≡ coefficient_terms c.args.self.now =
    c.in_ok-parts.ensures
    ∙ ap all_terms (ap op_entries c.as_slice.ensures.value ∙ terms_of c.self.inside.terms.items c.self.invariant.0 c.self.view_is) in
    record {
      list = list;
      fits = subst Fits (sym list) (fits_of_invariant c.self.inside.terms.items c.self.view_is c.self.invariant.1 c.self.invariant.2);
    }
