use Rattle.ct_poly.proofs.Base.{◌≡◌, FitsSigned, rules, w128, to_z-of_z}
use Rattle.ct_poly.specs.Content.{divided}
use Rattle.ct_poly.specs.Terms.{entries}
use Rattle.ct_poly.proofs.DividedTerms.{quotients}
use Rattle.ct_poly.proofs.OfTerms.{list_of, divided_kept, poly_is}
use Rattle.ct_poly.proofs.Values.{IsKept}
use Rattle.ct_poly.proofs.poly.Poly.divided.Goals as goal

pub divided_terms-requires-clause-small : goal.divided_terms-requires-clause-small
divided_terms-requires-clause-small c =
    (list_of c.terms.result.now c.terms.ensures c.within_limits.ensures.few c.within_limits.ensures.small).small

its : (c : goal.In_ok-terms) → IsKept (divided c.args.mono.now c.args.divisor c.args.self.now) c.in_ok-terms.terms.items
its c =
    let fits : FitsSigned w128 c.args.divisor = search rules in
    let mine : IsKept c.args.self.now c.terms.result.now =
    list_of c.terms.result.now c.terms.ensures c.within_limits.ensures.few c.within_limits.ensures.small in
    let made : entries c.in_ok-terms.terms.items ≡ quotients c.args.mono.now c.args.divisor (entries c.terms.result.now) =
    simp to_z-of_z at c.in_ok-terms.ensures in
    divided_kept c.args.mono.now c.args.divisor c.terms.result.now c.in_ok-terms.terms.items mine c.terms.ensures c.requires made

pub of_terms-requires-clause-falling : goal.of_terms-requires-clause-falling
of_terms-requires-clause-falling c = (its c).falling

pub of_terms-requires-clause-few : goal.of_terms-requires-clause-few
of_terms-requires-clause-few c = (its c).few

pub of_terms-requires-clause-small : goal.of_terms-requires-clause-small
of_terms-requires-clause-small c = (its c).small

pub returns : goal.returns
returns c =
    let fits : FitsSigned w128 c.args.divisor = search rules in
    let mine : IsKept c.args.self.now c.terms.result.now =
    list_of c.terms.result.now c.terms.ensures c.within_limits.ensures.few c.within_limits.ensures.small in
    let made : entries c.in_ok-terms.terms.items ≡ quotients c.args.mono.now c.args.divisor (entries c.terms.result.now) =
    simp to_z-of_z at c.in_ok-terms.ensures in
    poly_is c.in_ok-terms.terms.items
    (divided_kept c.args.mono.now c.args.divisor c.terms.result.now c.in_ok-terms.terms.items mine c.terms.ensures c.requires made)
    c.of_terms.ensures
