use Rattle.ct_poly.proofs.Base.{map, name_with, coefficient_in}
use Rattle.ct_poly.proofs.OfTerms.{list_of, poly_is}
use Rattle.ct_poly.proofs.Parts.{part_kept}
use Rattle.ct_poly.proofs.Values.{IsKept}
use Rattle.ct_poly.proofs.poly.Poly.part.Goals as goal

its : (c : goal.In_ok-terms) → IsKept (coefficient_in (map name_with c.args.names.now) c.args.mono.now c.args.self.now) c.in_ok-terms.terms.items
its c =
    part_kept (map name_with c.args.names.now) c.args.mono.now c.terms.result.now c.in_ok-terms.terms.items
    (list_of c.terms.result.now c.terms.ensures c.within_limits.ensures.few c.within_limits.ensures.small) c.terms.ensures c.in_ok-terms.ensures

pub of_terms-requires-clause-falling : goal.of_terms-requires-clause-falling
of_terms-requires-clause-falling c = (its c).falling

pub of_terms-requires-clause-few : goal.of_terms-requires-clause-few
of_terms-requires-clause-few c = (its c).few

pub of_terms-requires-clause-small : goal.of_terms-requires-clause-small
of_terms-requires-clause-small c = (its c).small

pub returns : goal.returns
returns c = record {
  value = poly_is c.in_ok-terms.terms.items
      (part_kept (map name_with c.args.names.now) c.args.mono.now c.terms.result.now c.in_ok-terms.terms.items
      (list_of c.terms.result.now c.terms.ensures c.within_limits.ensures.few c.within_limits.ensures.small) c.terms.ensures c.in_ok-terms.ensures)
      c.of_terms.ensures;
}
