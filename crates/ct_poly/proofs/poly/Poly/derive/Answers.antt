use Rattle.ct_poly.proofs.Base.{arith}
use Rattle.ct_poly.proofs.TermLists.{greatest_total-falling}
use Rattle.ct_poly.proofs.Values.{kept, derivative_refused, derivative_answers}
use Rattle.ct_poly.proofs.poly.Poly.derive.Goals as goal

pub returns-then-derivative_size_of_terms-gt-LARGEST_NORM : goal.returns-then-derivative_size_of_terms-gt-LARGEST_NORM
returns-then-derivative_size_of_terms-gt-LARGEST_NORM c =
    let mine = kept c.as_slice-list.result.now c.self.inside.terms.items c.as_slice-list.ensures.value c.self.invariant c.self.view_is in
    derivative_refused c.args.i c.requires c.as_slice-list.result.now mine (omega (arith, c.derivative_size_of_terms.ensures))

pub derivative_of_terms-requires-clause-low : goal.derivative_of_terms-requires-clause-low
derivative_of_terms-requires-clause-low c =
    let mine = kept c.as_slice-list.result.now c.self.inside.terms.items c.as_slice-list.ensures.value c.self.invariant c.self.view_is in
    omega (arith, greatest_total-falling c.as_slice-list.result.now mine.falling, c.degree_of_terms.ensures.value, c.degree_of_terms.ensures.within)

pub returns : goal.returns
returns c =
    let mine = kept c.as_slice-list.result.now c.self.inside.terms.items c.as_slice-list.ensures.value c.self.invariant c.self.view_is in
    derivative_answers c.args.i c.requires c.as_slice-list.result.now mine c.in_ok-terms.terms.items c.in_ok-terms.ensures
    (omega (arith, c.derivative_size_of_terms.ensures))
