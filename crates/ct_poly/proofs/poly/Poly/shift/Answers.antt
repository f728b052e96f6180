use Rattle.ct_poly.proofs.Base.{arith}
use Rattle.ct_poly.proofs.TermLists.{greatest_total-falling}
use Rattle.ct_poly.proofs.Values.{kept, shift_by_none_answers, shift_refused_terms, shift_refused_number, shift_answers}
use Rattle.ct_poly.proofs.poly.Poly.shift.Goals as goal

pub returns-then-by-eq0 : goal.returns-then-by-eq0
returns-then-by-eq0 c =
    let mine = kept c.as_slice-list.result.now c.self.inside.terms.items c.as_slice-list.ensures.value c.self.invariant c.self.view_is in
    shift_by_none_answers c.args.i c.requires c.args.by c.if-by-eq0.true c.as_slice-list.result.now mine c.in_ok-copy.field-0
    c.in_ok-copy.ensures.value

pub returns-then-shift_length_of_terms-gt-MOST_TERMS : goal.returns-then-shift_length_of_terms-gt-MOST_TERMS
returns-then-shift_length_of_terms-gt-MOST_TERMS c =
    let mine = kept c.as_slice-list.result.now c.self.inside.terms.items c.as_slice-list.ensures.value c.self.invariant c.self.view_is in
    shift_refused_terms c.args.i c.requires c.args.by c.as_slice-list.result.now mine (omega (arith, c.if-by-eq0.false))
    (omega (arith, c.shift_length_of_terms.ensures))

pub returns-then-shift_size_of_terms-gt-LARGEST_NORM : goal.returns-then-shift_size_of_terms-gt-LARGEST_NORM
returns-then-shift_size_of_terms-gt-LARGEST_NORM c =
    let mine = kept c.as_slice-list.result.now c.self.inside.terms.items c.as_slice-list.ensures.value c.self.invariant c.self.view_is in
    shift_refused_number c.args.i c.requires c.args.by c.as_slice-list.result.now mine (omega (arith, c.if-by-eq0.false))
    (omega (arith, c.shift_length_of_terms.ensures)) (omega (arith, c.shift_size_of_terms.ensures))

pub shifted_terms-requires-clause-low : goal.shifted_terms-requires-clause-low
shifted_terms-requires-clause-low c =
    let mine = kept c.as_slice-list.result.now c.self.inside.terms.items c.as_slice-list.ensures.value c.self.invariant c.self.view_is in
    omega (arith, greatest_total-falling c.as_slice-list.result.now mine.falling, c.degree_of_terms.ensures.value, c.degree_of_terms.ensures.within)

pub returns : goal.returns
returns c =
    let mine = kept c.as_slice-list.result.now c.self.inside.terms.items c.as_slice-list.ensures.value c.self.invariant c.self.view_is in
    shift_answers c.args.i c.requires c.args.by c.as_slice-list.result.now mine c.in_ok-terms.terms.items c.in_ok-terms.ensures
    (omega (arith, c.if-by-eq0.false)) (omega (arith, c.shift_length_of_terms.ensures)) (omega (arith, c.shift_size_of_terms.ensures))
