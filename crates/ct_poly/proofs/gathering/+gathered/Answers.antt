use Rattle.ct_poly.proofs.Base.{◌+◌, length, subst₂, IfOk-weaker, plus}
use Rattle.ct_poly.specs.Terms.{IsListOf, poly_of_terms, size_of}
use Rattle.ct_poly.proofs.GatheredTerms.{gathered_none, gathered_halves}
use Rattle.ct_poly.proofs.gathering.+gathered.Goals as goal

pub returns-then-ts-le1 : goal.returns-then-ts-le1
returns-then-ts-le1 t c =
    gathered_none c.args.ts.now c.if-ts-le1.true (c.is_falling.ensures.single c.if-is_falling.false c.if-ts-le1.true) c.new.ensures.items

pub returns : goal.returns
returns t c =
    IfOk-weaker c.sum_of_terms.result _ _
    (λ v sum. gathered_halves c.args.ts.now c.split_at.result.0.now c.split_at.result.1.now c.split_at.ensures.by_index.0 c.in_ok-left.ensures
    c.in_ok-right.ensures
    (subst₂ (λ x y. IsListOf (plus (poly_of_terms x) (poly_of_terms y)) (length x + length y) (size_of x + size_of y) v.items)
    c.as_slice.ensures.value c.as_slice-2.ensures.value sum))
    c.sum_of_terms.ensures
