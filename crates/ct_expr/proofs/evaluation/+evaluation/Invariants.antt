use Rattle.ct_expr.proofs.Base.{◌≡◌, drop, IsTrue, actions_of}
use Rattle.ct_expr.specs.Value.{sum_of_values, sum_from, signed, product_of_values, product_from, fractions, all_evaluable, all_evaluable_terms}
use Rattle.ct_expr.proofs.evaluation.+evaluation.Given as goal

abbrev pub invariant-sum-loop-term : goal.invariant-sum-loop-term
invariant-sum-loop-term l = record {
  so_far : sum_of_values (actions_of l.algebra) (signed (actions_of l.algebra) l.terms) ≡ sum_from (actions_of l.algebra) l.so_far
      (signed (actions_of l.algebra) (drop l.term-index l.terms));
  evaluable : IsTrue (all_evaluable_terms (drop l.term-index l.terms));
}

abbrev pub invariant-product-loop-factor : goal.invariant-product-loop-factor
invariant-product-loop-factor l = record {
  so_far : product_of_values (actions_of l.algebra) (fractions (actions_of l.algebra) l.factors) ≡
      product_from (actions_of l.algebra) l.so_far (fractions (actions_of l.algebra) (drop l.factor-index l.factors));
  evaluable : IsTrue (all_evaluable (drop l.factor-index l.factors));
}
