use Rattle.ct_ore.proofs.Base.{◌≡◌, ◌≢◌, ◌*◌, ◌+◌, ◌≤◌, ltb, true, false, sym, ◌∙◌, ap, arith, length, eqb-true, lt-ltb, largest_degree, most_terms}
use Rattle.ct_ore.proofs.Base.{largest_norm}
use Rattle.ct_ore.specs.Naming.{actions_of}
use Rattle.ct_ore.specs.Terms.{op_entries}
use Rattle.ct_ore.specs.CoefficientTerms.{all_terms}
use Rattle.ct_ore.specs.Measures.{coefficient_degree, order_of}
use Rattle.ct_ore.specs.PairMeasures.{measure_of_pairs}
use Rattle.ct_ore.proofs.PairMeasureLaws.{none_of_zero, by_degree, by_order, by_count, by_norm, length_is, coefficient_degree_is, order_is, count_is}
use Rattle.ct_ore.proofs.PairMeasureLaws.{norm_is, pairs_count, nonzero_product, told_nonzero}
use Rattle.ct_ore.proofs.measures.product_overflow.Goals as goal

pub returns-then-is_empty : goal.returns-then-is_empty
returns-then-is_empty c = λ p q ep eq mq.
    let none : length p.terms ≡ 0 = sym (length_is p c.args.ps.now ep)
    ∙ eqb-true (length c.args.ps.now) 0 (sym c.is_empty.ensures ∙ c.if-is_empty.true) in
    none_of_zero (actions_of c.args.algebra.now) p q (ap (λ n. n * length q.terms) none ∙ omega arith)

pub returns-then-is_empty-2 : goal.returns-then-is_empty-2
returns-then-is_empty-2 c = λ p q ep eq mq.
    let none : length q.terms ≡ 0 = sym (length_is q c.args.qs.now eq)
    ∙ eqb-true (length c.args.qs.now) 0 (sym c.is_empty-2.ensures ∙ c.if-is_empty-2.true) in
    none_of_zero (actions_of c.args.algebra.now) p q (ap (λ n. length p.terms * n) none ∙ omega arith)

pub returns-then-degree_of-gt-LARGEST_DEGREE : goal.returns-then-degree_of-gt-LARGEST_DEGREE
returns-then-degree_of-gt-LARGEST_DEGREE c = λ p q ep eq mq.
    let some : length p.terms * length q.terms ≢ 0 =
    nonzero_product _ _ (λ e. told_nonzero (length c.args.ps.now) c.is_empty.result c.is_empty.ensures c.if-is_empty.false
    (length_is p c.args.ps.now ep ∙ e))
    (λ e. told_nonzero (length c.args.qs.now) c.is_empty-2.result c.is_empty-2.ensures c.if-is_empty-2.false
    (length_is q c.args.qs.now eq ∙ e)) in
    by_degree (actions_of c.args.algebra.now) p q some
    (omega (
      arith,
      c.if-degree_of-gt-LARGEST_DEGREE.true,
      c.degree_of.ensures.value ∙ coefficient_degree_is p c.args.ps.now ep,
      c.degree_of-2.ensures.value ∙ coefficient_degree_is q c.args.qs.now eq,
    ))

pub returns-then-order_of-gt-LARGEST_DEGREE : goal.returns-then-order_of-gt-LARGEST_DEGREE
returns-then-order_of-gt-LARGEST_DEGREE c = λ p q ep eq mq.
    let some : length p.terms * length q.terms ≢ 0 =
    nonzero_product _ _ (λ e. told_nonzero (length c.args.ps.now) c.is_empty.result c.is_empty.ensures c.if-is_empty.false
    (length_is p c.args.ps.now ep ∙ e))
    (λ e. told_nonzero (length c.args.qs.now) c.is_empty-2.result c.is_empty-2.ensures c.if-is_empty-2.false
    (length_is q c.args.qs.now eq ∙ e)) in
    let low : coefficient_degree p + coefficient_degree q ≤ largest_degree =
    omega (
      arith,
      c.if-degree_of-gt-LARGEST_DEGREE.false,
      c.degree_of.ensures.value ∙ coefficient_degree_is p c.args.ps.now ep,
      c.degree_of-2.ensures.value ∙ coefficient_degree_is q c.args.qs.now eq,
    ) in
    by_order (actions_of c.args.algebra.now) p q some low
    (omega (
      arith,
      c.if-order_of-gt-LARGEST_DEGREE.true,
      c.order_of.ensures.value ∙ order_is p c.args.ps.now ep,
      c.order_of-2.ensures.value
          ∙ order_is q c.args.qs.now eq,
    ))

pub returns-then-term_count-its-gt-MOST_TERMS : goal.returns-then-term_count-its-gt-MOST_TERMS
returns-then-term_count-its-gt-MOST_TERMS c = λ p q ep eq mq.
    let some : length p.terms * length q.terms ≢ 0 =
    nonzero_product _ _ (λ e. told_nonzero (length c.args.ps.now) c.is_empty.result c.is_empty.ensures c.if-is_empty.false
    (length_is p c.args.ps.now ep ∙ e))
    (λ e. told_nonzero (length c.args.qs.now) c.is_empty-2.result c.is_empty-2.ensures c.if-is_empty-2.false
    (length_is q c.args.qs.now eq ∙ e)) in
    let low : coefficient_degree p + coefficient_degree q ≤ largest_degree =
    omega (
      arith,
      c.if-degree_of-gt-LARGEST_DEGREE.false,
      c.degree_of.ensures.value ∙ coefficient_degree_is p c.args.ps.now ep,
      c.degree_of-2.ensures.value ∙ coefficient_degree_is q c.args.qs.now eq,
    ) in
    let few : order_of p + order_of q ≤ largest_degree =
    omega (
      arith,
      c.if-order_of-gt-LARGEST_DEGREE.false,
      c.order_of.ensures.value ∙ order_is p c.args.ps.now ep,
      c.order_of-2.ensures.value
          ∙ order_is q c.args.qs.now eq,
    ) in
    let pairs : length (all_terms (op_entries c.args.ps.now)) * length c.args.its.now ≤ measure_of_pairs (actions_of c.args.algebra.now) false
    (all_terms (op_entries c.args.ps.now)) c.args.its.now =
    pairs_count (actions_of c.args.algebra.now) (all_terms (op_entries c.args.ps.now)) c.args.its.now in
    by_count (actions_of c.args.algebra.now) p q some low few
    (lt-ltb _ _ (omega (
      arith,
      pairs,
      count_is (actions_of c.args.algebra.now) p q c.args.ps.now c.args.its.now ep mq,
      c.if-term_count-its-gt-MOST_TERMS.true,
      ap (λ n. n * length c.args.its.now) c.term_count.ensures,
    )))

pub returns-then-passes : goal.returns-then-passes
returns-then-passes c = λ p q ep eq mq.
    let some : length p.terms * length q.terms ≢ 0 =
    nonzero_product _ _ (λ e. told_nonzero (length c.args.ps.now) c.is_empty.result c.is_empty.ensures c.if-is_empty.false
    (length_is p c.args.ps.now ep ∙ e))
    (λ e. told_nonzero (length c.args.qs.now) c.is_empty-2.result c.is_empty-2.ensures c.if-is_empty-2.false
    (length_is q c.args.qs.now eq ∙ e)) in
    let low : coefficient_degree p + coefficient_degree q ≤ largest_degree =
    omega (
      arith,
      c.if-degree_of-gt-LARGEST_DEGREE.false,
      c.degree_of.ensures.value ∙ coefficient_degree_is p c.args.ps.now ep,
      c.degree_of-2.ensures.value ∙ coefficient_degree_is q c.args.qs.now eq,
    ) in
    let few : order_of p + order_of q ≤ largest_degree =
    omega (
      arith,
      c.if-order_of-gt-LARGEST_DEGREE.false,
      c.order_of.ensures.value ∙ order_is p c.args.ps.now ep,
      c.order_of-2.ensures.value
          ∙ order_is q c.args.qs.now eq,
    ) in
    by_count (actions_of c.args.algebra.now) p q some low few
    (ap (ltb most_terms) (sym (count_is (actions_of c.args.algebra.now) p q c.args.ps.now c.args.its.now ep mq))
    ∙ sym (c.passes.ensures _ c.measure_of_pairs-count.ensures) ∙ c.if-passes.true)

pub returns-then-passes-2 : goal.returns-then-passes-2
returns-then-passes-2 c = λ p q ep eq mq.
    let some : length p.terms * length q.terms ≢ 0 =
    nonzero_product _ _ (λ e. told_nonzero (length c.args.ps.now) c.is_empty.result c.is_empty.ensures c.if-is_empty.false
    (length_is p c.args.ps.now ep ∙ e))
    (λ e. told_nonzero (length c.args.qs.now) c.is_empty-2.result c.is_empty-2.ensures c.if-is_empty-2.false
    (length_is q c.args.qs.now eq ∙ e)) in
    let low : coefficient_degree p + coefficient_degree q ≤ largest_degree =
    omega (
      arith,
      c.if-degree_of-gt-LARGEST_DEGREE.false,
      c.degree_of.ensures.value ∙ coefficient_degree_is p c.args.ps.now ep,
      c.degree_of-2.ensures.value ∙ coefficient_degree_is q c.args.qs.now eq,
    ) in
    let few : order_of p + order_of q ≤ largest_degree =
    omega (
      arith,
      c.if-order_of-gt-LARGEST_DEGREE.false,
      c.order_of.ensures.value ∙ order_is p c.args.ps.now ep,
      c.order_of-2.ensures.value
          ∙ order_is q c.args.qs.now eq,
    ) in
    by_norm (actions_of c.args.algebra.now) p q some low few
    (ap (ltb most_terms) (sym (count_is (actions_of c.args.algebra.now) p q c.args.ps.now c.args.its.now ep mq))
    ∙ sym (c.passes.ensures _ c.measure_of_pairs-count.ensures) ∙ c.if-passes.false)
    true (ap (ltb largest_norm) (sym (norm_is (actions_of c.args.algebra.now) p q c.args.ps.now c.args.its.now ep mq))
    ∙ sym (c.passes-2.ensures _ c.measure_of_pairs-norm.ensures) ∙ c.if-passes-2.true)

pub returns : goal.returns
returns c = λ p q ep eq mq.
    let some : length p.terms * length q.terms ≢ 0 =
    nonzero_product _ _ (λ e. told_nonzero (length c.args.ps.now) c.is_empty.result c.is_empty.ensures c.if-is_empty.false
    (length_is p c.args.ps.now ep ∙ e))
    (λ e. told_nonzero (length c.args.qs.now) c.is_empty-2.result c.is_empty-2.ensures c.if-is_empty-2.false
    (length_is q c.args.qs.now eq ∙ e)) in
    let low : coefficient_degree p + coefficient_degree q ≤ largest_degree =
    omega (
      arith,
      c.if-degree_of-gt-LARGEST_DEGREE.false,
      c.degree_of.ensures.value ∙ coefficient_degree_is p c.args.ps.now ep,
      c.degree_of-2.ensures.value ∙ coefficient_degree_is q c.args.qs.now eq,
    ) in
    let few : order_of p + order_of q ≤ largest_degree =
    omega (
      arith,
      c.if-order_of-gt-LARGEST_DEGREE.false,
      c.order_of.ensures.value ∙ order_is p c.args.ps.now ep,
      c.order_of-2.ensures.value
          ∙ order_is q c.args.qs.now eq,
    ) in
    by_norm (actions_of c.args.algebra.now) p q some low few
    (ap (ltb most_terms) (sym (count_is (actions_of c.args.algebra.now) p q c.args.ps.now c.args.its.now ep mq))
    ∙ sym (c.passes.ensures _ c.measure_of_pairs-count.ensures) ∙ c.if-passes.false)
    false (ap (ltb largest_norm) (sym (norm_is (actions_of c.args.algebra.now) p q c.args.ps.now c.args.its.now ep mq))
    ∙ sym (c.passes-2.ensures _ c.measure_of_pairs-norm.ensures) ∙ c.if-passes-2.false)
