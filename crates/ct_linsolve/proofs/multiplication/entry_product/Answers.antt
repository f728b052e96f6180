use Rattle.ct_linsolve.proofs.Base.{◌∙◌, ◌+◌, ◌-◌, ◌<◌, sym, ap, subst, arith, rules, range_with_len, Answers, ◌>>=◌, checked_fold}
use Rattle.ct_linsolve.specs.Products.{with_product}
use Rattle.ct_linsolve.specs.Views.{rows_of}
use Rattle.ct_linsolve.proofs.FromZero.{range_opens}
use Rattle.ct_linsolve.proofs.multiplication.entry_product.Goals as goal

pub returns-in_err-sum : goal.returns-in_err-sum
returns-in_err-sum c =
    let some : 0 < c.summing.left = search rules in
    let f = with_product (rows_of c.args.rows.now) c.args.row.now c.args.column in
    subst (λ d. Answers d c.from_residual.result)
    (sym (c.summing.invariant.0 ∙ ap (checked_fold f c.summing.sum) (range_opens c.summing.k c.summing.left some))) (search rules)

pub summing-preserved : goal.summing-preserved
summing-preserved c =
    let some : 0 < c.summing.left = search rules in
    let f = with_product (rows_of c.args.rows.now) c.args.row.now c.args.column in (
      c.summing.invariant.0 ∙ ap (checked_fold f c.summing.sum) (range_opens c.summing.k c.summing.left some)
          ∙ ap (λ r. r >>= (λ t. checked_fold f t (range_with_len (c.summing.k + 1) (c.summing.left - 1)))) c.in_ok-sum.ensures,
      omega (arith, c.summing.invariant.1, some),
    )
