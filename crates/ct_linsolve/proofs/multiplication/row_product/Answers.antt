use Rattle.ct_linsolve.proofs.Base.{◌∙◌, ◌+◌, ◌-◌, ◌<◌, ◌++◌, ◌∷◌, [], sym, ap, subst, arith, rules, range_with_len, AnswersBy, ◌>>=◌, behind}
use Rattle.ct_linsolve.proofs.Base.{each_behind}
use Rattle.ct_linsolve.specs.Products.{checked_entry}
use Rattle.ct_linsolve.specs.Views.{rows_of}
use Rattle.ct_linsolve.proofs.FromZero.{range_opens}
use Rattle.ct_linsolve.proofs.multiplication.row_product.Goals as goal

pub multiplying-init : goal.multiplying-init
multiplying-init c = (
  each_behind (λ _ c'. checked_entry (rows_of c.args.rows.now) c.args.row.now c') c.in_ok-done.done.items (range_with_len 0 c.args.width)
      c.in_ok-done.ensures.items,
  omega arith,
)

pub returns-in_err-entry_product : goal.returns-in_err-entry_product
returns-in_err-entry_product c =
    let some : 0 < c.multiplying.left = search rules in
    subst (λ d. AnswersBy (λ v. v.items) d c.from_residual-in_err-entry_product.result)
    (sym (c.multiplying.invariant.0 ∙ ap (behind (λ _ c'. checked_entry (rows_of c.args.rows.now) c.args.row.now c') c.multiplying.done.items)
    (range_opens c.multiplying.column c.multiplying.left some))) (search rules)

pub multiplying-preserved : goal.multiplying-preserved
multiplying-preserved c =
    let some : 0 < c.multiplying.left = search rules in (
      c.multiplying.invariant.0 ∙ ap (behind (λ _ c'. checked_entry (rows_of c.args.rows.now) c.args.row.now c') c.multiplying.done.items)
          (range_opens c.multiplying.column c.multiplying.left some)
          ∙ ap (λ r. r >>= (λ y. behind (λ _ c'. checked_entry (rows_of c.args.rows.now) c.args.row.now c') (c.multiplying.done.items ++ y ∷ [])
          (range_with_len (c.multiplying.column + 1) (c.multiplying.left - 1)))) c.in_ok-entry_product.ensures
          ∙ ap (λ d. behind (λ _ c'. checked_entry (rows_of c.args.rows.now) c.args.row.now c') d (range_with_len (c.multiplying.column + 1)
          (c.multiplying.left - 1))) (sym c.in_ok-append.ensures),
      omega (arith, c.multiplying.invariant.1, some),
    )
