use Rattle.ct_linsolve.proofs.Base.{◌∙◌, ◌+◌, ◌-◌, ◌<◌, sym, ap, subst, arith, rules, range_with_len, AnswersBy, ◌>>=◌, checked_fold}
use Rattle.ct_linsolve.specs.EchelonViews.{working_of}
use Rattle.ct_linsolve.specs.Elimination.{checked_column}
use Rattle.ct_linsolve.proofs.FromZero.{range_opens}
use Rattle.ct_linsolve.proofs.Pivots.{column_keeps}
use Rattle.ct_linsolve.proofs.columns.all_columns.Goals as goal

pub returns-in_err-s : goal.returns-in_err-s
returns-in_err-s c =
    let some : 0 < c.columns.left = search rules in
    subst (λ d. AnswersBy working_of d c.from_residual.result)
    (sym (c.columns.invariant.0 ∙ ap (checked_fold (checked_column c.args.certs) (working_of c.columns.s))
    (range_opens c.columns.column c.columns.left some))) (search rules)

pub columns-preserved : goal.columns-preserved
columns-preserved c =
    let some : 0 < c.columns.left = search rules in (
      c.columns.invariant.0 ∙ ap (checked_fold (checked_column c.args.certs) (working_of c.columns.s))
          (range_opens c.columns.column c.columns.left some)
          ∙ ap (λ r. r >>= (λ t. checked_fold (checked_column c.args.certs) t (range_with_len (c.columns.column + 1)
          (c.columns.left - 1)))) c.in_ok-s.ensures,
      omega (arith, c.columns.invariant.1, some),
      column_keeps c.args.certs c.columns.column (working_of c.columns.s) (working_of c.in_ok-s.s) c.columns.invariant.2 c.in_ok-s.ensures,
    )
