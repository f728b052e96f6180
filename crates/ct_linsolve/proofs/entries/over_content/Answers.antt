use Rattle.ct_linsolve.proofs.Base.{◌<◌, ◌≤◌, ◌∙◌, sym, ap, map, subst, rules, pos, IfOk-weaker, unit, IsContentOf, divided}
use Rattle.ct_linsolve.specs.Rows.{row_terms}
use Rattle.ct_linsolve.proofs.RowContents.{content_kept, content_divided}
use Rattle.ct_linsolve.proofs.entries.over_content.Goals as goal

pub returns-then-divisor-le1 : goal.returns-then-divisor-le1
returns-then-divisor-le1 c =
    let is : IsContentOf (row_terms c.args.row.items) c.content_of-divisor.result =
    subst (λ r. IsContentOf (row_terms r) c.content_of-divisor.result) c.as_slice.ensures.value c.content_of-divisor.ensures.divisors in
    let small : c.content_of-divisor.result ≤ 1 = search rules in
    sym (content_kept c.args.row.items c.content_of-divisor.result is small)

pub returns : goal.returns
returns c =
    let is : IsContentOf (row_terms c.args.row.items) c.content_of-divisor.result =
    subst (λ r. IsContentOf (row_terms r) c.content_of-divisor.result) c.as_slice.ensures.value c.content_of-divisor.ensures.divisors in
    let large : 1 < c.content_of-divisor.result = search rules in
    IfOk-weaker c.over_number.result _ _
    (λ v value. value ∙ ap (λ s. map (λ x. divided unit (pos c.content_of-divisor.result) x) s) c.as_slice-2.ensures.value
    ∙ sym (content_divided c.args.row.items c.content_of-divisor.result is large))
    c.over_number.ensures
