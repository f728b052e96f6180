use Rattle.ct_ore.proofs.Base.{◌<◌, ◌∙◌, rules, arith, ap, sym, subst, subst₂, length, entries, entries-append}
use Rattle.ct_ore.specs.PairTerms.{multiplied_by}
use Rattle.ct_ore.specs.Bounds.{CanScale}
use Rattle.ct_ore.specs.Lists.{CanMerge, IsMerged}
use Rattle.ct_ore.proofs.Multiples.{scale_left, merge_left, sum_of_row, sum_of_left_halves}
use Rattle.ct_ore.proofs.SortedSums.{no_length, only_one, sum_of_none}
use Rattle.ct_ore.proofs.scaling.+left_by_halves.Goals as goal

pub returns-then-is_empty : goal.returns-then-is_empty
returns-then-is_empty t c =
    sum_of_none (ap (λ us. multiplied_by (entries us) c.args.ts.now) (no_length c.args.us.now (search rules))) (search rules)

pub row_of_left-requires : goal.row_of_left-requires
row_of_left-requires t c =
    subst (λ us. CanScale (entries us) c.args.ts.now) (only_one c.args.us.now c.index-us-0.result (search rules) c.index-us-0.is) c.requires

pub returns-then-us-eq1 : goal.returns-then-us-eq1
returns-then-us-eq1 t c =
    sum_of_row (c.index-us-0.result.mono, c.index-us-0.result.coef)
    (ap entries (only_one c.args.us.now c.index-us-0.result (search rules) c.index-us-0.is)) c.requires c.in_ok-row.ensures

pub left_by_halves-requires : goal.left_by_halves-requires
left_by_halves-requires t c =
    let some : 0 < length c.args.us.now = search rules in (
      omega (arith, c.decreases, c.split_at.ensures.front_len, c.if-us-eq1.false),
      (scale_left (entries c.split_at.result.0.now) (entries c.split_at.result.1.now)
          (ap entries c.split_at.ensures.by_index.0 ∙ entries-append c.split_at.result.0.now c.split_at.result.1.now) c.requires).0,
    )

pub left_by_halves-requires-2 : goal.left_by_halves-requires-2
left_by_halves-requires-2 t c =
    let some : 0 < length c.args.us.now = search rules in (
      omega (arith, c.decreases, c.split_at.ensures.back_len, c.if-us-eq1.false),
      (scale_left (entries c.split_at.result.0.now) (entries c.split_at.result.1.now)
          (ap entries c.split_at.ensures.by_index.0 ∙ entries-append c.split_at.result.0.now c.split_at.result.1.now) c.requires).1,
    )

pub merge-requires : goal.merge-requires
merge-requires t c =
    subst₂ CanMerge (sym c.as_slice.ensures.value) (sym c.as_slice-2.ensures.value)
    (merge_left (entries c.split_at.result.0.now) (entries c.split_at.result.1.now) (ap entries c.split_at.ensures.by_index.0
    ∙ entries-append c.split_at.result.0.now c.split_at.result.1.now) c.requires c.in_ok-left.ensures c.in_ok-right.ensures)

pub returns : goal.returns
returns t c =
    sum_of_left_halves c.args.ts.now (entries c.split_at.result.0.now) (entries c.split_at.result.1.now)
    (ap entries c.split_at.ensures.by_index.0 ∙ entries-append c.split_at.result.0.now c.split_at.result.1.now) c.in_ok-left.ensures
    c.in_ok-right.ensures
    (subst₂ (λ u v. IsMerged u v c.in_ok-both.both.items) c.as_slice.ensures.value c.as_slice-2.ensures.value c.in_ok-both.ensures)
