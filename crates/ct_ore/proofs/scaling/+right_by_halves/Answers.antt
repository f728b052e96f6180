use Rattle.ct_ore.proofs.Base.{◌<◌, ◌∙◌, rules, arith, ap, sym, subst, subst₂, length, entries}
use Rattle.ct_ore.specs.PairTerms.{multiplied_by}
use Rattle.ct_ore.specs.Bounds.{CanScale}
use Rattle.ct_ore.specs.Lists.{CanMerge, IsMerged}
use Rattle.ct_ore.proofs.Multiples.{scale_right, merge_right, sum_of_column, sum_of_right_halves, multiplied_by-none}
use Rattle.ct_ore.proofs.SortedSums.{no_length, only_one, sum_of_none}
use Rattle.ct_ore.proofs.scaling.+right_by_halves.Goals as goal

pub returns-then-is_empty : goal.returns-then-is_empty
returns-then-is_empty t c =
    sum_of_none (ap (multiplied_by (entries c.args.us.now)) (no_length c.args.ts.now (search rules)) ∙ multiplied_by-none (entries c.args.us.now))
    (search rules)

pub row_of_right-requires : goal.row_of_right-requires
row_of_right-requires t c =
    subst (CanScale (entries c.args.us.now)) (only_one c.args.ts.now c.index-ts-0.result (search rules) c.index-ts-0.is) c.requires

pub returns-then-ts-eq1 : goal.returns-then-ts-eq1
returns-then-ts-eq1 t c =
    sum_of_column c.index-ts-0.result (only_one c.args.ts.now c.index-ts-0.result (search rules) c.index-ts-0.is) c.requires c.in_ok-row.ensures

pub right_by_halves-requires : goal.right_by_halves-requires
right_by_halves-requires t c =
    let some : 0 < length c.args.ts.now = search rules in (
      omega (arith, c.decreases, c.split_at.ensures.front_len, c.if-ts-eq1.false),
      (scale_right c.split_at.result.0.now c.split_at.result.1.now c.split_at.ensures.by_index.0 c.requires).0,
    )

pub right_by_halves-requires-2 : goal.right_by_halves-requires-2
right_by_halves-requires-2 t c =
    let some : 0 < length c.args.ts.now = search rules in (
      omega (arith, c.decreases, c.split_at.ensures.back_len, c.if-ts-eq1.false),
      (scale_right c.split_at.result.0.now c.split_at.result.1.now c.split_at.ensures.by_index.0 c.requires).1,
    )

pub merge-requires : goal.merge-requires
merge-requires t c =
    subst₂ CanMerge (sym c.as_slice.ensures.value) (sym c.as_slice-2.ensures.value)
    (merge_right (entries c.args.us.now) c.split_at.result.0.now c.split_at.result.1.now c.split_at.ensures.by_index.0 c.requires c.in_ok-left.ensures
    c.in_ok-right.ensures)

pub returns : goal.returns
returns t c =
    sum_of_right_halves (entries c.args.us.now) c.split_at.result.0.now c.split_at.result.1.now c.split_at.ensures.by_index.0 c.in_ok-left.ensures
    c.in_ok-right.ensures
    (subst₂ (λ u v. IsMerged u v c.in_ok-both.both.items) c.as_slice.ensures.value c.as_slice-2.ensures.value c.in_ok-both.ensures)
