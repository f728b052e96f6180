use Rattle.ct_ore.proofs.Base.{arith, sym, ap, subst, subst₂, nat_abs, sum_by-append}
use Rattle.ct_ore.specs.declared.coefficient_term.CoefficientTerm.{CoefficientTerm}
use Rattle.ct_ore.specs.CoefficientTerms.{size_of}
use Rattle.ct_ore.specs.PairMeasures.{HasNumbers}
use Rattle.ct_ore.specs.Lists.{CanMerge, IsMerged}
use Rattle.ct_ore.proofs.SortedSums.{numbers-append, front_whole, sorted_itself, halves_small, sorted_of_both}
use Rattle.ct_ore.proofs.sum.+sorted.Goals as goal

pub returns-then-written_front-ts : goal.returns-then-written_front-ts
returns-then-written_front-ts t c = sorted_itself (front_whole c.written_front.ensures c.if-written_front-ts.true) c.in_ok-copy.ensures.items

pub middle-requires : goal.middle-requires
middle-requires t c =
    record {
      numbers = c.requires.numbers;
      some = omega (arith, c.written_front.ensures.within, c.written_front.ensures.some, c.if-written_front-ts.false);
    }

pub sorted-requires : goal.sorted-requires
sorted-requires t c = (
  omega (arith, c.decreases, c.split_at.ensures.front_len, c.middle.ensures.high),
  (
    (numbers-append c.split_at.result.0.now c.split_at.result.1.now (subst HasNumbers c.split_at.ensures.by_index.0 c.requires.numbers)).0,
    omega (
      arith,
      c.requires.small,
      ap size_of c.split_at.ensures.by_index.0,
      sum_by-append (λ (u : CoefficientTerm). nat_abs u.number) c.split_at.result.0.now c.split_at.result.1.now,
    ),
  ),
)

pub sorted-requires-2 : goal.sorted-requires-2
sorted-requires-2 t c = (
  omega (arith, c.decreases, c.split_at.ensures.back_len, c.middle.ensures.low),
  (
    (numbers-append c.split_at.result.0.now c.split_at.result.1.now (subst HasNumbers c.split_at.ensures.by_index.0 c.requires.numbers)).1,
    omega (
      arith,
      c.requires.small,
      ap size_of c.split_at.ensures.by_index.0,
      sum_by-append (λ (u : CoefficientTerm). nat_abs u.number) c.split_at.result.0.now c.split_at.result.1.now,
    ),
  ),
)

pub merge-requires : goal.merge-requires
merge-requires t c =
    subst₂ CanMerge (sym c.as_slice.ensures.value) (sym c.as_slice-2.ensures.value)
    (halves_small c.args.ts.now c.split_at.result.0.now c.split_at.result.1.now c.in_ok-left.left.items c.in_ok-right.right.items
    c.split_at.ensures.by_index.0 c.requires.small c.in_ok-left.ensures.sum c.in_ok-right.ensures.sum)

pub returns : goal.returns
returns t c =
    sorted_of_both c.split_at.ensures.by_index.0 c.in_ok-left.ensures c.in_ok-right.ensures
    (subst₂ (λ u v. IsMerged u v c.in_ok-both.both.items) c.as_slice.ensures.value c.as_slice-2.ensures.value c.in_ok-both.ensures)
