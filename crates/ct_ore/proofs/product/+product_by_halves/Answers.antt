use Rattle.ct_ore.proofs.Base.{◌<◌, ◌∙◌, rules, arith, ap, sym, subst, subst₂, length}
use Rattle.ct_ore.specs.Naming.{actions_of}
use Rattle.ct_ore.specs.Terms.{op_entries}
use Rattle.ct_ore.specs.PairTerms.{product_terms}
use Rattle.ct_ore.specs.Bounds.{CanMultiply}
use Rattle.ct_ore.specs.Lists.{CanMerge, IsMerged, IsSum}
use Rattle.ct_ore.proofs.Expansion.{product_parts}
use Rattle.ct_ore.proofs.ProductBounds.{can_multiply_parts}
use Rattle.ct_ore.proofs.SortedSums.{no_length, only_one, sum_of_none, halves_small, sum_of_both}
use Rattle.ct_ore.proofs.WrittenOperators.{op_entries-append}
use Rattle.ct_ore.proofs.product.+product_by_halves.Goals as goal

pub returns-then-is_empty : goal.returns-then-is_empty
returns-then-is_empty t c =
    sum_of_none (ap (λ es. product_terms (actions_of c.args.algebra.now) (op_entries es) c.args.ts.now) (no_length c.args.es.now (search rules)))
    (search rules)

pub product_of_term-requires : goal.product_of_term-requires
product_of_term-requires t c =
    subst (λ es. CanMultiply (actions_of c.args.algebra.now) (op_entries es) c.args.ts.now)
    (only_one c.args.es.now c.index-es-0.result (search rules) c.index-es-0.is) c.requires

pub returns-then-es-eq1 : goal.returns-then-es-eq1
returns-then-es-eq1 t c =
    subst (λ es. IsSum (product_terms (actions_of c.args.algebra.now) (op_entries es) c.args.ts.now) c.in_ok-product.product.items)
    (sym (only_one c.args.es.now c.index-es-0.result (search rules) c.index-es-0.is)) c.in_ok-product.ensures

pub product_by_halves-requires : goal.product_by_halves-requires
product_by_halves-requires t c =
    let some : 0 < length c.args.es.now = search rules in (
      omega (arith, c.decreases, c.split_at.ensures.front_len, c.if-es-eq1.false),
      (can_multiply_parts (op_entries c.split_at.result.0.now) (op_entries c.split_at.result.1.now)
          (ap op_entries c.split_at.ensures.by_index.0 ∙ op_entries-append c.split_at.result.0.now c.split_at.result.1.now) c.requires).0,
    )

pub product_by_halves-requires-2 : goal.product_by_halves-requires-2
product_by_halves-requires-2 t c =
    let some : 0 < length c.args.es.now = search rules in (
      omega (arith, c.decreases, c.split_at.ensures.back_len, c.if-es-eq1.false),
      (can_multiply_parts (op_entries c.split_at.result.0.now) (op_entries c.split_at.result.1.now)
          (ap op_entries c.split_at.ensures.by_index.0 ∙ op_entries-append c.split_at.result.0.now c.split_at.result.1.now) c.requires).1,
    )

pub merge-requires : goal.merge-requires
merge-requires t c =
    let parts = product_parts (actions_of c.args.algebra.now) c.args.ts.now (op_entries c.split_at.result.0.now) (op_entries c.split_at.result.1.now)
    (ap op_entries c.split_at.ensures.by_index.0 ∙ op_entries-append c.split_at.result.0.now c.split_at.result.1.now) in
    subst₂ CanMerge (sym c.as_slice.ensures.value) (sym c.as_slice-2.ensures.value)
    (halves_small _ _ _ c.in_ok-left.left.items c.in_ok-right.right.items parts c.requires.small c.in_ok-left.ensures c.in_ok-right.ensures)

pub returns : goal.returns
returns t c =
    let parts = product_parts (actions_of c.args.algebra.now) c.args.ts.now (op_entries c.split_at.result.0.now) (op_entries c.split_at.result.1.now)
    (ap op_entries c.split_at.ensures.by_index.0 ∙ op_entries-append c.split_at.result.0.now c.split_at.result.1.now) in
    sum_of_both _ _ _ c.in_ok-left.left.items c.in_ok-right.right.items c.in_ok-both.both.items parts c.in_ok-left.ensures c.in_ok-right.ensures
    (subst₂ (λ u v. IsMerged u v c.in_ok-both.both.items) c.as_slice.ensures.value c.as_slice-2.ensures.value c.in_ok-both.ensures)
