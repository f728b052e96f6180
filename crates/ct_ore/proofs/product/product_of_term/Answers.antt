use Rattle.ct_ore.proofs.Base.{◌≤◌, ◌∙◌, [], sym, subst, subst₂, largest_norm}
use Rattle.ct_ore.specs.Naming.{actions_of}
use Rattle.ct_ore.specs.CoefficientTerms.{IsWritten, size_of}
use Rattle.ct_ore.specs.PairTerms.{expanded, multiplied_by}
use Rattle.ct_ore.specs.PairMeasures.{HasNumbers}
use Rattle.ct_ore.specs.Bounds.{CanScale}
use Rattle.ct_ore.specs.Lists.{IsSum, IsSorted}
use Rattle.ct_ore.proofs.Expansion.{expanded_none, product_of_sorted}
use Rattle.ct_ore.proofs.ProductBounds.{can_expand, can_scale, expanded_numbers, expanded_small}
use Rattle.ct_ore.proofs.SortedSums.{sorted_itself}
use Rattle.ct_ore.proofs.product.product_of_term.Goals as goal

pub multiple-requires : goal.multiple-requires
multiple-requires c =
    let same = expanded_none (actions_of c.args.algebra.now) c.args.e.now.mono (sym c.total.ensures.value ∙ c.if-total-eq0.true) c.args.ts.now in
    subst (λ us. CanScale us c.args.ts.now) (sym c.terms.ensures)
    (can_scale (actions_of c.args.algebra.now) (c.args.e.now.mono, c.args.e.now.coef) [] c.args.ts.now c.requires
    (sorted_itself (subst IsWritten (sym same) c.requires.written) (sym same)))

pub returns-then-total-eq0 : goal.returns-then-total-eq0
returns-then-total-eq0 c =
    let same = expanded_none (actions_of c.args.algebra.now) c.args.e.now.mono (sym c.total.ensures.value ∙ c.if-total-eq0.true) c.args.ts.now in
    product_of_sorted (actions_of c.args.algebra.now) (c.args.e.now.mono, c.args.e.now.coef) c.args.ts.now
    (sorted_itself (subst IsWritten (sym same) c.requires.written) (sym same))
    (subst (λ us. IsSum (multiplied_by us c.args.ts.now) c.in_ok-product.product.items) c.terms.ensures c.in_ok-product.ensures)

pub expanded-requires : goal.expanded-requires
expanded-requires c = can_expand (actions_of c.args.algebra.now) (c.args.e.now.mono, c.args.e.now.coef) [] c.args.ts.now c.requires

pub sorted-requires : goal.sorted-requires
sorted-requires c =
    let same = c.as_slice.ensures.value ∙ c.in_ok-made.ensures in
    record {
      numbers = subst HasNumbers (sym same)
          (expanded_numbers (actions_of c.args.algebra.now) (c.args.e.now.mono, c.args.e.now.coef) [] c.args.ts.now c.requires);
      small = subst (λ us. size_of us ≤ largest_norm) (sym same)
          (expanded_small (actions_of c.args.algebra.now) (c.args.e.now.mono, c.args.e.now.coef) [] c.args.ts.now c.requires);
    }

pub multiple-requires-2 : goal.multiple-requires-2
multiple-requires-2 c =
    let made : IsSorted (expanded (actions_of c.args.algebra.now) c.args.e.now.mono c.args.ts.now) c.as_slice-2.result.now =
    subst₂ IsSorted (c.as_slice.ensures.value ∙ c.in_ok-made.ensures) (sym c.as_slice-2.ensures.value) c.in_ok-falling.ensures in
    subst (λ us. CanScale us c.as_slice-2.result.now) (sym c.terms-2.ensures)
    (can_scale (actions_of c.args.algebra.now) (c.args.e.now.mono, c.args.e.now.coef) [] c.args.ts.now c.requires made)

pub returns : goal.returns
returns c =
    let made : IsSorted (expanded (actions_of c.args.algebra.now) c.args.e.now.mono c.args.ts.now) c.as_slice-2.result.now =
    subst₂ IsSorted (c.as_slice.ensures.value ∙ c.in_ok-made.ensures) (sym c.as_slice-2.ensures.value) c.in_ok-falling.ensures in
    product_of_sorted (actions_of c.args.algebra.now) (c.args.e.now.mono, c.args.e.now.coef) c.args.ts.now made
    (subst (λ us. IsSum (multiplied_by us c.as_slice-2.result.now) c.in_ok-product-2.product.items) c.terms-2.ensures c.in_ok-product-2.ensures)
