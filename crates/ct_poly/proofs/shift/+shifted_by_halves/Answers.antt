use Rattle.ct_poly.proofs.Base.{◌≡◌, ◌+◌, ◌<◌, [], ◌∷◌, rules, arith, sym, length, subst, subst₂, IfOk-weaker, plus}
use Rattle.ct_poly.specs.Powers.{CanShift}
use Rattle.ct_poly.specs.Terms.{size_of, poly_of_terms, IsListOf}
use Rattle.ct_poly.proofs.Products.{only_one}
use Rattle.ct_poly.proofs.Shifts.{IsShiftOf, shifted_of_none, shifted_of_halves, can_shift_front, can_shift_back, shifted_halves_small}
use Rattle.ct_poly.proofs.shift.+shifted_by_halves.Goals as goal

pub returns-then-is_empty : goal.returns-then-is_empty
returns-then-is_empty t c =
    shifted_of_none c.args.table.now.name c.args.table.now.by c.args.ts.now c.new.result.items (search rules) (search rules)

pub shifted_term-requires-clause-can : goal.shifted_term-requires-clause-can
shifted_term-requires-clause-can t c =
    subst (CanShift c.args.table.now) (only_one c.args.ts.now c.index-ts-0.result (search rules) c.index-ts-0.is) c.requires.can

pub returns-then-ts-eq1 : goal.returns-then-ts-eq1
returns-then-ts-eq1 t c =
    let one : c.args.ts.now ≡ c.index-ts-0.result ∷ [] = only_one c.args.ts.now c.index-ts-0.result (search rules) c.index-ts-0.is in
    IfOk-weaker c.shifted_term.result _ _ (λ v l. subst (λ ts. IsShiftOf c.args.table.now.name c.args.table.now.by ts v.items) (sym one) l)
    c.shifted_term.ensures

pub shifted_by_halves-requires : goal.shifted_by_halves-requires
shifted_by_halves-requires t c =
    let some : 0 < length c.args.ts.now = search rules in (
      omega (arith, c.decreases, c.split_at.ensures.front_len, c.if-ts-eq1.false),
      (
        c.requires.table,
        can_shift_front c.args.table.now c.args.ts.now c.split_at.result.0.now c.split_at.result.1.now
            c.split_at.ensures.by_index.0 c.requires.can,
      ),
    )

pub shifted_by_halves-requires-2 : goal.shifted_by_halves-requires-2
shifted_by_halves-requires-2 t c =
    let some : 0 < length c.args.ts.now = search rules in (
      omega (arith, c.decreases, c.split_at.ensures.back_len, c.if-ts-eq1.false),
      (
        c.requires.table,
        can_shift_back c.args.table.now c.args.ts.now c.split_at.result.0.now c.split_at.result.1.now c.split_at.ensures.by_index.0
            c.requires.can,
      ),
    )

pub sum_of_terms-requires-clause-small : goal.sum_of_terms-requires-clause-small
sum_of_terms-requires-clause-small t c =
    rw (c.as_slice.ensures.value, c.as_slice-2.ensures.value)
    (shifted_halves_small c.args.table.now c.args.ts.now c.split_at.result.0.now c.split_at.result.1.now c.split_at.ensures.by_index.0 c.requires.can
    c.in_ok-left.left.items c.in_ok-right.right.items c.in_ok-left.ensures c.in_ok-right.ensures)

pub returns : goal.returns
returns t c =
    IfOk-weaker c.sum_of_terms.result _ _
    (λ v l. shifted_of_halves c.args.table.now c.args.ts.now c.split_at.result.0.now c.split_at.result.1.now c.split_at.ensures.by_index.0
    c.requires.can c.in_ok-left.left.items c.in_ok-right.right.items c.in_ok-left.ensures c.in_ok-right.ensures v.items
    (subst₂ (λ u w. IsListOf (plus (poly_of_terms u) (poly_of_terms w)) (length u + length w) (size_of u + size_of w) v.items)
    c.as_slice.ensures.value c.as_slice-2.ensures.value l))
    c.sum_of_terms.ensures
