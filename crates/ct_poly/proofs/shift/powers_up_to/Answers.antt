use Rattle.ct_poly.proofs.Base.{◌≡◌, suc, ◌++◌, ◌+◌, ◌≤◌, ◌∙◌, [], ◌∷◌, rules, arith, sym, ap, subst, pos}
use Rattle.ct_poly.specs.declared.term.Term.{Term}
use Rattle.ct_poly.specs.Powers.{IsPower, binomial}
use Rattle.ct_poly.specs.Terms.{IsListOf, greatest_total}
use Rattle.ct_poly.proofs.PowerTables.{first_row, next_row, next_can_multiply, next_is_power}
use Rattle.ct_poly.proofs.shift.powers_up_to.Goals as goal

pub loop-e-init : goal.loop-e-init
loop-e-init c =
    let one : Term = record { mono = c.one.result; coef = pos 1 } in
    let pushed : c.push.new.self.items ≡ c.in_ok-list_of_term.field-0 ∷ [] = search rules in
    let list : c.in_ok-list_of_term.field-0.items ≡ one ∷ [] = search rules in
    first_row c.args.i c.requires.known c.args.by c.requires.positive c.push.new.self.items c.in_ok-list_of_term.field-0 one pushed list c.one.ensures
    (search rules)

pub product_of_terms-requires : goal.product_of_terms-requires
product_of_terms-requires c =
    let power : IsPower c.args.i c.args.by c.loop-e.e c.as_slice-in-loop-e.result.now =
    subst (IsPower c.args.i c.args.by c.loop-e.e) (ap (λ w. w.items) (sym c.index.ensures) ∙ sym c.as_slice-in-loop-e.ensures.value)
    (c.loop-e.invariant.powers c.loop-e.e c.index.result.now (omega arith)) in
    let list : IsListOf (binomial c.args.i c.args.by) 2 (1 + c.args.by) c.as_slice.result.now =
    subst (IsListOf (binomial c.args.i c.args.by) 2 (1 + c.args.by)) (sym c.as_slice.ensures.value) c.in_ok-binomial.ensures.list in
    let low : greatest_total c.as_slice.result.now ≤ 1 =
    subst (λ ts. greatest_total ts ≤ 1) (sym c.as_slice.ensures.value) c.in_ok-binomial.ensures.low in
    next_can_multiply c.args.i c.requires.known c.args.by c.requires.positive c.as_slice.result.now c.as_slice-in-loop-e.result.now c.loop-e.e list
    low power c.args.highest (omega (arith, c.from-e-end.ensures)) c.requires.low c.requires.small

pub loop-e-preserved : goal.loop-e-preserved
loop-e-preserved c =
    let power : IsPower c.args.i c.args.by c.loop-e.e c.as_slice-in-loop-e.result.now =
    subst (IsPower c.args.i c.args.by c.loop-e.e) (ap (λ w. w.items) (sym c.index.ensures) ∙ sym c.as_slice-in-loop-e.ensures.value)
    (c.loop-e.invariant.powers c.loop-e.e c.index.result.now (omega arith)) in
    let list : IsListOf (binomial c.args.i c.args.by) 2 (1 + c.args.by) c.as_slice.result.now =
    subst (IsListOf (binomial c.args.i c.args.by) 2 (1 + c.args.by)) (sym c.as_slice.ensures.value) c.in_ok-binomial.ensures.list in
    let low : greatest_total c.as_slice.result.now ≤ 1 =
    subst (λ ts. greatest_total ts ≤ 1) (sym c.as_slice.ensures.value) c.in_ok-binomial.ensures.low in
    let pushed : c.push-in-loop-e.new.self.items ≡ c.loop-e.rows.items ++ c.in_ok-row.row ∷ [] = search rules in
    let next : IsPower c.args.i c.args.by (suc c.loop-e.e) c.in_ok-row.row.items =
    next_is_power c.args.i c.requires.known c.args.by c.requires.positive c.as_slice.result.now c.as_slice-in-loop-e.result.now c.loop-e.e
    list low power c.in_ok-row.row.items c.in_ok-row.ensures in
    next_row c.args.i c.requires.known c.args.by c.requires.positive
    (c.loop-e.e + 1) c.loop-e.rows.items c.push-in-loop-e.new.self.items c.in_ok-row.row c.loop-e.invariant
    (subst (λ e. IsPower c.args.i c.args.by e c.in_ok-row.row.items) (omega arith) next) pushed
