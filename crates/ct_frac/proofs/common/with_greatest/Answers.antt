use Rattle.ct_frac.proofs.Base.{◌≡◌, sym, ◌∙◌, ap, ap₂, arith, rules, IfOk-weaker, insert}
use Rattle.ct_frac.specs.Code.{find_place, exponent_set}
use Rattle.ct_frac.proofs.Joining.{found_at, found_before}
use Rattle.ct_frac.proofs.common.with_greatest.Goals as goal

pub with_exp_at-requires : goal.with_exp_at-requires
with_exp_at-requires c =
    let h = found_at 0 _ _ c.args.f.now c.args.factors.items (sym (c.found.ensures ∙ ap (find_place 0 c.args.f.now.poly) c.as_slice.ensures.value)
    ∙ c.in-At.is) in
    omega (arith, h.counted, h.within)

pub put_before-requires : goal.put_before-requires
put_before-requires c =
    let h = found_before 0 _ c.args.f.now c.args.factors.items (sym (c.found.ensures ∙ ap (find_place 0 c.args.f.now.poly) c.as_slice.ensures.value)
    ∙ c.in-Before.is) in
    omega (arith, h.counted, h.within)

pub returns-in-At : goal.returns-in-At
returns-in-At c =
    let h = found_at 0 _ _ c.args.f.now c.args.factors.items (sym (c.found.ensures ∙ ap (find_place 0 c.args.f.now.poly) c.as_slice.ensures.value)
    ∙ c.in-At.is) in
    let same : c.in-At.place ≡ h.place = omega (arith, h.counted) in
    c.with_exp_at.ensures ∙ ap₂ (exponent_set c.args.factors.items) same (search rules) ∙ sym h.greatest

pub returns-in-Before : goal.returns-in-Before
returns-in-Before c =
    let h = found_before 0 _ c.args.f.now c.args.factors.items (sym (c.found.ensures ∙ ap (find_place 0 c.args.f.now.poly) c.as_slice.ensures.value)
    ∙ c.in-Before.is) in
    let same : c.in-Before.place ≡ h.place = omega (arith, h.counted) in
    IfOk-weaker c.put_before.result _ _ (λ v made. made ∙ ap (λ i. insert c.args.factors.items i c.args.f.now) same
    ∙ sym h.greatest) c.put_before.ensures
