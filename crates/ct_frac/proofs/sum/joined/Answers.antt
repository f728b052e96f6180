use Rattle.ct_frac.proofs.Base.{◌≡◌, Ok, sym, ◌∙◌, ap, subst, arith, rules, insert, AnswersBy, ◌>>=◌}
use Rattle.ct_frac.specs.Code.{find_place, exponent_set}
use Rattle.ct_frac.proofs.Joining.{found_at, found_before}
use Rattle.ct_frac.proofs.sum.joined.Goals as goal

pub with_exp_at-requires : goal.with_exp_at-requires
with_exp_at-requires c =
    let h = found_at 0 _ _ c.args.f.now c.args.factors.items (sym (c.found.ensures ∙ ap (find_place 0 c.args.f.now.poly) c.as_slice.ensures.value)
    ∙ c.in-At.is) in
    omega (arith, h.counted, h.within)

pub put_before-requires : goal.put_before-requires
put_before-requires c =
    let h = found_before 0 _ c.args.f.now c.args.factors.items (sym (c.found.ensures ∙ ap (find_place 0 c.args.f.now.poly) c.as_slice.ensures.value)
    ∙ c.in-Before.is) in
    omega (arith, h.counted, h.within)

pub returns-in_err-exp-in-At : goal.returns-in_err-exp-in-At
returns-in_err-exp-in-At c =
    let h = found_at 0 _ _ c.args.f.now c.args.factors.items (sym (c.found.ensures ∙ ap (find_place 0 c.args.f.now.poly) c.as_slice.ensures.value)
    ∙ c.in-At.is) in
    subst (λ d. AnswersBy (λ v. v.items) d c.from_residual.result) (sym h.added) (search rules)

pub returns-in_ok-exp-in-At : goal.returns-in_ok-exp-in-At
returns-in_ok-exp-in-At c =
    let h = found_at 0 _ _ c.args.f.now c.args.factors.items (sym (c.found.ensures ∙ ap (find_place 0 c.args.f.now.poly) c.as_slice.ensures.value)
    ∙ c.in-At.is) in
    let same : h.place ≡ c.in-At.place = omega (arith, h.counted) in
    h.added ∙ ap (λ d. d >>= (λ s. Ok (exponent_set c.args.factors.items h.place s))) c.in_ok-exp-in-At.ensures
    ∙ ap (λ i. Ok (exponent_set c.args.factors.items i c.in_ok-exp-in-At.exp)) same ∙ ap Ok (sym c.with_exp_at.ensures)

pub returns-in_ok-longer-in-Before : goal.returns-in_ok-longer-in-Before
returns-in_ok-longer-in-Before c =
    let h = found_before 0 _ c.args.f.now c.args.factors.items (sym (c.found.ensures ∙ ap (find_place 0 c.args.f.now.poly) c.as_slice.ensures.value)
    ∙ c.in-Before.is) in
    let same : h.place ≡ c.in-Before.place = omega (arith, h.counted) in
    h.added ∙ ap (λ i. Ok (insert c.args.factors.items i c.args.f.now)) same ∙ ap Ok (sym c.in_ok-longer-in-Before.ensures)
