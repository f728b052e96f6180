use Rattle.ct_poly.proofs.Base.{◌≡◌, ◌≤◌, ◌++◌, ◌∙◌, ap, sym, [], ◌∷◌, rules, arith, ◌*ℤ◌, FitsSigned, w128, to_z-of_z, total, largest_degree}
use Rattle.ct_poly.specs.declared.term.Term.{Term}
use Rattle.ct_poly.proofs.Termwise.{making_ended, making_more, head_low}
use Rattle.ct_poly.proofs.Derivatives.{derivative, derivative_is, derivative_of_name}
use Rattle.ct_poly.proofs.derivative.derivative_of_terms.Goals as goal

pub with_exp-mono-requires-clause-within : goal.with_exp-mono-requires-clause-within
with_exp-mono-requires-clause-within c =
    let low : total c.in-Some.t.now.mono ≤ largest_degree = omega (arith, head_low c.in-Some.ensures.cases.0 c.lowering.invariant, c.requires.low) in
    omega (arith, c.exp-e.ensures)

pub lowering-preserved-in_ok-push : goal.lowering-preserved-in_ok-push
lowering-preserved-in_ok-push c =
    let coef_fits : FitsSigned w128 c.in-Some.t.now.coef = search rules in
    let from_fits : FitsSigned w128 c.from.result = search rules in
    let scaled : c.product_of_coefs-coef.result ≡ c.in-Some.t.now.coef *ℤ c.from.result = simp to_z-of_z at c.product_of_coefs-coef.ensures in
    let made : Term = record { mono = c.with_exp-mono.result; coef = c.product_of_coefs-coef.result } in
    let pushed : c.push.new.self.items ≡ c.lowering.out.items ++ made ∷ [] = search rules in
    let one : derivative c.args.i c.in-Some.t.now ≡ made ∷ [] =
    derivative_of_name c.args.i c.in-Some.t.now made c.exp-e.result (omega arith) c.exp-e.ensures c.with_exp-mono.ensures
    (scaled ∙ ap (λ z. c.in-Some.t.now.coef *ℤ z) c.from.ensures) in
    making_more c.in-Some.ensures.cases.0 (pushed ∙ ap (λ ts. c.lowering.out.items ++ ts) (sym one)) c.lowering.invariant

pub returns : goal.returns
returns c =
    derivative_is c.args.i c.requires.known c.args.ts.now c.lowering.out.items c.requires.falling
    (making_ended c.in_default.ensures.cases c.lowering.invariant)
