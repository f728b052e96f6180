use Rattle.ct_ore.proofs.Base.{◌≡◌, ◌++◌, ◌∷◌, [], ◌∙◌, sym, rules, arith, IsTrue, common_steps, polys, monomials, sum_kept, sum_gone}
use Rattle.ct_ore.specs.declared.op.OpTerm.{OpTerm}
use Rattle.ct_ore.proofs.AddingSteps.{entry}
use Rattle.ct_ore.proofs.merging.push_sum.Goals as goal

pub returns-in_ok-push : goal.returns-in_ok-push
returns-in_ok-push c =
    let t : OpTerm = record { mono = c.args.a.now.mono; coef = c.in_ok-coef.coef } in
    let pushed : c.push.new.self.items ≡ c.args.out.now.items ++ t ∷ [] = search rules in
    let some : c.in_ok-coef.coef ≡ polys.zero → ⊥ = λ zero. let told : IsTrue c.is_zero.result = c.is_zero.ensures.1 zero in
    grind (arith, common_steps) in
    sum_kept monomials polys.group entry c.args.out.now.items t pushed c.in_ok-coef.ensures.value (λ zero. some (c.in_ok-coef.ensures.value ∙ zero))

pub returns-else-not-is_zero : goal.returns-else-not-is_zero
returns-else-not-is_zero c =
    let none : c.in_ok-coef.coef ≡ polys.zero = c.is_zero.ensures.0 (search rules) in
    sum_gone monomials polys.group entry c.args.out.now.items c.args.a.now.mono (sym c.in_ok-coef.ensures.value ∙ none)
