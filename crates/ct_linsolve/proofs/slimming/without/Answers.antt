use Rattle.ct_linsolve.proofs.Base.{◌≡◌, ◌∙◌, true, false, rules, IfOk-weaker}
use Rattle.ct_linsolve.proofs.DividedOut.{constant_stays, goes_through, some_degree}
use Rattle.ct_linsolve.proofs.slimming.without.Goals as goal

pub returns-then-is_constant-clause-value : goal.returns-then-is_constant-clause-value
returns-then-is_constant-clause-value c =
    let told : true ≡ c.is_constant.result = search rules in constant_stays c.args.row.items c.args.by.now (told ∙ c.is_constant.ensures)

pub divide_out-requires-clause-some : goal.divide_out-requires-clause-some
divide_out-requires-clause-some c =
    let told : false ≡ c.is_constant.result = search rules in some_degree c.args.by.now (told ∙ c.is_constant.ensures)

pub returns-clause-value : goal.returns-clause-value
returns-clause-value c =
    let told : false ≡ c.is_constant.result = search rules in
    IfOk-weaker c.divide_out.result _ _ (λ v value. value ∙ goes_through c.args.row.items c.args.by.now (told ∙ c.is_constant.ensures))
    c.divide_out.ensures.value
