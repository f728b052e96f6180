use Rattle.ct_ore.proofs.Base.{◌≡◌, ◌*◌, ◌∙◌, sym, ap, subst, arith, exp, name_with}
use Rattle.ct_ore.specs.Naming.{actions_of}
use Rattle.ct_ore.specs.PairMeasures.{name_measure}
use Rattle.ct_ore.specs.Bounds.{IsCapped}
use Rattle.ct_ore.proofs.PairSums.{name_alone}
use Rattle.ct_ore.proofs.measures.times_name.Goals as goal

pub returns-then-exp-eq0 : goal.returns-then-exp-eq0
returns-then-exp-eq0 c = λ v before.
    let one : name_measure c.args.weigh (actions_of c.args.algebra.now (name_with c.args.i)) (exp c.args.m.now c.args.i) (exp c.args.n.now c.args.i) ≡
    1 = name_alone c.args.weigh (actions_of c.args.algebra.now (name_with c.args.i)) (exp c.args.m.now c.args.i) (exp c.args.n.now c.args.i)
    (sym c.exp.ensures ∙ c.if-exp-eq0.true) in
    subst (λ x. IsCapped x c.args.product) (omega (arith, ap (λ x. v * x) one)) before

pub returns : goal.returns
returns c = λ v before. c.capped_product.ensures v _ before c.measure_of_name-name.ensures
