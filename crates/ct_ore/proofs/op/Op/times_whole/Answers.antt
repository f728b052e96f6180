use Rattle.ct_ore.proofs.Base.{◌≡◌, ◌≤◌, ◌∙◌, ap, subst, pos, to_z, arith, w128, to_z_pos, unit, term_of, number, Answers, largest_degree}
use Rattle.ct_ore.specs.Naming.{actions_of}
use Rattle.ct_ore.specs.Measures.{checked_product, coefficient_degree, order_of}
use Rattle.ct_ore.specs.Wholes.{checked_multiple, whole_operator}
use Rattle.ct_ore.proofs.PairMeasureLaws.{coefficient_degree_is, order_is}
use Rattle.ct_ore.proofs.WholeMultiples.{once, multiple_is}
use Rattle.ct_ore.proofs.op.Op.times_whole.Goals as goal

pub returns-then-n-eq1 : goal.returns-then-n-eq1
returns-then-n-eq1 c =
    ap (λ n. checked_multiple (actions_of c.args.algebra.now) n c.args.self) c.if-n-eq1.true
    ∙ once (actions_of c.args.algebra.now) c.args.self c.within_limits.ensures.small

pub returns : goal.returns
returns c =
    let a = actions_of c.args.algebra.now in
    let given : to_z w128 c.args.n ≡ pos c.args.n = to_z_pos w128 c.args.n (let within = c.requires.within in omega (arith, within)) in
    let whole : c.in_ok-whole.whole ≡ whole_operator c.args.n = c.in_ok-whole.ensures.value
    ∙ ap (term_of unit) (c.in_ok-constant.ensures.value ∙ ap number given) in
    let low : coefficient_degree c.args.self ≤ largest_degree =
    subst (λ k. k ≤ largest_degree) (c.degree_of.ensures.value ∙ coefficient_degree_is c.args.self c.terms.result.now c.terms.ensures)
    c.degree_of.ensures.within in
    let low_order : order_of c.args.self ≤ largest_degree =
    subst (λ k. k ≤ largest_degree) (c.order_of.ensures.value ∙ order_is c.args.self c.terms-2.result.now c.terms-2.ensures)
    c.order_of.ensures.within in
    subst (λ d. Answers d c.mul.result)
    (ap (λ w. checked_product a w c.args.self) whole ∙ multiple_is c.args.n c.requires.some a c.args.self low low_order c.within_limits.ensures.few)
    c.mul.ensures
