use Rattle.ct_ore.proofs.Base.{◌≡◌, ◌*◌, ◌+◌, ℕ, suc, subst, sym, arith, exp, Name, name_with, place, place-name_with}
use Rattle.ct_ore.specs.AllNames.{over_below}
use Rattle.ct_ore.specs.Naming.{actions_of}
use Rattle.ct_ore.specs.PairMeasures.{name_measure}
use Rattle.ct_ore.specs.Bounds.{IsCapped}
use Rattle.ct_ore.proofs.measures.measure_of_names.Goals as goal

pub loop-i-preserved : goal.loop-i-preserved
loop-i-preserved c =
    let i = c.loop-i.i in
    let measure : Name → ℕ → ℕ = λ j k. name_measure c.args.weigh (actions_of c.args.algebra.now j) (exp c.args.m.now k) (exp c.args.n.now k) in
    let here : place (name_with i) ≡ i = place-name_with i (omega (arith, c.loop-i-test.true)) in
    let more : suc i ≡ i + 1 = omega arith in
    subst (λ k. IsCapped (over_below k (λ j. measure j (place j))) c.times_name-product.result) more
    (subst (λ k. IsCapped (over_below i (λ j. measure j (place j)) * measure (name_with i) k) c.times_name-product.result) (sym here)
    (c.times_name-product.ensures _ c.loop-i.invariant))
