use Rattle.ct_ore.proofs.Base.{◌≡◌, ◌+◌, min, sym, ◌∙◌, ap, subst, arith}
use Rattle.ct_ore.specs.Kinds.{derivation_weight, ways_below}
use Rattle.ct_ore.specs.Bounds.{IsCapped}
use Rattle.ct_ore.proofs.PairWeightLaws.{derivation_weight-min}
use Rattle.ct_ore.proofs.WayLaws.{way-le-weight}
use Rattle.ct_ore.proofs.ways.derivation_weight.Goals as goal

pub returns-in_err-way : goal.returns-in_err-way
returns-in_err-way c =
    let over = way-le-weight c.args.k c.args.e (c.loop-j.j + 1) in
    subst (IsCapped (derivation_weight c.args.k c.args.e)) (sym c.from_residual.ensures) (omega (arith, over, c.in_err-way.ensures))

pub returns : goal.returns
returns c =
    let end : c.loop-j.j ≡ min c.args.k c.args.e + 1 = omega (arith, c.loop-j.auto.j-end, c.min-j-end.ensures) in
    subst (λ v. IsCapped v c.loop-j.weight) (ap (λ m. ways_below m c.args.k c.args.e) end
    ∙ sym (derivation_weight-min c.args.k c.args.e)) c.loop-j.invariant.sum
