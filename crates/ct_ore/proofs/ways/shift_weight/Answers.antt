use Rattle.ct_ore.proofs.Base.{◌≡◌, ◌+◌, ◌*◌, ◌^◌, sym, ◌∙◌, ap, subst, rules, arith, lit≤}
use Rattle.std.proofs.Math.Nat.{pow-suc}
use Rattle.ct_ore.specs.Bounds.{IsCapped}
use Rattle.ct_ore.proofs.PairWeightLaws.{power_of_one}
use Rattle.ct_ore.proofs.ways.shift_weight.Goals as goal

pub returns-then-k-eq0 : goal.returns-then-k-eq0
returns-then-k-eq0 c =
    let none : 1 + c.args.k ≡ 1 = omega arith in (sym (ap (λ x. x ^ c.args.e) none ∙ power_of_one c.args.e), lit≤ tt)

pub loop-j-preserved : goal.loop-j-preserved
loop-j-preserved c =
    let next : (1 + c.args.k) ^ (c.loop-j.j + 1) ≡ (1 + c.args.k) ^ c.loop-j.j * (1 + c.args.k) =
    ap (λ m. (1 + c.args.k) ^ m) (omega arith) ∙ pow-suc (1 + c.args.k) c.loop-j.j in
    subst (λ v. IsCapped v c.capped_product-weight.result) (sym next)
    (c.capped_product-weight.ensures ((1 + c.args.k) ^ c.loop-j.j) (1 + c.args.k) c.loop-j.invariant (search rules))
