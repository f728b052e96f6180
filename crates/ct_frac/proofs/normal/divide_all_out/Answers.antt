use Rattle.ct_frac.proofs.Base.{◌≡◌, ◌∷◌, rules, subst}
use Rattle.ct_frac.specs.Written.{AreFactors}
use Rattle.ct_frac.proofs.Denominators.{base_nonzero}
use Rattle.ct_frac.proofs.normal.divide_all_out.Goals as goal

pub divide_out-requires : goal.divide_out-requires
divide_out-requires c =
    let list : c.lowering.rest.now ≡ c.in-Some.f.now ∷ c.in-Some.more.now = search rules in
    base_nonzero c.in-Some.f.now.poly (subst AreFactors list c.lowering.invariant.1).0.base
