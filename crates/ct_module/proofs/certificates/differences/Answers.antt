use Rattle.ct_module.proofs.Base.{each_behind, zip, ap, sym, ◌++◌, map}
use Rattle.ct_frac.specs.Arithmetic.{checked_fraction_difference}
use Rattle.ct_frac.specs.Written.{value}
use Rattle.ct_module.specs.Values.{differences_of}
use Rattle.ct_module.proofs.certificates.differences.Goals as goal

pub going-init : goal.going-init
going-init c = (
  each_behind (λ _ p. checked_fraction_difference p.0 p.1) c.in_ok-made.made.items (zip c.args.v.now c.args.w.now) c.in_ok-made.ensures.items,
  ap (λ xs. map value xs ++ differences_of c.args.v.now c.args.w.now) c.in_ok-made.ensures.items,
)
