use Rattle.ct_poly.proofs.Base.{◌≡◌, pos, to_z, arith, w128, to_z_pos}
use Rattle.ct_poly.proofs.WholeDivisors.{each_divides}
use Rattle.ct_poly.proofs.poly.Poly.over_whole.Goals as goal

pub divided-requires : goal.divided-requires
divided-requires c =
    let same : to_z w128 c.args.divisor ≡ pos c.args.divisor =
    to_z_pos w128 c.args.divisor (let within = c.requires.within in omega (arith, within)) in
    rw (c.one.ensures, same) (each_divides c.args.divisor c.args.self.now.terms c.requires.divides)
