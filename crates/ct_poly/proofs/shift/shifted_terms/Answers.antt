use Rattle.ct_poly.proofs.Base.{◌+◌, ◌^◌, ap, arith}
use Rattle.ct_poly.proofs.PowerTables.{greatest_small, greatest_low}
use Rattle.ct_poly.proofs.shift.shifted_terms.Goals as goal

pub powers_up_to-requires-clause-low : goal.powers_up_to-requires-clause-low
powers_up_to-requires-clause-low c =
    omega (arith, c.greatest_exp_of_terms.ensures, greatest_low c.args.i c.args.ts.now c.requires.known, c.requires.low)

pub powers_up_to-requires-clause-small : goal.powers_up_to-requires-clause-small
powers_up_to-requires-clause-small c =
    omega (
      arith,
      ap (λ e. (1 + c.args.by) ^ e) c.greatest_exp_of_terms.ensures,
      greatest_small c.args.i c.args.by c.args.ts.now c.requires.falling,
      c.requires.small,
    )
