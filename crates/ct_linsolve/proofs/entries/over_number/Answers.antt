use Rattle.ct_linsolve.proofs.Base.{◌++◌, ap, sym, map, pos, unit, divided}
use Rattle.ct_linsolve.proofs.RowContents.{divides_row}
use Rattle.ct_linsolve.proofs.entries.over_number.Goals as goal

pub dividing-init : goal.dividing-init
dividing-init c = (
  ap (λ d. d ++ map (λ x. divided unit (pos c.args.divisor) x) c.args.row.now) (sym c.in_ok-done.ensures.items),
  divides_row c.args.divisor c.args.row.now c.requires.divides,
)
