use Rattle.ct_linsolve.proofs.Base.{arith}
use Rattle.ct_linsolve.specs.Views.{pivots_of, rows_of}
use Rattle.ct_linsolve.proofs.Pivots.{seek_is}
use Rattle.ct_linsolve.proofs.rows.find_pivot.Goals as goal

pub seeking-init : goal.seeking-init
seeking-init c = (seek_is c.args.column (pivots_of c.args.pivots.now) (rows_of c.args.rows.now), omega arith)
