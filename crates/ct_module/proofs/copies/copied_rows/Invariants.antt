use Rattle.ct_module.proofs.Base.{◌≡◌, ◌++◌, length}
use Rattle.ct_module.specs.Views.{rows_in}
use Rattle.ct_module.proofs.copies.copied_rows.Given as goal

abbrev pub invariant-copying : goal.invariant-copying
invariant-copying l = rows_in l.copy.items ++ rows_in l.rest ≡ rows_in l.fn.rows

abbrev pub decreases-copying : goal.decreases-copying
decreases-copying l = length l.rest
