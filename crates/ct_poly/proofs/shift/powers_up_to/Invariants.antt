use Rattle.ct_poly.proofs.Base.{◌+◌}
use Rattle.ct_poly.proofs.PowerTables.{AreRows}
use Rattle.ct_poly.proofs.shift.powers_up_to.Given as goal

-- the rows so far are the first powers
abbrev pub invariant-loop-e : goal.invariant-loop-e
invariant-loop-e l = AreRows l.i l.by (l.e + 1) l.rows.items
