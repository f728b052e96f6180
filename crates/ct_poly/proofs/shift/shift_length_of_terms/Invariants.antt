use Rattle.ct_poly.proofs.Base.{◌≡◌, ◌≤◌, ◌*◌, take}
use Rattle.ct_poly.specs.Terms.{shift_length}
use Rattle.ct_poly.proofs.shift.shift_length_of_terms.Given as goal

-- the sum over the terms so far, each of them small
abbrev pub invariant-loop-t : goal.invariant-loop-t
invariant-loop-t l = (l.sum ≡ shift_length l.i (take l.t-index l.ts)) × (l.sum ≤ l.t-index * 65536)
