use Rattle.ct_poly.proofs.Base.{◌≡◌, ◌-◌, ◌^◌, min, take}
use Rattle.ct_poly.specs.Terms.{shift_size}
use Rattle.ct_poly.proofs.shift.shift_size_of_terms.Given as goal

-- the sum over the terms so far
abbrev pub invariant-loop-t : goal.invariant-loop-t
invariant-loop-t l = l.sum ≡ min (shift_size l.i l.by (take l.t-index l.ts)) (2 ^ 128 - 1)
