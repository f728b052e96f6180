use Rattle.ct_poly.proofs.Base.{length, map, name_with}
use Rattle.ct_poly.proofs.Parts.{IsChoosing}
use Rattle.ct_poly.proofs.part.part_of_terms.Given as goal

abbrev pub invariant-choosing : goal.invariant-choosing
invariant-choosing l = IsChoosing (map name_with l.names) l.mono l.fn.ts l.out.items l.rest

abbrev pub decreases-choosing : goal.decreases-choosing
decreases-choosing l = length l.rest
