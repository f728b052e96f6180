use Rattle.ct_poly.proofs.CellSteps.{IsTaking}
use Rattle.ct_poly.proofs.cell_division.taken_out.Given as goal

abbrev pub invariant-taking : goal.invariant-taking
invariant-taking l = IsTaking l.initial.cells l.fn.dividend.count l.fn.dividend.norm l.fn.by l.found.items l.fn.tops l.cells l.norm l.below

abbrev pub decreases-taking : goal.decreases-taking
decreases-taking l = l.below
