use Rattle.ct_reduce.proofs.Base.{◌≡◌, length}
use Rattle.ct_ore.specs.Terms.{op_entries}
use Rattle.ct_reduce.specs.Reduction.{first_reducible}
use Rattle.ct_reduce.proofs.search.greatest_reducible.Given as goal

abbrev pub invariant-finding : goal.invariant-finding
invariant-finding l = first_reducible l.fn.generators l.fn.rest.terms ≡ first_reducible l.fn.generators (op_entries l.terms)

abbrev pub decreases-finding : goal.decreases-finding
decreases-finding l = length l.terms
