use Rattle.ct_border.proofs.Base.{◌≡◌, ◌+◌, length, behind}
use Rattle.ct_border.specs.Staircase.{leading_of, leading_monomials}
use Rattle.ct_border.proofs.leading.leading_monomials.Given as goal

-- what is done and what is left
abbrev pub invariant-leading : goal.invariant-leading
invariant-leading l =
    (leading_monomials l.generators ≡ behind leading_of l.done.items l.rest) ×
    (length l.done.items + length l.rest ≡ length l.generators)

abbrev pub decreases-leading : goal.decreases-leading
decreases-leading l = length l.rest
