-- The arithmetic of the tests of a certificate, in its order, with its overflow. (This project's own.)
--     same_polynomial, same_operator    the tests for equality
--     checked_multiple c p              a polynomial times an operator
--     checked_denominator s             N of a summand: σ(d) first for a shift, then the product
--     checked_numerator s               E: the symbol before q, d times it, σ(d) or δ(d), times q, the difference
--     checked_differences sum ss        the sum, and H·E of each summand in order
--     checked_part h s                  whether H·N is h, N first
--     checked_identity                  whether h·P is the sum, from zero, of all H·E and then of all cofactor∘generator
-- Laws in proofs/: the values are those of ct_algebra's `Certificate` page, so the truth values are its equations.
use Rattle.std.specs.Prelude.{Bool, Ok, List}
use Rattle.ct_algebra.specs.Monomial.{unit}
use Rattle.ct_algebra.specs.Names.{Name, symbol}
use Rattle.ct_algebra.specs.Polynomial.{Polynomial, polys}
use Rattle.ct_algebra.specs.Actions.{Action, by_action}
use Rattle.ct_algebra.specs.Operators.{Operator, operator_group, no_operator, term_of}
use Rattle.ct_algebra.specs.Certificate.{Summand, Certificate}
use Rattle.ct_checked.specs.Checked.{Checked, ◌>>=◌}
use Rattle.ct_checked.specs.Traversal.{checked_fold}
use Rattle.ct_poly.specs.Measures.{checked_times, checked_shifted, checked_derived}
use Rattle.ct_ore.specs.Measures.{checked_sum, checked_difference, checked_product, checked_combination}

unfoldable pub same_polynomial : Polynomial → Polynomial → Bool
same_polynomial p q = polys.is_zero (polys.◌+◌ p (polys.neg q))

unfoldable pub same_operator : Operator → Operator → Bool
same_operator p q = operator_group.is_zero (operator_group.◌+◌ p (operator_group.neg q))

-- d times σ(d), σ first
abbrev pub shift_denominator : Summand → Checked Polynomial
shift_denominator s = do
  moved ← checked_shifted s.name 1 s.denominator
  checked_times s.denominator moved

module _ (a : Name → Action) where
  abbrev pub checked_multiple : Polynomial → Operator → Checked Operator
  checked_multiple c p = checked_product a (term_of unit c) p

  unfoldable pub checked_denominator : Summand → Checked Polynomial
  checked_denominator s =
      by_action (a s.name) (shift_denominator s) (checked_times s.denominator s.denominator) (checked_times s.denominator s.denominator)

  -- σ(d) for a shift, δ(d) for a derivation
  unfoldable pub checked_coefficient : Summand → Checked Polynomial
  checked_coefficient s =
      by_action (a s.name) (checked_shifted s.name 1 s.denominator) (checked_derived s.name s.denominator) (Ok polys.zero)

  unfoldable pub checked_numerator : Summand → Checked Operator
  checked_numerator s = do
    before ← checked_product a (term_of (symbol s.name) polys.one) s.numerator
    first ← checked_multiple s.denominator before
    coefficient ← checked_coefficient s
    second ← checked_multiple coefficient s.numerator
    checked_difference first second

  -- a sum with H·E of one more summand
  unfoldable pub with_difference : Operator → Summand → Checked Operator
  with_difference sum s = do
    numerator ← checked_numerator s
    product ← checked_multiple s.factor numerator
    checked_sum sum product

  abbrev pub checked_differences : Operator → List Summand → Checked Operator
  checked_differences sum ss = checked_fold with_difference sum ss

  unfoldable pub checked_part : Polynomial → Summand → Checked Bool
  checked_part h s = do
    denominator ← checked_denominator s
    product ← checked_times s.factor denominator
    Ok (same_polynomial product h)

  unfoldable pub checked_identity : List Operator → Certificate → Checked Bool
  checked_identity generators c = do
    left ← checked_multiple c.scale c.telescoper
    differences ← checked_differences no_operator c.summands
    right ← checked_combination a differences c.cofactors generators
    Ok (same_operator left right)
