-- What a vector of weights of the columns is assembled to.
--     telescoper_term, numerator_term    what a column with a weight adds to the telescoper, and to the numerator of a name
--     telescoper_of, numerator_of        their sums over the columns
--     IsAssembled                        the telescoper is that sum, and each numerator over its denominator is that sum over
--                                        the denominator of its name, perhaps with a common factor left out; the scale isn't
--                                        zero, and is the factor times N of each summand
--     residual a c                       the scale times the telescoper, less the sum of the factors times E
--     reduced_by s cofactors c           scale and factors times s, with cofactors
-- For a null vector of the system the residual makes zero of the start, so its left reduction gives cofactors, and the
-- certificate with these is one: law `assembly_certifies`.
use Rattle.std.specs.Prelude.{◌≡◌, ◌≢◌, ℕ, Bool, cond, eqb, pos, List, map}
use Rattle.std.specs.List.{All}
use Rattle.ct_algebra.specs.RangeSum.{sum_below}
use Rattle.ct_algebra.specs.Names.{Name, place}
use Rattle.ct_algebra.specs.Polynomial.{Polynomial, polys, times}
use Rattle.ct_algebra.specs.Substitution.{term}
use Rattle.ct_algebra.specs.Actions.{Action}
use Rattle.ct_algebra.specs.Operators.{Operator, operator_group, no_operator, term_of, sum_of_operators, negative, multiple}
use Rattle.ct_algebra.specs.Certificate.{Summand, Certificate, difference_denominator, differences}
use Rattle.ct_telescoping.specs.Columns.{Column, OfMonomial, OfSummand}

-- the weight at the monomial
abbrev pub telescoper_term : Polynomial → Column → Operator
telescoper_term w (OfMonomial m) = term_of m w
telescoper_term w (OfSummand i b e) = no_operator

abbrev pub is_same : Name → Name → Bool
is_same i j = eqb (place i) (place j)

-- the weight times the power, at the element, for the columns of the summed name j
abbrev pub numerator_term : Name → Polynomial → Column → Operator
numerator_term j w (OfMonomial m) = no_operator
numerator_term j w (OfSummand i b e) = cond (is_same i j) (term_of b (times w (term e (pos 1)))) no_operator

module _ (m : ℕ) (column : ℕ → Column) (weight : ℕ → Polynomial) where
  abbrev pub telescoper_of : Operator
  telescoper_of = sum_below operator_group m (λ i. telescoper_term (weight i) (column i))

  abbrev pub numerator_of : Name → Operator
  numerator_of j = sum_below operator_group m (λ i. numerator_term j (weight i) (column i))

  module _ (a : Name → Action) where
    -- q over d is the sum over the denominator of the name, where both may have lost a nonzero factor
    pub record IsReducedSummand (denominators : Name → Polynomial) (s : Summand) : Type 0 where
      pub divisor : Polynomial
      pub divisor_nonzero : divisor ≢ polys.zero
      pub numerator_is : multiple a divisor s.numerator ≡ numerator_of s.name
      pub denominator_is : times divisor s.denominator ≡ denominators s.name

    pub record IsAssembled (summed : List Name) (denominators : Name → Polynomial) (c : Certificate) : Type 0 where
      pub names : map (λ s. s.name) c.summands ≡ summed
      pub telescoper_is : c.telescoper ≡ telescoper_of
      pub summands_are : All (IsReducedSummand denominators) c.summands
      pub scale_nonzero : c.scale ≢ polys.zero
      pub divides : All (λ s. c.scale ≡ times s.factor (difference_denominator a s)) c.summands

abbrev pub residual : (Name → Action) → Certificate → Operator
residual a c = sum_of_operators (multiple a c.scale c.telescoper) (negative (differences a c.summands))

abbrev pub scaled_summand : Polynomial → Summand → Summand
scaled_summand s t = record { name = t.name; numerator = t.numerator; denominator = t.denominator; factor = times s t.factor }

abbrev pub reduced_by : Polynomial → List Operator → Certificate → Certificate
reduced_by s cofactors c = record {
  telescoper = c.telescoper;
  scale = times s c.scale;
  summands = map (scaled_summand s) c.summands;
  cofactors = cofactors;
}
