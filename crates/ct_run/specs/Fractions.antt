-- What the code keeps of a quotient's two values.
--     pair_of f    the values as a pair
use Rattle.ct_algebra.specs.Operators.{Operator}
use Rattle.ct_algebra.specs.Polynomial.{Polynomial}
use Rattle.ct_run.specs.declared.values.Fraction.{Fraction}

abbrev pub pair_of : Fraction → Operator × Polynomial
pair_of f = (f.numerator, f.denominator)
