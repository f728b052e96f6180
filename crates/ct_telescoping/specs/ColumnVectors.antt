-- The vectors that the columns of an attempt stand for, in a module over the field.
--     column_vector           what a monomial makes of x; or the negative difference of a power over a denominator, times what
--                             a staircase element makes of x
-- So the weighted columns add up to zero exactly where the telescoper makes the sum of the differences of the certificates.
use Rattle.std.specs.Prelude.{pos}
use Rattle.ct_algebra.specs.Ore.{Module}
use Rattle.ct_algebra.specs.Monomial.{Mono}
use Rattle.ct_algebra.specs.Names.{Name, power}
use Rattle.ct_algebra.specs.Polynomial.{Polynomial, polys, polys_domain}
use Rattle.ct_algebra.specs.Substitution.{term}
use Rattle.ct_algebra.specs.Actions.{Action, polynomials}
use Rattle.ct_algebra.specs.Field.{field, coefficients, plain}
use Rattle.ct_algebra.specs.Restriction.{divided}
use Rattle.ct_algebra.specs.Telescoping.{over_polynomials, difference}
use Rattle.ct_telescoping.specs.Columns.{Column, OfMonomial, OfSummand}

module _ (a : Name → Action) {V : Type 0} (F : Module field (coefficients a) V) (denominators : Name → Polynomial) (x : V) where
  abbrev W : Module polys (polynomials a) V
  W = over_polynomials a F

  -- a power over the denominator of a summed name, times a staircase element's vector
  abbrev pub over_denominator : Name → Mono → Mono → V
  over_denominator j b e =
      divided polys polys_domain (polynomials a) (plain a) F (denominators j) (W.scale (term e (pos 1)) (power W.D b x))

  abbrev pub column_vector : Column → V
  column_vector (OfMonomial g) = power W.D g x
  column_vector (OfSummand j b e) = W.group.neg (difference a W j (over_denominator j b e))
