-- What the laws of certificates say; functions of src/laws.rt prove them, those with a V of the vectors V of every module.
--     DifferenceIsCleared V            where d times w is what q makes of v, E makes of v N times the difference of w
--     OperatorDifferenceIsCleared      where q is d times the operator r, E is N times the difference of r
--     CertificateTelescopes V          of a vector that the generators kill, the telescoper makes the sum of the differences
--                                      of what the certificates make of it
--     CertificateTelescopesOverField   as operators over the field, h·P is h times the sum of the differences of the
--                                      certificates, and the combination of the cofactors with the generators
-- The first is about each module over the polynomials, the third about those over the field. The last says the same of
-- operators, for whatever they act on: P less the sum of the differences of q/d is in the left ideal of the generators.
use Rattle.std.specs.Prelude.{◌≡◌, List}
use Rattle.ct_algebra.specs.Names.{Name}
use Rattle.ct_algebra.specs.Polynomial.{polys}
use Rattle.ct_algebra.specs.Actions.{Action, by_action, polynomials}
use Rattle.ct_algebra.specs.Ore.{Module}
use Rattle.ct_algebra.specs.Operators.{Operator, sum_of_operators, negative, multiple, symbol_before, apply, EachKills}
use Rattle.ct_algebra.specs.Field.{field, coefficients}
use Rattle.ct_algebra.specs.FieldOperators.{field_operators, over_field}
use Rattle.ct_algebra.specs.Certificate.{Summand, Certificate, difference_numerator, difference_denominator, Certifies}
use Rattle.ct_algebra.specs.Telescoping.{difference, Telescopes, TelescopesUpTo, over_polynomials}

abbrev pub DifferenceIsCleared : Type 0 → Type 0
DifferenceIsCleared V =
    (a : Name → Action) (W : Module polys (polynomials a) V) (s : Summand) (v w : V) →
    W.scale s.denominator w ≡ apply a W s.numerator v →
    apply a W (difference_numerator a s) v ≡ W.scale (difference_denominator a s) (difference a W s.name w)

abbrev pub OperatorDifferenceIsCleared : Type 0
OperatorDifferenceIsCleared =
    (a : Name → Action) (s : Summand) (r : Operator) → s.numerator ≡ multiple a s.denominator r →
    difference_numerator a s ≡ multiple a (difference_denominator a s)
    (by_action (a s.name) (sum_of_operators (symbol_before a s.name r) (negative r)) (symbol_before a s.name r)
    (symbol_before a s.name r))

abbrev pub CertificateTelescopes : Type 0 → Type 0
CertificateTelescopes V =
    (a : Name → Action) (W : Module field (coefficients a) V) (summed : List Name) (generators : List Operator) (c : Certificate)
    (v : V) → EachKills a (over_polynomials a W) generators v → Certifies a summed generators c →
    Telescopes a (over_polynomials a W) (λ p. apply a (over_polynomials a W) p v) c

abbrev pub CertificateTelescopesOverField : Type 0
CertificateTelescopesOverField =
    (a : Name → Action) (summed : List Name) (generators : List Operator) (c : Certificate) →
    Certifies a summed generators c → TelescopesUpTo a (over_polynomials a (field_operators a)) over_field generators c
