-- What a certificate says of a vector, and of operators over the field: the telescoper is a sum of differences (Chyzak 2000).
--     over_polynomials a W            the module W over the field, with multiples by polynomials alone
--     difference a W i w              (S − 1) w for a shift, and D w for a derivation
--     sum_of_differences a W ss ws    the differences of the vectors ws, each by the name of its summand in ss, added up
-- In what follows `made` is what is made of each operator: what it makes of a vector v, or itself over the field.
--     EachCleared a W made ss ws      a vector of ws for each summand of ss: d times it is what is made of q
--     AreQuotients a W made ss ws     so it is, and no other vectors are so: they are what (1/d)·q makes
--     Telescopes a W made c           what is made of the telescoper is the sum of the differences of the quotients
--     TelescopesUpTo a W made gs c    so it is up to what is made of the combination of gs, with the scale before both
-- So `Telescopes` reads P v = Σ (S − 1) (q/d) v, with D in place of S − 1 for a derivation.
use Rattle.std.specs.Prelude.{◌≡◌, List, [], ◌∷◌}
use Rattle.ct_algebra.specs.Names.{Name}
use Rattle.ct_algebra.specs.Polynomial.{polys, polys_domain}
use Rattle.ct_algebra.specs.Actions.{Action, by_action, polynomials}
use Rattle.ct_algebra.specs.Operators.{Operator, combination}
use Rattle.ct_algebra.specs.Ore.{Module}
use Rattle.ct_algebra.specs.Field.{field, coefficients, plain}
use Rattle.ct_algebra.specs.Restriction.{restricted}
use Rattle.ct_algebra.specs.Certificate.{Summand, Certificate}

-- a module over the field, as one over the polynomials
abbrev pub over_polynomials :
    (a : Name → Action) {V : Type 0} → Module field (coefficients a) V → Module polys (polynomials a) V
over_polynomials a W = restricted polys polys_domain (polynomials a) (plain a) W

module _ (a : Name → Action) {V : Type 0} (W : Module polys (polynomials a) V) where
  -- the symbol before w, less w for a shift
  abbrev pub difference : Name → V → V
  difference i w = by_action (a i) (W.group.◌+◌ (W.D i w) (W.group.neg w)) (W.D i w) (W.D i w)

  -- the differences of the vectors, added up
  abbrev pub sum_of_differences : List Summand → List V → V
  sum_of_differences (s ∷ ss) (w ∷ ws) = W.group.◌+◌ (difference s.name w) (sum_of_differences ss ws)
  sum_of_differences _ _ = W.group.zero

  module _ (made : Operator → V) where
    -- d times each vector is what is made of its summand's q
    abbrev pub EachCleared : List Summand → List V → Type 0
    EachCleared (s ∷ ss) (w ∷ ws) = (W.scale s.denominator w ≡ made s.numerator) × EachCleared ss ws
    EachCleared [] [] = Unit {0}
    EachCleared _ _ = ⊥

    -- so it is, and no other vectors are so
    pub record AreQuotients (ss : List Summand) (ws : List V) : Type 0 where
      pub cleared : EachCleared ss ws
      pub no_others : (us : List V) → EachCleared ss us → us ≡ ws

    -- the telescoper is the sum of the differences of the quotients
    pub record Telescopes (c : Certificate) : Type 0 where
      pub quotients : List V
      pub are_quotients : AreQuotients c.summands quotients
      pub telescopes : made c.telescoper ≡ sum_of_differences c.summands quotients

    -- so it is, up to the combination of the generators
    pub record TelescopesUpTo (generators : List Operator) (c : Certificate) : Type 0 where
      pub quotients : List V
      pub are_quotients : AreQuotients c.summands quotients
      pub telescopes :
          W.scale c.scale (made c.telescoper) ≡
          W.group.◌+◌ (W.scale c.scale (sum_of_differences c.summands quotients)) (made (combination a c.cofactors generators))
