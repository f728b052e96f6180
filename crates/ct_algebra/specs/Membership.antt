-- Membership in the left ideal of generators, and what a left reduction shows (Chyzak and Salvy 1998, section 1).
--     IsMember a gs p          a nonzero polynomial times p is a combination of the generators gs
--     Reduction                a scale, a cofactor for each generator, and a rest
--     ReducesTo a gs p r       scale·p is the combination of the cofactors with gs, plus the rest; the scale isn't zero
-- Coefficients may be divided: so p is a member where a multiple of it by a nonzero polynomial is a combination. That the rest
-- is reduced is `IsReduced` of Leading.
use Rattle.std.specs.Prelude.{◌≡◌, ◌≢◌, List, length}
use Rattle.ct_algebra.specs.Names.{Name}
use Rattle.ct_algebra.specs.Polynomial.{Polynomial, polys}
use Rattle.ct_algebra.specs.Actions.{Action}
use Rattle.ct_algebra.specs.Operators.{Operator, multiple, combination, sum_of_operators}

pub record Reduction : Type 0 where
  pub scale : Polynomial
  pub cofactors : List Operator
  pub rest : Operator

module _ (a : Name → Action) (generators : List Operator) where
  pub record IsMember (p : Operator) : Type 0 where
    pub scale : Polynomial
    pub cofactors : List Operator
    pub scale_nonzero : scale ≢ polys.zero
    pub cofactors_fit : length cofactors ≡ length generators
    pub identity : multiple a scale p ≡ combination a cofactors generators

  pub record ReducesTo (p : Operator) (r : Reduction) : Type 0 where
    pub scale_nonzero : r.scale ≢ polys.zero
    pub cofactors_fit : length r.cofactors ≡ length generators
    pub identity : multiple a r.scale p ≡ sum_of_operators (combination a r.cofactors generators) r.rest
