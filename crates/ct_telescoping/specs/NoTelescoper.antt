-- That there is no telescoper of a support: of an order, and of a degree in the summed names (Chyzak 2000, Koutschan 2010).
--     IsFreeMonomial          a product of symbols of names that have operators under the actions a and are not summed
--     IsOfSupport             the telescoper is a sum over free monomials of total at most the order, its coefficients free of
--                             the summed names; each numerator is a sum over the staircase, its coefficients of degree at
--                             most the degree in the summed names
--     HasNoTelescoper         of each relation of the support over the given denominators the telescoper is zero
-- The scale may be any nonzero polynomial, the factors any polynomials and the cofactors any operators. Coefficients that
-- are fractions in the other names are not spoken of: clearing these multiplies the telescoper and all numerators by one
-- polynomial without summed names.
use Rattle.std.specs.Prelude.{◌≡◌, ℕ, ◌≤◌, List, map}
use Rattle.std.specs.List.{All}
use Rattle.ct_algebra.specs.Terms.{EachTerm}
use Rattle.ct_algebra.specs.Monomial.{Mono, total}
use Rattle.ct_algebra.specs.Names.{Name}
use Rattle.ct_algebra.specs.Polynomial.{Polynomial}
use Rattle.ct_algebra.specs.Coefficients.{inside}
use Rattle.ct_algebra.specs.Actions.{Action}
use Rattle.ct_algebra.specs.Operators.{Operator, no_operator}
use Rattle.ct_algebra.specs.FreeOf.{IsWithout, EachName, IsFreeOfAll}
use Rattle.ct_algebra.specs.Certificate.{Certificate, IsRelation}
use Rattle.ct_telescoping.specs.Staircase.{HasOperators, IsElement}

module _ (a : Name → Action) (summed : List Name) where
  -- a product of symbols of free names
  abbrev pub IsFreeMonomial : Mono → Type 0
  IsFreeMonomial m = EachName (λ j. IsWithout j m) summed × HasOperators a m

  module _ (d : ℕ) (element : ℕ → Mono) (order degree : ℕ) where
    pub record IsOfSupport (c : Certificate) : Type 0 where
      pub telescoper :
          EachTerm (λ m w. ((total m ≤ order) × IsFreeMonomial m) × IsFreeOfAll summed w) c.telescoper.terms
      pub numerators :
          All (λ s. EachTerm (λ b w. IsElement d element b × EachTerm (λ n z. total (inside summed n) ≤ degree) w.terms) s.numerator.terms)
          c.summands

    -- the certificate of each summed name stands over the name's denominator
    abbrev pub HasNoTelescoper : List Operator → (Name → Polynomial) → Type 0
    HasNoTelescoper generators denominators =
        (c : Certificate) → map (λ s. s.name) c.summands ≡ summed →
        All (λ s. s.denominator ≡ denominators s.name) c.summands →
        IsOfSupport c → IsRelation a generators c → c.telescoper ≡ no_operator
