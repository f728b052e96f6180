-- Leading terms of polynomials and of operators: the first of the terms, whose keys fall.
--     leading es               the first term of a list, or none
--     Leads O G p m c          m is the greatest key of the sum p, and c its value
--     OperatorLeads p m c      the same of an operator: its leading monomial and leading coefficient
--     LeadingDivides g m       the leading monomial of g divides m
--     IsIrreducible gs m       no leading monomial of gs divides m
--     IsReduced gs p           each monomial of p is irreducible
-- Zero has no leading term: it divides nothing.
use Rattle.std.specs.Prelude.{◌≡◌, ◌≢◌, Option, None, Some, List, [], ◌∷◌}
use Rattle.std.specs.List.{All}
use Rattle.ct_algebra.specs.Group.{Group}
use Rattle.ct_algebra.specs.Terms.{Keys}
use Rattle.ct_algebra.specs.Sums.{Sum}
use Rattle.ct_algebra.specs.Monomial.{Mono, ◌·◌, monomials}
use Rattle.ct_algebra.specs.Polynomial.{Polynomial, polys}
use Rattle.ct_algebra.specs.Operators.{Operator, polynomial_at}

-- the first term, if there is one
abbrev pub leading : {M A : Type 0} → List (M × A) → Option (M × A)
leading [] = None
leading (e ∷ es) = Some e

module _ {M A : Type 0} (O : Keys M) (G : Group A) where
  -- the sum has this term first
  pub record Leads (p : Sum O G) (m : M) (c : A) : Type 0 where
    pub rest : List (M × A)
    pub is_first : p.terms ≡ (m, c) ∷ rest

-- the same of an operator
abbrev pub OperatorLeads : Operator → Mono → Polynomial → Type 0
OperatorLeads p m c = Leads monomials polys.group p m c

-- some monomial times its leading monomial is m
pub record LeadingDivides (g : Operator) (m : Mono) : Type 0 where
  pub mono : Mono
  pub coef : Polynomial
  pub leads : OperatorLeads g mono coef
  pub quotient : Mono
  pub product : quotient · mono ≡ m

-- no leading monomial of the list divides m
abbrev pub IsIrreducible : List Operator → Mono → Type 0
IsIrreducible generators m = All (λ g. ¬ LeadingDivides g m) generators

-- nor any monomial of p
abbrev pub IsReduced : List Operator → Operator → Type 0
IsReduced generators p = (m : Mono) → polynomial_at p m ≢ polys.zero → IsIrreducible generators m
