-- Bounds that the steps of a product keep.
--     IsCapped v r         r is v, or nothing where v passes the largest norm
--     EachWithin b d ts    in each term symbols of total at most b, names of total at most d, and a number that is not 0
--     CanRaise             what raising the symbols of a name asks of a list
--     CanExpand            what a product of symbols asks of one
--     CanScale             what multiplying a list by a polynomial asks of both
--     CanMultiply          what a product asks of the terms of the left factor and the list of the right one
use Rattle.std.specs.Prelude.{◌≡◌, ℕ, ◌+◌, ◌*◌, ◌<◌, ◌≤◌, nat_abs, List, [], ◌∷◌, MatchOption, ℤ}
use Rattle.std.proofs.Common.{Option}
use Rattle.ct_algebra.specs.Monomial.{Mono, monomials, total}
use Rattle.ct_algebra.specs.Names.{Name}
use Rattle.ct_algebra.specs.Terms.{EachTerm, IsCanonical}
use Rattle.ct_algebra.specs.Polynomial.{Polynomial, degree, norm, norm_of}
use Rattle.ct_algebra.specs.WholeNumbers.{int_group}
use Rattle.ct_algebra.specs.Actions.{Action}
use Rattle.ct_checked.specs.Limits.{largest_degree, largest_norm}
use Rattle.ct_ore.specs.declared.coefficient_term.CoefficientTerm.{CoefficientTerm}
use Rattle.ct_ore.specs.CoefficientTerms.{size_of, IsWritten}
use Rattle.ct_ore.specs.AllNames.{total_below}
use Rattle.ct_ore.specs.PairTerms.{raised, expanded_below, expanded, product_terms}

abbrev pub IsCapped : ℕ → Option ℕ → Type 0
IsCapped v r = MatchOption r (largest_norm < v) (λ x. (x ≡ v) × (x ≤ largest_norm))

pub record Within (b d : ℕ) (t : CoefficientTerm) : Type 0 where
  pub symbols : total t.symbols ≤ b
  pub names : total t.names ≤ d
  pub some : 0 < nat_abs t.number

abbrev pub EachWithin : ℕ → ℕ → List CoefficientTerm → Type 0
EachWithin b d [] = Unit {0}
EachWithin b d (t ∷ ts) = Within b d t × EachWithin b d ts

pub record CanRaise (t : Action) (i k : ℕ) (ts : List CoefficientTerm) : Type 0 where
  pub order : ℕ
  pub room : order + k ≤ largest_degree
  pub each : EachWithin order largest_degree ts
  pub small : size_of (raised t i k ts) ≤ largest_norm

-- what the symbols of the names below n ask
pub record CanExpandBelow (a : Name → Action) (n : ℕ) (m : Mono) (ts : List CoefficientTerm) : Type 0 where
  pub order : ℕ
  pub room : order + total_below n m ≤ largest_degree
  pub each : EachWithin order largest_degree ts
  pub small : size_of (expanded_below a n m ts) ≤ largest_norm

pub record CanExpand (a : Name → Action) (m : Mono) (ts : List CoefficientTerm) : Type 0 where
  pub order : ℕ
  pub room : order + total m ≤ largest_degree
  pub each : EachWithin order largest_degree ts
  pub small : size_of (expanded a m ts) ≤ largest_norm

pub record CanScale (us : List (Mono × ℤ)) (ts : List CoefficientTerm) : Type 0 where
  pub names : ℕ
  pub order : ℕ
  pub rooms : EachTerm (λ n x. total n + names ≤ largest_degree) us
  pub falls : IsCanonical monomials int_group us
  pub each : EachWithin order names ts
  pub written : IsWritten ts
  pub small : norm_of us * size_of ts ≤ largest_norm

-- a sum of measures on the way: what is summed so far, and what is left of all
pub record IsSumming (all left : ℕ) (r : Option ℕ) : Type 0 where
  pub done : ℕ
  pub capped : IsCapped done r
  pub rest : done + left ≡ all

-- symbols and names of the left factor, beside those of the right one
pub record HasRoom (order names : ℕ) (m : Mono) (c : Polynomial) : Type 0 where
  pub symbols : total m + order ≤ largest_degree
  pub degrees : degree c + names ≤ largest_degree
  pub some : 0 < norm c

pub record CanMultiply (a : Name → Action) (es : List (Mono × Polynomial)) (ts : List CoefficientTerm) : Type 0 where
  pub order : ℕ
  pub names : ℕ
  pub within : names ≤ largest_degree
  pub rooms : EachTerm (HasRoom order names) es
  pub each : EachWithin order names ts
  pub written : IsWritten ts
  pub small : size_of (product_terms a es ts) ≤ largest_norm
