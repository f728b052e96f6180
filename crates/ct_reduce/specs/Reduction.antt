-- Left reduction of an operator by generators, as a checked loop (this project's own choice of steps).
--     Reducer                a generator, its place in the list, and the symbols that take its leading monomial to another
--     first_reducer m gs     the first of the generators whose leading monomial divides m, or none
--     Reducible              a monomial of an operator with its coefficient, and its reducer
--     first_reducible gs es  the first of falling terms whose monomial has a reducer, or none
--     greatest_reducible gs s     that of the rest: its greatest monomial with a reducer
--     Step                   what a step does: the factor m of the whole reduction, and the part a'·τ of a generator
--     checked_plan           τ∘g, and the step that it asks for
--     checked_multiplied     the rest, the scale and the cofactors in order, times a polynomial from the left
--     checked_taken          the part's product with the generator is taken from the rest, and the part added to the cofactor
--     multiplied_unless_one  the same, where a factor 1 multiplies nothing
--     reduction_from, reduction_turn      all further steps; the next one and all behind it
--     checked_reduction a gs p     all steps, from the scale 1, cofactors 0 and the rest p
-- Where the leading coefficient l of τ∘g divides the coefficient, the factor is 1 and a' the quotient; else the factor is l,
-- and a' the coefficient. A division that overflows counts as not dividing. A polynomial times an operator is the product of
-- operators. What the search finds is said once more by ReductionLaws, and what a reduction shows by Membership of ct_algebra.
use Rattle.std.specs.Prelude.{ℕ, zero, suc, ◌+◌, Ok, None, Some, List, [], ◌∷◌, ◌++◌, map, cond, Bool, get_or}
use Rattle.std.proofs.Common.{Option}
use lib.ListN.{set}
use Rattle.ct_algebra.specs.Leading.{leading}
use Rattle.ct_algebra.specs.Monomial.{Mono, unit}
use Rattle.ct_algebra.specs.Names.{Name}
use Rattle.ct_algebra.specs.Polynomial.{Polynomial, polys}
use Rattle.ct_algebra.specs.Actions.{Action}
use Rattle.ct_algebra.specs.Operators.{Operator, term_of, no_operator}
use Rattle.ct_algebra.specs.Membership.{Reduction}
use Rattle.ct_checked.specs.Checked.{Checked, ◌>>=◌}
use Rattle.ct_mono.specs.Division.{over}
use Rattle.ct_checked.specs.Loop.{run, turn}
use Rattle.ct_mono.specs.Rank.{mono_rank}
use Rattle.ct_poly.specs.Division.{quotient}
use Rattle.ct_poly.specs.Measures.{checked_times}
use Rattle.ct_ore.specs.Measures.{checked_sum, checked_difference, checked_product}

-- ---- what is reduced next

pub record Reducer : Type 0 where
  pub place : ℕ
  pub generator : Operator
  pub symbols : Mono

pub record Reducible : Type 0 where
  pub mono : Mono
  pub coef : Polynomial
  pub reducer : Reducer

abbrev pub or_later : {X : Type 0} → Option X → Option X → Option X
or_later (Some x) later = Some x
or_later None later = later

-- a monomial over a leading monomial
abbrev pub over_leading : Mono → Option (Mono × Polynomial) → Option Mono
over_leading m None = None
over_leading m (Some e) = over m e.0

abbrev pub reducer_by : ℕ → Operator → Option Mono → Option Reducer
reducer_by place g None = None
reducer_by place g (Some t) = Some (record { place = place; generator = g; symbols = t })

-- the places counted from a number on
abbrev pub first_reducer_from : ℕ → Mono → List Operator → Option Reducer
first_reducer_from place m [] = None
first_reducer_from place m (g ∷ gs) =
    or_later (reducer_by place g (over_leading m (leading g.terms))) (first_reducer_from (place + 1) m gs)

abbrev pub first_reducer : Mono → List Operator → Option Reducer
first_reducer m generators = first_reducer_from 0 m generators

abbrev pub reducible_by : Mono × Polynomial → Option Reducer → Option Reducible
reducible_by e None = None
reducible_by e (Some r) = Some (record { mono = e.0; coef = e.1; reducer = r })

-- terms fall, so the first that has a reducer is the greatest
abbrev pub first_reducible : List Operator → List (Mono × Polynomial) → Option Reducible
first_reducible generators [] = None
first_reducible generators (e ∷ es) =
    or_later (reducible_by e (first_reducer e.0 generators)) (first_reducible generators es)

abbrev pub greatest_reducible : List Operator → Reduction → Option Reducible
greatest_reducible generators s = first_reducible generators s.rest.terms

-- it falls in each step, since the greatest reducible monomial does
abbrev pub reducible_rank : Option Reducible → ℕ
reducible_rank None = zero
reducible_rank (Some h) = suc (mono_rank h.mono)

unfoldable pub reduction_rank : List Operator → Reduction → ℕ
reduction_rank generators s = reducible_rank (greatest_reducible generators s)

-- ---- one step

pub record Step : Type 0 where
  pub factor : Polynomial
  pub part : Operator
  pub place : ℕ
  pub generator : Operator

-- the leading coefficient; 1 where there is none
abbrev pub leading_coefficient : Option (Mono × Polynomial) → Polynomial
leading_coefficient None = polys.one
leading_coefficient (Some e) = e.1

-- the factor and a', where l is the leading coefficient and the coefficient over l is given
abbrev pub factor_for : Polynomial → Option Polynomial → Polynomial
factor_for l None = l
factor_for l (Some q) = polys.one

abbrev pub share_for : Polynomial → Option Polynomial → Polynomial
share_for c None = c
share_for c (Some q) = q

abbrev pub step_by : Reducible → Polynomial → Option Polynomial → Step
step_by h l q = record {
  factor = factor_for l q;
  part = term_of h.reducer.symbols (share_for h.coef q);
  place = h.reducer.place;
  generator = h.reducer.generator;
}

-- the step, where the symbols before the generator are given
abbrev pub step_for : Reducible → Operator → Step
step_for h moved =
    step_by h (leading_coefficient (leading moved.terms)) (quotient h.coef (leading_coefficient (leading moved.terms)))

unfoldable pub is_one : Polynomial → Bool
is_one p = polys.is_zero (polys.◌+◌ p (polys.neg polys.one))

-- no cofactors: a zero for each generator
abbrev pub no_cofactors : List Operator → List Operator
no_cofactors generators = map (λ g. no_operator) generators

abbrev pub start : List Operator → Operator → Reduction
start generators p = record { scale = polys.one; cofactors = no_cofactors generators; rest = p }

module _ (a : Name → Action) where
  unfoldable pub checked_plan : Reducible → Checked Step
  checked_plan h = do
    moved ← checked_product a (term_of h.reducer.symbols polys.one) h.reducer.generator
    Ok (step_for h moved)

  -- each operator times m, behind those that are done
  abbrev pub checked_multiples : Operator → List Operator → List Operator → Checked (List Operator)
  checked_multiples m done [] = Ok done
  checked_multiples m done (c ∷ cs) = checked_product a m c >>= (λ p. checked_multiples m (done ++ p ∷ []) cs)

  unfoldable pub checked_multiplied : Polynomial → Reduction → Checked Reduction
  checked_multiplied m s = do
    rest ← checked_product a (term_of unit m) s.rest
    scale ← checked_times m s.scale
    cofactors ← checked_multiples (term_of unit m) [] s.cofactors
    Ok (record { scale = scale; cofactors = cofactors; rest = rest })

  unfoldable pub multiplied_unless_one : Polynomial → Reduction → Checked Reduction
  multiplied_unless_one m s = cond (is_one m) (Ok s) (checked_multiplied m s)

  unfoldable pub checked_taken : Step → Reduction → Checked Reduction
  checked_taken p s = do
    taken ← checked_product a p.part p.generator
    rest ← checked_difference s.rest taken
    cofactor ← checked_sum (get_or s.cofactors p.place no_operator) p.part
    Ok (record { scale = s.scale; cofactors = set s.cofactors p.place cofactor; rest = rest })

  abbrev pub checked_step : Reducible → Reduction → Checked Reduction
  checked_step h s = do
    plan ← checked_plan h
    multiplied ← multiplied_unless_one plan.factor s
    checked_taken plan multiplied

  -- ---- all steps

  unfoldable pub reduction_from : List Operator → Reduction → Checked Reduction
  reduction_from generators s =
      run (reduction_rank generators) (greatest_reducible generators) checked_step s

  -- the same with its next turn laid open
  abbrev pub reduction_turn : List Operator → Reduction → Checked Reduction
  reduction_turn generators s =
      turn (reduction_rank generators) (greatest_reducible generators) checked_step
      (reduction_from generators) s (greatest_reducible generators s)

  abbrev pub checked_reduction : List Operator → Operator → Checked Reduction
  checked_reduction generators p = reduction_from generators (start generators p)
