-- What the laws of left reduction say; the functions of src/laws.rt prove them.
--     IsFirstReducer m gs r         r's generator stands at its place, its leading monomial times r's symbols is m, and no
--                                   leading monomial of a generator before it divides m
--     IsGreatestReducible gs p h    h is a term of p with a reducer, and no greater monomial of p has one
--     FirstReducerIsFirst           `first_reducer` finds it, or no leading monomial divides
--     GreatestReducibleIsGreatest   `greatest_reducible` finds it, or the rest is reduced
--     IsStep a h s t                all of s is multiplied by a factor, and a multiple of h's generator taken from the rest
--     EachStepIsExact               a checked step, where it fits, is one
--     EachStepFalls                 what is reducible after a step has a smaller monomial, so a reduction ends by itself
--     ReductionGoesByTurns          a reduction is its first step and then the rest of the reduction
--     RestZeroIsMember              an operator that reduces to zero is a member
use Rattle.std.specs.Prelude.{◌≡◌, ◌≢◌, ℕ, ◌<◌, Ok, Some, List, length, get_or, MatchOption}
use Rattle.std.specs.declared.cmp.Ordering.TheVariants.{Less}
use Rattle.ct_algebra.specs.Leading.{OperatorLeads, LeadingDivides, IsIrreducible, IsReduced}
use Rattle.ct_algebra.specs.Monomial.{Mono, mono_cmp, ◌·◌}
use Rattle.ct_algebra.specs.Names.{Name}
use Rattle.ct_algebra.specs.Polynomial.{Polynomial, polys, times}
use Rattle.ct_algebra.specs.Actions.{Action}
use Rattle.ct_algebra.specs.Operators.{Operator, polynomial_at, no_operator, sum_of_operators, negative, term_of, product_of, multiple}
use Rattle.ct_algebra.specs.Membership.{Reduction, IsMember, ReducesTo}
use Rattle.ct_poly.specs.Division.{quotient}
use Rattle.ct_reduce.specs.Reduction.{Reducer, Reducible, first_reducer, greatest_reducible, checked_step, reduction_from, reduction_turn}

pub record IsFirstReducer (m : Mono) (generators : List Operator) (r : Reducer) : Type 0 where
  pub known : r.place < length generators
  pub is_there : get_or generators r.place no_operator ≡ r.generator
  pub mono : Mono
  pub coef : Polynomial
  pub leads : OperatorLeads r.generator mono coef
  pub divides : r.symbols · mono ≡ m
  pub none_before : (k : ℕ) → k < r.place → ¬ LeadingDivides (get_or generators k no_operator) m

pub record IsGreatestReducible (generators : List Operator) (p : Operator) (h : Reducible) : Type 0 where
  pub coef_is : polynomial_at p h.mono ≡ h.coef
  pub coef_nonzero : h.coef ≢ polys.zero
  pub reduced_by : IsFirstReducer h.mono generators h.reducer
  pub none_above :
      (m : Mono) → mono_cmp h.mono m ≡ Less → polynomial_at p m ≢ polys.zero → IsIrreducible generators m

-- l leads τ∘g at the monomial that is reduced; the factor and the share are 1 and the quotient by l, where l divides the
-- coefficient, or else l and the coefficient
pub record IsStep (a : Name → Action) (h : Reducible) (s t : Reduction) : Type 0 where
  pub factor : Polynomial
  pub share : Polynomial
  pub lead : Polynomial
  pub leads : OperatorLeads (product_of a (term_of h.reducer.symbols polys.one) h.reducer.generator) h.mono lead
  pub chosen :
      MatchOption (quotient h.coef lead) ((factor ≡ lead) × (share ≡ h.coef)) (λ q. (factor ≡ polys.one) × (share ≡ q))
  pub balanced : times factor h.coef ≡ times share lead
  pub scale_is : t.scale ≡ times factor s.scale
  pub cofactor_is :
      get_or t.cofactors h.reducer.place no_operator ≡
      sum_of_operators (multiple a factor (get_or s.cofactors h.reducer.place no_operator)) (term_of h.reducer.symbols share)
  pub other_cofactors :
      (k : ℕ) → k ≢ h.reducer.place →
      get_or t.cofactors k no_operator ≡ multiple a factor (get_or s.cofactors k no_operator)
  pub rest_is :
      t.rest ≡
      sum_of_operators (multiple a factor s.rest) (negative (product_of a (term_of h.reducer.symbols share) h.reducer.generator))

abbrev pub FirstReducerIsFirst : Type 0
FirstReducerIsFirst =
    (m : Mono) (generators : List Operator) →
    MatchOption (first_reducer m generators) (IsIrreducible generators m) (IsFirstReducer m generators)

abbrev pub GreatestReducibleIsGreatest : Type 0
GreatestReducibleIsGreatest =
    (generators : List Operator) (s : Reduction) →
    MatchOption (greatest_reducible generators s) (IsReduced generators s.rest) (IsGreatestReducible generators s.rest)

abbrev pub EachStepIsExact : Type 0
EachStepIsExact =
    (a : Name → Action) (generators : List Operator) (s t : Reduction) (h : Reducible) →
    length s.cofactors ≡ length generators → greatest_reducible generators s ≡ Some h → checked_step a h s ≡ Ok t →
    IsStep a h s t

abbrev pub EachStepFalls : Type 0
EachStepFalls =
    (a : Name → Action) (generators : List Operator) (s t : Reduction) (h k : Reducible) →
    greatest_reducible generators s ≡ Some h → checked_step a h s ≡ Ok t → greatest_reducible generators t ≡ Some k →
    mono_cmp k.mono h.mono ≡ Less

abbrev pub ReductionGoesByTurns : Type 0
ReductionGoesByTurns =
    (a : Name → Action) (generators : List Operator) (s : Reduction) →
    reduction_from a generators s ≡ reduction_turn a generators s

abbrev pub RestZeroIsMember : Type 0
RestZeroIsMember =
    (a : Name → Action) (generators : List Operator) (p : Operator) (r : Reduction) →
    ReducesTo a generators p r → r.rest ≡ no_operator → IsMember a generators p
