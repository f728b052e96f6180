-- The steps of a reduction keep its identity. Main lemmas `start_reduces`, `step_reduces`: scale·p is the combination of
-- the cofactors with the generators, plus the rest, with a nonzero scale. Cited by `ReductionMeans`.
use Rattle.ct_reduce.proofs.Base.{◌≡◌, ◌≢◌, ℕ, zero, suc, ◌<◌, List, [], ◌∷◌, map, length, get_or, refl, Ok, Some, Option, None, sym, ◌∙◌, ap, ap₂}
use Rattle.ct_reduce.proofs.Base.{arith, length-map, add_left_comm, zero_add, IsCanonical, not_zero, leading, Mono, monomials, Name, Polynomial}
use Rattle.ct_reduce.proofs.Base.{polys, polys_domain, times_is, Action, Operator, operator_group, no_operator, sum_of_operators, negative}
use Rattle.ct_reduce.proofs.Base.{product_of, product_of-sum_left, multiple, combination, Reduction, IsMember, ReducesTo, multiple-sum}
use Rattle.ct_reduce.proofs.Base.{multiple-multiple, multiple-one, multiple-product_of, multiple-no_operator, no_operator-product_of}
use Rattle.ct_algebra.specs.Domain.{product_nonzero}
use Rattle.ct_algebra.proofs.OperatorTerms.{sums_are, none_is, negatives_are}
use Rattle.ct_reduce.specs.Reduction.{Reducible, Step, leading_coefficient, factor_for, step_for, no_cofactors, start, checked_step}
use Rattle.ct_reduce.specs.Reduction.{greatest_reducible}
use Rattle.ct_reduce.proofs.FirstReducers.{found_is_first}
use Rattle.ct_reduce.proofs.Searching.{found}
use Rattle.ct_reduce.proofs.StepValues.{Multiplied, Taken, moved, step_is}
use lib.ListN.{set, length-set}

-- ---- sums of operators

infixl 60 ◌⊕◌
abbrev ◌⊕◌ : Operator → Operator → Operator
p ⊕ q = operator_group.◌+◌ p q

with_none : (p : Operator) → sum_of_operators no_operator p ≡ p
with_none p = sums_are _ _ ∙ ap (λ z. z ⊕ p) none_is ∙ zero_add operator_group p

none_with : (p : Operator) → sum_of_operators p no_operator ≡ p
none_with p = sums_are _ _ ∙ ap (λ z. p ⊕ z) none_is ∙ operator_group.add_zero p

-- x goes from the second summand to the first
moved_over :
    (c r x : Operator) →
    sum_of_operators c r ≡ sum_of_operators (sum_of_operators c x) (sum_of_operators r (negative x))
moved_over c r x =
    sums_are c r ∙ sym balance
    ∙ sym (sums_are _ _ ∙ ap₂ ◌⊕◌ (sums_are c x) (sums_are r _ ∙ ap (λ w. r ⊕ w) (negatives_are x)))
  where
    balance : (c ⊕ x) ⊕ (r ⊕ operator_group.neg x) ≡ c ⊕ r
    balance =
        operator_group.add_assoc c x _
        ∙ ap (λ w. c ⊕ w) (add_left_comm operator_group x r (operator_group.neg x)
        ∙ ap (λ w. r ⊕ w) (operator_group.add_neg x) ∙ operator_group.add_zero r)

-- the last two of three summands change places
changed : (x y z : Operator) → sum_of_operators (sum_of_operators x y) z ≡ sum_of_operators (sum_of_operators x z) y
changed x y z =
    sums_are _ _ ∙ ap (λ w. w ⊕ z) (sums_are x y) ∙ operator_group.add_assoc x y z
    ∙ ap (λ w. x ⊕ w) (operator_group.add_comm y z) ∙ sym (operator_group.add_assoc x z y)
    ∙ sym (sums_are _ _ ∙ ap (λ w. w ⊕ y) (sums_are x z))

grouped : (x y z : Operator) → sum_of_operators x (sum_of_operators y z) ≡ sum_of_operators (sum_of_operators x y) z
grouped x y z =
    sums_are _ _ ∙ ap (λ w. x ⊕ w) (sums_are y z) ∙ sym (operator_group.add_assoc x y z)
    ∙ sym (sums_are _ _ ∙ ap (λ w. w ⊕ z) (sums_are x y))

-- ---- the factor of a step

pub leading_nonzero : (p : Operator) → leading_coefficient (leading p.terms) ≢ polys.zero
leading_nonzero p = by p.terms p.canonical
  where
    by :
        (es : List (Mono × Polynomial)) → IsCanonical monomials polys.group es →
        leading_coefficient (leading es) ≢ polys.zero
    by [] canonical = polys_domain.proper
    by (e ∷ es) canonical = not_zero monomials polys.group e.1 canonical.0

factor_nonzero : (l : Polynomial) (o : Option Polynomial) → l ≢ polys.zero → factor_for l o ≢ polys.zero
factor_nonzero l None nonzero = nonzero
factor_nonzero l (Some q) nonzero = polys_domain.proper

module _ (a : Name → Action) where
  -- ---- combinations

  no_combination : (gs hs : List Operator) → combination a (no_cofactors gs) hs ≡ no_operator
  no_combination [] hs = refl
  no_combination (g ∷ gs) [] = refl
  no_combination (g ∷ gs) (h ∷ hs) =
      ap₂ sum_of_operators (no_operator-product_of a h) (no_combination gs hs) ∙ with_none no_operator

  multiple-combination :
      (m : Polynomial) (cs gs : List Operator) →
      multiple a m (combination a cs gs) ≡ combination a (map (multiple a m) cs) gs
  multiple-combination m [] gs = multiple-no_operator a m
  multiple-combination m (c ∷ cs) [] = multiple-no_operator a m
  multiple-combination m (c ∷ cs) (g ∷ gs) =
      multiple-sum a m _ _
      ∙ ap₂ sum_of_operators (sym (multiple-product_of a m c g)) (multiple-combination m cs gs)

  combination-set :
      (cs gs : List Operator) (k : ℕ) (t : Operator) → k < length cs → k < length gs →
      combination a (set cs k (sum_of_operators (get_or cs k no_operator) t)) gs ≡
      sum_of_operators (combination a cs gs) (product_of a t (get_or gs k no_operator))
  combination-set [] gs k t small also = absurd (omega arith)
  combination-set (c ∷ cs) [] k t small also = absurd (omega arith)
  combination-set (c ∷ cs) (g ∷ gs) zero t small also =
      ap (λ w. sum_of_operators w (combination a cs gs)) (product_of-sum_left a c t g)
      ∙ changed (product_of a c g) (product_of a t g) (combination a cs gs)
  combination-set (c ∷ cs) (g ∷ gs) (suc k) t small also =
      ap (sum_of_operators (product_of a c g)) (combination-set cs gs k t (omega arith) (omega arith))
      ∙ grouped (product_of a c g) (combination a cs gs) (product_of a t (get_or gs k no_operator))

  -- ---- the identity

  module _ (generators : List Operator) (p : Operator) where
    pub start_reduces : ReducesTo a generators p (start generators p)
    start_reduces = record {
      scale_nonzero = polys_domain.proper;
      cofactors_fit = length-map generators (λ g. no_operator);
      identity =
          multiple-one a p
          ∙ sym (ap (λ c. sum_of_operators c p) (no_combination generators generators) ∙ with_none p);
    }

    pub multiplied_reduces :
        (m : Polynomial) (s t : Reduction) → m ≢ polys.zero → Multiplied a m s t → ReducesTo a generators p s →
        ReducesTo a generators p t
    multiplied_reduces m s t nonzero w r = record {
      scale_nonzero = λ none.
          product_nonzero polys polys_domain m s.scale nonzero r.scale_nonzero (sym (w.scale_is ∙ times_is m s.scale) ∙ none);
      cofactors_fit = ap length w.cofactors_are ∙ length-map s.cofactors (multiple a m) ∙ r.cofactors_fit;
      identity =
          ap (λ n. multiple a n p) w.scale_is ∙ multiple-multiple a m s.scale p ∙ ap (multiple a m) r.identity
          ∙ multiple-sum a m _ _
          ∙ ap₂ sum_of_operators (multiple-combination m s.cofactors generators ∙ ap (λ cs. combination a cs generators) (sym w.cofactors_are))
          (sym w.rest_is);
    }

    pub taken_reduces :
        (u : Step) (s t : Reduction) → u.place < length generators → get_or generators u.place no_operator ≡ u.generator →
        Taken a u s t → ReducesTo a generators p s → ReducesTo a generators p t
    taken_reduces u s t known there w r = record {
      scale_nonzero = λ none. r.scale_nonzero (sym w.scale_is ∙ none);
      cofactors_fit = ap length w.cofactors_are ∙ length-set s.cofactors u.place _ ∙ r.cofactors_fit;
      identity =
          ap (λ n. multiple a n p) w.scale_is ∙ r.identity
          ∙ moved_over (combination a s.cofactors generators) s.rest (product_of a u.part u.generator)
          ∙ ap₂ sum_of_operators combined (sym w.rest_is);
    }
      where
        small : u.place < length s.cofactors
        small = let fit = r.cofactors_fit in omega arith

        combined :
            sum_of_operators (combination a s.cofactors generators) (product_of a u.part u.generator) ≡
            combination a t.cofactors generators
        combined =
            ap (λ g. sum_of_operators (combination a s.cofactors generators) (product_of a u.part g)) (sym there)
            ∙ sym (combination-set s.cofactors generators u.place u.part small known)
            ∙ ap (λ cs. combination a cs generators) (sym w.cofactors_are)

  -- ---- one step

  pub step_reduces :
      (generators : List Operator) (p : Operator) (s t : Reduction) (h : Reducible) →
      greatest_reducible generators s ≡ Some h → checked_step a h s ≡ Ok t → ReducesTo a generators p s →
      ReducesTo a generators p t
  step_reduces generators p s t h is stepped r =
      let w = step_is a h s t stepped in
      let there = found_is_first h.mono generators h.reducer (found generators s.rest.terms h s.rest.canonical is).reduces in
      taken_reduces generators p (step_for h (moved a h)) w.middle t there.known there.is_there w.second
      (multiplied_reduces generators p (step_for h (moved a h)).factor s w.middle (factor_nonzero _ _ (leading_nonzero (moved a h))) w.first r)

  -- ---- a rest of zero

  pub zero_is_member :
      (generators : List Operator) (p : Operator) (r : Reduction) → ReducesTo a generators p r → r.rest ≡ no_operator →
      IsMember a generators p
  zero_is_member generators p r w none = record {
    scale = r.scale;
    cofactors = r.cofactors;
    scale_nonzero = w.scale_nonzero;
    cofactors_fit = w.cofactors_fit;
    identity = w.identity ∙ ap (sum_of_operators (combination a r.cofactors generators)) none ∙ none_with _;
  }
