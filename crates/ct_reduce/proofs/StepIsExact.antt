-- A checked step in the words of ReductionLaws. Main lemma `exact_step`.
use Rattle.ct_reduce.proofs.Base.{◌≡◌, ℕ, zero, suc, ◌<◌, None, Some, List, [], ◌∷◌, map, length, get_or, refl, MatchOption, Option, sym, ◌∙◌, ap}
use Rattle.ct_reduce.proofs.Base.{subst, arith, length-map, get_or-set_same, get_or-set_other, leading, OperatorLeads, monomials, Name, Polynomial}
use Rattle.ct_reduce.proofs.Base.{polys, Action, Operator, no_operator, sum_of_operators, negative, term_of, product_of, multiple}
use Rattle.ct_reduce.proofs.Base.{multiple-no_operator, leading-Leads, quotient}
use Rattle.ct_reduce.specs.Reduction.{leading_coefficient, factor_for, share_for, first_reducer}
use Rattle.ct_reduce.specs.ReductionLaws.{EachStepIsExact}
use Rattle.ct_reduce.proofs.FirstReducers.{found_is_first}
use Rattle.ct_reduce.proofs.Searching.{found}
use Rattle.ct_reduce.proofs.StepValues.{moved, Stepped, step_is}
use Rattle.ct_reduce.proofs.ReductionEnds.{moved_leads, balanced}

each_multiple :
    (a : Name → Action) (m : Polynomial) (cs : List Operator) (k : ℕ) →
    get_or (map (multiple a m) cs) k no_operator ≡ multiple a m (get_or cs k no_operator)
each_multiple a m [] k = sym (multiple-no_operator a m)
each_multiple a m (c ∷ cs) zero = refl
each_multiple a m (c ∷ cs) (suc k) = each_multiple a m cs k

chosen_for :
    (c l : Polynomial) (o : Option Polynomial) →
    MatchOption o ((factor_for l o ≡ l) × (share_for c o ≡ c)) (λ q. (factor_for l o ≡ polys.one) × (share_for c o ≡ q))
chosen_for c l None = (refl, refl)
chosen_for c l (Some q) = (refl, refl)

pub exact_step : EachStepIsExact
exact_step a generators s t h fit is stepped = record {
  factor = m;
  share = x;
  lead = l;
  leads = subst (OperatorLeads (moved a h) h.mono) (sym l_is) leads.1;
  chosen = chosen_for h.coef l (quotient h.coef l);
  balanced = balanced a h.coef l (quotient h.coef l) refl;
  scale_is = w.second.scale_is ∙ w.first.scale_is;
  cofactor_is =
      ap (λ cs. get_or cs h.reducer.place no_operator) w.second.cofactors_are
      ∙ get_or-set_same w.middle.cofactors h.reducer.place _ no_operator small
      ∙ ap (λ c. sum_of_operators c (term_of h.reducer.symbols x)) (multiplied h.reducer.place);
  other_cofactors = λ k other.
      ap (λ cs. get_or cs k no_operator) w.second.cofactors_are
      ∙ get_or-set_other w.middle.cofactors h.reducer.place k _ no_operator other ∙ multiplied k;
  rest_is =
      w.second.rest_is
      ∙ ap (λ p. sum_of_operators p (negative (product_of a (term_of h.reducer.symbols x) h.reducer.generator))) w.first.rest_is;
}
  where
    w : Stepped a h s t
    w = step_is a h s t stepped

    reduces : first_reducer h.mono generators ≡ Some h.reducer
    reduces = (found generators s.rest.terms h s.rest.canonical is).reduces

    leads : (d : Polynomial) × OperatorLeads (moved a h) h.mono d
    leads = moved_leads a generators h reduces

    l : Polynomial
    l = leading_coefficient (leading (moved a h).terms)

    l_is : l ≡ leads.0
    l_is = ap leading_coefficient (leading-Leads monomials polys.group (moved a h) h.mono leads.0 leads.1)

    m : Polynomial
    m = factor_for l (quotient h.coef l)

    x : Polynomial
    x = share_for h.coef (quotient h.coef l)

    multiplied : (k : ℕ) → get_or w.middle.cofactors k no_operator ≡ multiple a m (get_or s.cofactors k no_operator)
    multiplied k = ap (λ cs. get_or cs k no_operator) w.first.cofactors_are ∙ each_multiple a m s.cofactors k

    small : h.reducer.place < length w.middle.cofactors
    small =
        let known = (found_is_first h.mono generators h.reducer reduces).known in
        let long = ap length w.first.cofactors_are in
        let kept = length-map s.cofactors (multiple a m) in omega arith
