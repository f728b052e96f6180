-- Each step takes the greatest reducible monomial away, so a reduction ends. Main lemmas `step_falls`, `falls`,
-- `reduction_is`: the symbols before a generator have the monomial that is reduced for their leading monomial, so at it the
-- difference is zero, and above it nothing changes but by a factor. Cited by `ReductionMeans`, the laws and the code's loop.
use Rattle.ct_reduce.proofs.Base.{◌≡◌, ◌<◌, None, Some, Ok, List, ◌∷◌, refl, T, Option, sym, ◌∙◌, ap, ap₂, subst, arith, inl, inr, Ordering, Less}
use Rattle.ct_reduce.proofs.Base.{Equal, Greater, mul_zero, one_mul, IsCanonical, is_less, at_head, at_below, AllBelow_trans, at, leading}
use Rattle.ct_reduce.proofs.Base.{OperatorLeads, Mono, monomials, mono_cmp, mono_tied, mono_turned_back, Name, Polynomial, polys, plus, plus_is}
use Rattle.ct_reduce.proofs.Base.{times, times_is, Action, Operator, polynomial_at, sum_of_operators, negative, term_of, product_of, multiple}
use Rattle.ct_reduce.proofs.Base.{Reduction, multiple-product_of, leading-Leads, quotient}
use Rattle.ct_algebra.proofs.OperatorLawProofs.{finite_maps}
use Rattle.ct_algebra.proofs.OperatorTerms.{at-multiple}
use Rattle.ct_algebra.proofs.ProductRule.{multiple-one_term}
use Rattle.ct_algebra.proofs.ShiftedLeading.{shifted_leads}
use Rattle.ct_checked.specs.Loop.{Falls, run_is}
use Rattle.ct_mono.specs.Rank.{rank-less}
use Rattle.ct_poly.proofs.DivisionLaws.{quotient_is}
use Rattle.ct_reduce.specs.Reduction.{Reducible, leading_coefficient, factor_for, share_for, greatest_reducible, first_reducer, checked_step}
use Rattle.ct_reduce.specs.Reduction.{reducible_rank, reduction_rank, reduction_from, reduction_turn}
use Rattle.ct_reduce.proofs.FirstReducers.{stands, over_leading_some}
use Rattle.ct_reduce.proofs.Searching.{value, IsDone, Found, found}
use Rattle.ct_reduce.proofs.StepValues.{moved, step_is}

-- ---- polynomials

times_zero : (p : Polynomial) → times p polys.zero ≡ polys.zero
times_zero p = times_is p polys.zero ∙ mul_zero polys p

times_comm : (p q : Polynomial) → times p q ≡ times q p
times_comm p q = times_is p q ∙ polys.mul_comm p q ∙ sym (times_is q p)

one_times : (p : Polynomial) → times polys.one p ≡ p
one_times p = times_is polys.one p ∙ one_mul polys p

cancels : (p q : Polynomial) → p ≡ q → plus p (polys.neg q) ≡ polys.zero
cancels p q same = plus_is p (polys.neg q) ∙ ap (λ w. polys.◌+◌ w (polys.neg q)) same ∙ polys.add_neg q

-- ---- an operator at and above its leading monomial

leads_at :
    (p : Operator) (m : Mono) (c : Polynomial) → OperatorLeads p m c →
    (polynomial_at p m ≡ c) × ((k : Mono) → mono_cmp m k ≡ Less → polynomial_at p k ≡ polys.zero)
unfolding at
leads_at p m c leads =
    let canonical = subst (IsCanonical monomials polys.group) leads.is_first p.canonical in (
      ap (λ es. value es m) leads.is_first ∙ at_head monomials polys.group (m, c) leads.rest canonical.1,
      λ k high.
          ap (λ es. value es k) leads.is_first
          ∙ at_below monomials polys.group k ((m, c) ∷ leads.rest) (
            subst (λ r. T (is_less r)) (sym high) tt,
            AllBelow_trans monomials polys.group m k leads.rest high canonical.1,
          ),
    )

module _ (a : Name → Action) where
  pub balanced :
      (c l : Polynomial) (o : Option Polynomial) → quotient c l ≡ o → times (factor_for l o) c ≡ times (share_for c o) l
  balanced c l None is = times_comm l c
  balanced c l (Some q) is = one_times c ∙ sym (quotient_is c l q is)

  -- the symbols before the generator are led by the monomial that is reduced
  pub moved_leads :
      (generators : List Operator) (h : Reducible) → first_reducer h.mono generators ≡ Some h.reducer →
      (d : Polynomial) × OperatorLeads (moved a h) h.mono d
  moved_leads generators h reduces =
      let over = over_leading_some h.mono h.reducer.generator h.reducer.symbols (stands 0 h.mono generators h.reducer reduces).divides in
      let w = shifted_leads a h.reducer.symbols h.reducer.generator over.mono over.coef over.leads in
      (w.0, subst (λ k. OperatorLeads (moved a h) k w.0) over.divides w.1)

  -- a step's rest, at a monomial
  pub record Left (h : Reducible) (s t : Reduction) : Type 0 where
    pub at_reduced : polynomial_at s.rest h.mono ≡ h.coef → polynomial_at t.rest h.mono ≡ polys.zero
    pub above :
        (k : Mono) → mono_cmp h.mono k ≡ Less → polynomial_at s.rest k ≡ polys.zero →
        polynomial_at t.rest k ≡ polys.zero

  step_left :
      (generators : List Operator) (h : Reducible) (s t : Reduction) →
      first_reducer h.mono generators ≡ Some h.reducer → checked_step a h s ≡ Ok t → Left h s t
  step_left generators h s t reduces stepped = record {
    at_reduced = λ is.
        at_rest h.mono
        ∙ cancels _ _ (ap (times m) is ∙ balanced h.coef l (quotient h.coef l) refl ∙ ap (times x) (sym (tops.0 ∙ sym l_is)));
    above = λ k high nothing.
        at_rest k ∙ cancels _ _ (ap (times m) nothing ∙ times_zero m ∙ sym (ap (times x) (tops.1 k high) ∙ times_zero x));
  }
    where
      leads : (d : Polynomial) × OperatorLeads (moved a h) h.mono d
      leads = moved_leads generators h reduces

      l : Polynomial
      l = leading_coefficient (leading (moved a h).terms)

      m : Polynomial
      m = factor_for l (quotient h.coef l)

      x : Polynomial
      x = share_for h.coef (quotient h.coef l)

      l_is : l ≡ leads.0
      l_is = ap leading_coefficient (leading-Leads monomials polys.group (moved a h) h.mono leads.0 leads.1)

      tops :
          (polynomial_at (moved a h) h.mono ≡ leads.0)
          × ((k : Mono) → mono_cmp h.mono k ≡ Less → polynomial_at (moved a h) k ≡ polys.zero)
      tops = leads_at (moved a h) h.mono leads.0 leads.1

      part_is : product_of a (term_of h.reducer.symbols x) h.reducer.generator ≡ multiple a x (moved a h)
      part_is =
          ap (λ w. product_of a w h.reducer.generator) (sym (multiple-one_term a h.reducer.symbols x))
          ∙ multiple-product_of a x (term_of h.reducer.symbols polys.one) h.reducer.generator

      at_rest :
          (k : Mono) →
          polynomial_at t.rest k ≡
          plus (times m (polynomial_at s.rest k)) (polys.neg (times x (polynomial_at (moved a h) k)))
      at_rest k =
          let w = step_is a h s t stepped in
          ap (λ p. polynomial_at p k) (w.second.rest_is ∙ ap₂ (λ u v. sum_of_operators u (negative v)) w.first.rest_is part_is)
          ∙ finite_maps.of_a_sum _ _ k
          ∙ ap₂ plus (at-multiple a m s.rest k) (finite_maps.of_a_negative _ k ∙ ap polys.neg (at-multiple a x (moved a h) k))

  -- what is found after a step is lower
  lower :
      (generators : List Operator) (h g : Reducible) (s t : Reduction) → Found generators s.rest.terms h →
      Found generators t.rest.terms g → Left h s t → mono_cmp g.mono h.mono ≡ Less
  unfolding at
  lower generators h g s t before after left = by (mono_cmp g.mono h.mono) refl
    where
      aside : mono_cmp h.mono g.mono ≡ Less → IsDone generators s.rest.terms g.mono → ⊥
      aside high (inl nothing) = after.nonzero (sym after.coef_is ∙ left.above g.mono high nothing)
      aside high (inr none) = let reduces = sym none ∙ after.reduces in cc

      by : (r : Ordering) → mono_cmp g.mono h.mono ≡ r → r ≡ Less
      by Less order = refl
      by Equal order =
          absurd (after.nonzero (sym after.coef_is ∙ ap (value t.rest.terms) (mono_tied _ _ order) ∙ left.at_reduced before.coef_is))
      by Greater order =
          let high : mono_cmp h.mono g.mono ≡ Less = mono_turned_back _ _ order in absurd (aside high (before.above g.mono high))

  pub step_falls :
      (generators : List Operator) (s t : Reduction) (h g : Reducible) → greatest_reducible generators s ≡ Some h →
      checked_step a h s ≡ Ok t → greatest_reducible generators t ≡ Some g → mono_cmp g.mono h.mono ≡ Less
  step_falls generators s t h g is stepped after =
      let before = found generators s.rest.terms h s.rest.canonical is in
      lower generators h g s t before (found generators t.rest.terms g t.rest.canonical after)
      (step_left generators h s t before.reduces stepped)

  pub falls : (generators : List Operator) → Falls (reduction_rank generators) (greatest_reducible generators) (checked_step a)
  unfolding reduction_rank
  falls generators s t h is stepped =
      subst (λ o. reducible_rank (greatest_reducible generators t) < reducible_rank o) (sym is)
      (by (greatest_reducible generators t) refl)
    where
      by :
          (o : Option Reducible) → greatest_reducible generators t ≡ o →
          reducible_rank (greatest_reducible generators t) < reducible_rank (Some h)
      by None none = let rank = ap reducible_rank none in omega arith
      by (Some g) after =
          let rank = ap reducible_rank after in
          let less = rank-less g.mono h.mono (step_falls generators s t h g is stepped after) in omega arith

  pub reduction_is : (generators : List Operator) (s : Reduction) → reduction_from a generators s ≡ reduction_turn a generators s
  unfolding reduction_from
  reduction_is generators s =
      run_is (reduction_rank generators) (greatest_reducible generators) (checked_step a) (falls generators) s
