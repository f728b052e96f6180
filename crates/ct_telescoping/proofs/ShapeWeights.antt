-- A certificate whose terms are listed is a sum over the columns: main lemma `IsOfShape-HasShape`. The weight of a monomial's
-- column is the telescoper's coefficient; that of a summand's column is the power's coefficient in the numerator's at the
-- element.
-- Both sides respect sums, so they are compared at single terms, where one column counts.
use Rattle.ct_telescoping.proofs.Base.{◌≡◌, ◌≢◌, ◌⊎◌, ℕ, ◌<◌, ℤ, pos, Bool, true, false, List, [], ◌∷◌, map, get_or, cond, All, Contains, sym, ◌∙◌}
use Rattle.ct_telescoping.proofs.Base.{ap, ap₂, refl, subst, inl, inr, Ordering, Less, Equal, Greater, All-nil, All-cons, All-contains_itself, IsHom}
use Rattle.ct_telescoping.proofs.Base.{comp_hom, hom_zero, zero_mul, sum_below, sum_below-same, EachTerm, EachTerm-weaker, by_order, at, at-⊕}
use Rattle.ct_telescoping.proofs.Base.{same_hom_at, Mono, mono_cmp, mono_tied, monomials, int_group, Name, Polynomial, polys, poly_set, times}
use Rattle.ct_telescoping.proofs.Base.{times_is, term, term_is, term-*, times_one, Operator, operator_set, operator_group, no_operator, term_of}
use Rattle.ct_telescoping.proofs.Base.{IsFreeOfAll, inside, outside, coefficient_in, term_of-zero, term_of-single, term_of_hom, pick-other, pick-same}
use Rattle.ct_telescoping.proofs.Base.{at-term_of, coefficient_in-sum, coefficient_in_hom, coefficient_in-term, outside-inside, coefficient_in-free}
use Rattle.ct_telescoping.proofs.Base.{free_zero, by_values, Summand, Certificate}
use Rattle.ct_telescoping.specs.Rising.{IsOnce}
use Rattle.ct_telescoping.specs.Laws.SumsBelow.{sum_below-sum, sum_below-one}
use Rattle.ct_telescoping.specs.Columns.{Column, OfMonomial, OfSummand, IsListed, AreDistinct}
use Rattle.ct_telescoping.specs.Assembly.{is_same, telescoper_term, numerator_term, numerator_of}
use Rattle.ct_telescoping.proofs.ListParts.{contains_map}
use Rattle.ct_telescoping.proofs.EntriesFree.{zero_or_not}
use Rattle.ct_telescoping.proofs.NameSums.{is_same-self, is_same-true, is_same-other}
use Rattle.ct_telescoping.proofs.ColumnTerms.{nothing_twice, numerator_term-sum}
use Rattle.ct_telescoping.proofs.RefutedHasNone.{IsOfShape}

abbrev at_monomial : Operator → Mono → Polynomial
at_monomial p m = at monomials polys.group p m

-- the telescoper's monomials are listed, with coefficients free of the summed names; of each term of a coefficient of a
-- numerator, the power of the summed names is listed at the monomial
pub record HasShape (summed : List Name) (m : ℕ) (column : ℕ → Column) (c : Certificate) : Type 0 where
  pub telescoper : EachTerm (λ g w. IsListed m column (OfMonomial g) × IsFreeOfAll summed w) c.telescoper.terms
  pub numerators :
      All (λ s. EachTerm (λ b w. EachTerm (λ n z. IsListed m column (OfSummand s.name b (inside summed n))) w.terms) s.numerator.terms)
      c.summands

module _ (summed : List Name) (m : ℕ) (column : ℕ → Column) (distinct : AreDistinct m column) where
  -- ---- the telescoper

  abbrev coefficient : Operator → Column → Polynomial
  coefficient p (OfMonomial g) = at_monomial p g
  coefficient p (OfSummand k b e) = polys.zero

  abbrev of_monomials : Operator → Operator
  of_monomials p = sum_below operator_group m (λ i. telescoper_term (coefficient p (column i)) (column i))

  coefficient-sum :
      (p q : Operator) (c : Column) →
      telescoper_term (coefficient (operator_group.◌+◌ p q) c) c
      ≡ operator_group.◌+◌ (telescoper_term (coefficient p c) c) (telescoper_term (coefficient q c) c)
  coefficient-sum p q (OfMonomial g) = ap (term_of g) (at-⊕ monomials polys.group p q g) ∙ (term_of_hom g).sums _ _
  coefficient-sum p q (OfSummand k b e) = nothing_twice

  of_monomials_hom : IsHom operator_group operator_group of_monomials
  of_monomials_hom = record {
    sums = λ p q.
        sum_below-same operator_group m _ _ (λ i l. coefficient-sum p q (column i))
        ∙ sum_below-sum operator_group m (λ i. telescoper_term (coefficient p (column i)) (column i))
        (λ i. telescoper_term (coefficient q (column i)) (column i));
  }

  of_monomials-term_of :
      (g : Mono) (w : Polynomial) → IsListed m column (OfMonomial g) → of_monomials (term_of g w) ≡ term_of g w
  unfolding no_operator
  of_monomials-term_of g w s =
      sum_below-one operator_group m s.index (λ i. telescoper_term (coefficient (term_of g w) (column i)) (column i)) s.in_range
      (λ i l ne. other i l ne (column i) refl)
      ∙ ap (λ c. telescoper_term (coefficient (term_of g w) c) c) s.is
      ∙ ap (term_of g) (at-term_of g g w ∙ pick-same g g w refl)
    where
      other :
          (i : ℕ) → i < m → i ≢ s.index → (c : Column) → column i ≡ c →
          telescoper_term (coefficient (term_of g w) (column i)) (column i) ≡ operator_group.zero
      other i l ne (OfSummand k b e) q = ap (λ c. telescoper_term (coefficient (term_of g w) c) c) q
      other i l ne (OfMonomial f) q =
          ap (λ c. telescoper_term (coefficient (term_of g w) c) c) q
          ∙ ap (term_of f) (at-term_of g f w ∙ pick-other f g w (λ e. ne (distinct i s.index l s.in_range (q ∙ ap OfMonomial (sym e) ∙ sym s.is))))
          ∙ term_of-zero f

  of_monomials-is :
      (p : Operator) → EachTerm (λ g w. IsListed m column (OfMonomial g) × IsFreeOfAll summed w) p.terms →
      of_monomials p ≡ p
  of_monomials-is p shape =
      same_hom_at monomials polys.group operator_set operator_group of_monomials (λ q. q) of_monomials_hom (record { sums = λ q r. refl }) p
      (EachTerm-weaker (λ g w s. subst (λ t. of_monomials t ≡ t) (term_of-single g w) (of_monomials-term_of g w s.0)) p.terms shape)

  -- ---- the numerator of the name k

  abbrev power_coefficient : Operator → Column → Polynomial
  power_coefficient p (OfMonomial g) = polys.zero
  power_coefficient p (OfSummand k b e) = coefficient_in summed e (at_monomial p b)

  power_coefficient-sum :
      (p q : Operator) (c : Column) →
      power_coefficient (operator_group.◌+◌ p q) c ≡ polys.◌+◌ (power_coefficient p c) (power_coefficient q c)
  power_coefficient-sum p q (OfMonomial g) = sym (polys.add_zero polys.zero)
  power_coefficient-sum p q (OfSummand k b e) =
      ap (coefficient_in summed e) (at-⊕ monomials polys.group p q b) ∙ coefficient_in-sum summed e _ _

  module _ (k : Name) where
    abbrev of_powers : Operator → Operator
    of_powers p = sum_below operator_group m (λ i. numerator_term k (power_coefficient p (column i)) (column i))

    of_powers_hom : IsHom operator_group operator_group of_powers
    of_powers_hom = record {
      sums = λ p q.
          sum_below-same operator_group m _ _ (λ i l. ap (λ w. numerator_term k w (column i))
          (power_coefficient-sum p q (column i)) ∙ numerator_term-sum k _ _ (column i))
          ∙ sum_below-sum operator_group m (λ i. numerator_term k (power_coefficient p (column i)) (column i))
          (λ i. numerator_term k (power_coefficient q (column i)) (column i));
    }

    whole_term :
        (n : Mono) (z : ℤ) →
        times (coefficient_in summed (inside summed n) (term n z)) (term (inside summed n) (pos 1)) ≡ term n z
    whole_term n z =
        times_is _ _
        ∙ ap (λ p. polys.◌*◌ p (term (inside summed n) (pos 1)))
        (coefficient_in-term summed (inside summed n) n z
        ∙ ap (λ r. by_order r polys.zero (term (outside summed n) z) polys.zero) (monomials.same (inside summed n)))
        ∙ term-* (outside summed n) (inside summed n) z (pos 1) ∙ ap₂ term (outside-inside summed n) (times_one z)

    of_powers-term :
        (b n : Mono) (z : ℤ) → IsListed m column (OfSummand k b (inside summed n)) →
        of_powers (term_of b (term n z)) ≡ term_of b (term n z)
    unfolding no_operator
    of_powers-term b n z s =
        sum_below-one operator_group m s.index (λ i. numerator_term k (power_coefficient (term_of b (term n z)) (column i)) (column i)) s.in_range
        (λ i l ne. other i l ne (column i) refl)
        ∙ ap (λ c. numerator_term k (power_coefficient (term_of b (term n z)) c) c) s.is
        ∙ ap (λ t. cond t (term_of b (times
        (coefficient_in summed (inside summed n) (at_monomial (term_of b (term n z)) b))
        (term (inside summed n) (pos 1)))) no_operator) (is_same-self k)
        ∙ ap (λ p. term_of b (times (coefficient_in summed (inside summed n) p)
        (term (inside summed n) (pos 1)))) (at-term_of b b (term n z) ∙ pick-same b b (term n z) refl)
        ∙ ap (term_of b) (whole_term n z)
      where
        other_power : (i : ℕ) → i < m → i ≢ s.index → (f e : Mono) → column i ≡ OfSummand k f e
            → (r t : Ordering) → mono_cmp b f ≡ r → mono_cmp (inside summed n) e ≡ t
            → coefficient_in summed e (by_order r polys.zero (term n z) polys.zero) ≡ polys.zero
        other_power i l ne f e q Less t u v = hom_zero (coefficient_in_hom summed e)
        other_power i l ne f e q Greater t u v = hom_zero (coefficient_in_hom summed e)
        other_power i l ne f e q Equal Less u v =
            coefficient_in-term summed e n z
            ∙ ap (λ t. by_order t polys.zero (term (outside summed n) z) polys.zero) v
        other_power i l ne f e q Equal Greater u v =
            coefficient_in-term summed e n z
            ∙ ap (λ t. by_order t polys.zero (term (outside summed n) z) polys.zero) v
        other_power i l ne f e q Equal Equal u v =
            absurd (ne (distinct i s.index l s.in_range (q ∙ ap₂ (OfSummand k) (sym (mono_tied b f u))
            (sym (mono_tied (inside summed n) e v)) ∙ sym s.is)))

        other : (i : ℕ) → i < m → i ≢ s.index → (c : Column) → column i ≡ c
            → numerator_term k (power_coefficient (term_of b (term n z)) (column i)) (column i) ≡ operator_group.zero
        other i l ne (OfMonomial g) q = ap (λ c. numerator_term k (power_coefficient (term_of b (term n z)) c) c) q
        other i l ne (OfSummand p f e) q =
            ap (λ c. numerator_term k (power_coefficient (term_of b (term n z)) c) c) q
            ∙ by (is_same p k) (is_same-true p k)
          where
            by : (t : Bool) → (t ≡ true → p ≡ k)
                → cond t (term_of f (times (coefficient_in summed e (at_monomial (term_of b (term n z)) f))
                (term e (pos 1)))) no_operator ≡ operator_group.zero
            by false d = refl
            by true d =
                ap (λ w. term_of f (times w (term e (pos 1))))
                (ap (coefficient_in summed e) (at-term_of b f (term n z))
                ∙ other_power i l ne f e (q ∙ ap (λ j. OfSummand j f e) (d refl)) (mono_cmp b f)
                (mono_cmp (inside summed n) e) refl refl)
                ∙ ap (term_of f) (times_is _ _ ∙ zero_mul polys _) ∙ term_of-zero f

    of_powers-term_of :
        (b : Mono) (w : Polynomial) → EachTerm (λ n z. IsListed m column (OfSummand k b (inside summed n))) w.terms →
        of_powers (term_of b w) ≡ term_of b w
    of_powers-term_of b w shape =
        same_hom_at monomials int_group poly_set operator_group (λ v. of_powers (term_of b v)) (term_of b)
        (comp_hom of_powers (term_of b) of_powers_hom (term_of_hom b)) (term_of_hom b) w
        (EachTerm-weaker (λ n z s. subst (λ t. of_powers (term_of b t) ≡ term_of b t) (term_is n z) (of_powers-term b n z s)) w.terms shape)

    of_powers-is :
        (p : Operator) →
        EachTerm (λ b w. EachTerm (λ n z. IsListed m column (OfSummand k b (inside summed n))) w.terms) p.terms →
        of_powers p ≡ p
    of_powers-is p shape =
        same_hom_at monomials polys.group operator_set operator_group of_powers (λ q. q) of_powers_hom (record { sums = λ q r. refl }) p
        (EachTerm-weaker (λ b w s. subst (λ t. of_powers t ≡ t) (term_of-single b w) (of_powers-term_of b w s)) p.terms shape)

  -- ---- both, with one weight for each column

  -- the numerator of the summand with a name
  abbrev numerator_named : List Summand → Name → Operator
  numerator_named [] j = no_operator
  numerator_named (s ∷ ss) j = cond (is_same s.name j) s.numerator (numerator_named ss j)

  named : (ss : List Summand) → IsOnce (map (λ s. s.name) ss) → All (λ s. s.numerator ≡ numerator_named ss s.name) ss
  named [] once = All-nil (λ s. s.numerator ≡ numerator_named [] s.name)
  named (s ∷ ss) once =
      All-cons (λ t. t.numerator ≡ numerator_named (s ∷ ss) t.name) s ss
      (ap (λ b. cond b s.numerator (numerator_named ss s.name)) (sym (is_same-self s.name)))
      (λ k past below.
      named ss once.1 k past below
      ∙ ap (λ b. cond b s.numerator (numerator_named ss (get_or ss k past).name))
      (sym (is_same-other s.name (get_or ss k past).name (λ same. once.0 (subst (Contains (map (λ t. t.name) ss)) (sym same)
      (contains_map (λ t. t.name) ss (get_or ss k past) (All-contains_itself ss k past below)))))))

  free_coefficient : (p : Operator) (g : Mono) → EachTerm (λ g w. IsFreeOfAll summed w) p.terms → IsFreeOfAll summed (at_monomial p g)
  free_coefficient p g free = by (zero_or_not (at_monomial p g))
    where
      by : (at_monomial p g ≡ polys.zero) ⊎ (at_monomial p g ≢ polys.zero) → IsFreeOfAll summed (at_monomial p g)
      by (inl none) = subst (IsFreeOfAll summed) (sym none) (free_zero summed)
      by (inr some) = (by_values monomials polys.group p (λ m w. IsFreeOfAll summed w)).0 free g some

  module _ (c : Certificate) (once : IsOnce (map (λ s. s.name) c.summands)) (shape : HasShape summed m column c) where
    abbrev weight_of : Column → Polynomial
    weight_of (OfMonomial g) = at_monomial c.telescoper g
    weight_of (OfSummand p b e) = coefficient_in summed e (at_monomial (numerator_named c.summands p) b)

    weight_free : (d : Column) → IsFreeOfAll summed (weight_of d)
    weight_free (OfMonomial g) = free_coefficient c.telescoper g (EachTerm-weaker (λ g w s. s.1) c.telescoper.terms shape.telescoper)
    weight_free (OfSummand p b e) = coefficient_in-free summed e _

    telescoper_same : (d : Column) → telescoper_term (coefficient c.telescoper d) d ≡ telescoper_term (weight_of d) d
    telescoper_same (OfMonomial g) = refl
    telescoper_same (OfSummand p b e) = refl

    numerator_same :
        (k : Name) (d : Column) →
        numerator_term k (power_coefficient (numerator_named c.summands k) d) d ≡ numerator_term k (weight_of d) d
    numerator_same k (OfMonomial g) = refl
    numerator_same k (OfSummand p b e) = by (is_same p k) (is_same-true p k)
      where
        by : (t : Bool) → (t ≡ true → p ≡ k)
            → cond t (term_of b (times (coefficient_in summed e (at_monomial (numerator_named c.summands k) b)) (term e (pos 1)))) no_operator
            ≡ cond t (term_of b (times (coefficient_in summed e (at_monomial (numerator_named c.summands p) b)) (term e (pos 1)))) no_operator
        by true same =
            ap (λ j. term_of b (times (coefficient_in summed e (at_monomial (numerator_named c.summands j) b)) (term e (pos 1)))) (sym (same refl))
        by false same = refl

    -- a numerator is its own sum over the columns, and so the sum with these weights
    sum_is :
        (s : Summand) → s.numerator ≡ numerator_named c.summands s.name → of_powers s.name s.numerator ≡ s.numerator →
        s.numerator ≡ numerator_of m column (λ i. weight_of (column i)) s.name
    sum_is s is own =
        sym own ∙ ap (of_powers s.name) is ∙ sum_below-same operator_group m _ _ (λ i below. numerator_same s.name (column i))

    pub IsOfShape-HasShape : IsOfShape summed m column c
    IsOfShape-HasShape = record {
      weight = λ i. weight_of (column i);
      weights_free = λ i below. weight_free (column i);
      telescoper_is =
          sym (of_monomials-is c.telescoper shape.telescoper)
          ∙ sum_below-same operator_group m _ _ (λ i below. telescoper_same (column i));
      numerators_are = λ k past below.
          let s = get_or c.summands k past in
          sum_is s (named c.summands once k past below) (of_powers-is s.name s.numerator (shape.numerators k past below));
    }
