-- An assembled certificate, once its residual is reduced to zero, certifies: main lemmas `relation_of_reduction`,
-- `telescoper_nonzero` and `telescoper_free`.
-- The scale times the reduction's identity is the relation's. The telescoper's coefficient at a listed monomial is the
-- weight of its column; so it is nonzero where a weight is, and free of the summed names as all weights are.
use Rattle.ct_telescoping.proofs.Base.{◌≡◌, ◌≢◌, ℕ, zero, suc, ◌<◌, List, [], ◌∷◌, map, All, sym, ◌∙◌, ap, ap₂, subst, arith, All-map, All-weaker}
use Rattle.ct_telescoping.proofs.Base.{IsHom, hom_neg, product_nonzero, sum_below, hom-sum_below, EachTerm, EachTerm-weaker, none, at, at-⊕, at-none}
use Rattle.ct_telescoping.proofs.Base.{EachTerm-⊕, EachTerm-single, Mono, monomials, Name, Polynomial, polys, polys_domain, times, times_is}
use Rattle.ct_telescoping.proofs.Base.{times_assoc, Action, Operator, operator_group, no_operator, term_of, sum_of_operators, multiple, combination}
use Rattle.ct_telescoping.proofs.Base.{IsWithout, EachName, IsFreeOfAll, OperatorIsFreeOf, Summand, Certificate, difference_denominator, differences}
use Rattle.ct_telescoping.proofs.Base.{IsRelation, sums_are, negatives_are, at-term_of, pick-same, pick-other, term_of-single, multiple-sum}
use Rattle.ct_telescoping.proofs.Base.{multiple-multiple, multiple-no_operator, free_zero, free-sum, same_or_other, each_at}
use Rattle.std.specs.Prelude.{refl}
use Rattle.ct_telescoping.specs.Laws.SumsBelow.{sum_below-one}
use Rattle.ct_telescoping.specs.Columns.{Column, OfMonomial, OfSummand, AreDistinct}
use Rattle.ct_telescoping.specs.Assembly.{telescoper_term, telescoper_of, residual, scaled_summand, reduced_by}

-- ---- the relation

module _ (a : Name → Action) (s : Polynomial) (cofactors : List Operator) (c : Certificate) where
  abbrev made : Certificate
  made = reduced_by s cofactors c

  pub names_kept : map (λ t. t.name) made.summands ≡ map (λ t. t.name) c.summands
  names_kept = go c.summands
    where
      go : (ss : List Summand) → map (λ t. t.name) (map (scaled_summand s) ss) ≡ map (λ t. t.name) ss
      go [] = refl
      go (t ∷ ts) = ap (◌∷◌ t.name) (go ts)

  multiple_hom : IsHom operator_group operator_group (multiple a s)
  unfolding sum_of_operators
  multiple_hom = record { sums = multiple-sum a s }

  -- the sum of all H·E is multiplied too
  differences_scaled : (ss : List Summand) → multiple a s (differences a ss) ≡ differences a (map (scaled_summand s) ss)
  differences_scaled [] = multiple-no_operator a s
  differences_scaled (t ∷ ts) =
      multiple-sum a s _ _ ∙ ap₂ sum_of_operators (sym (multiple-multiple a s t.factor _)) (differences_scaled ts)

  -- A less B is C with nothing left
  moved : (x y z : Operator) → operator_group.◌+◌ x (operator_group.neg y) ≡ z → x ≡ operator_group.◌+◌ y z
  moved x y z e =
      sym (operator_group.add_zero x) ∙ ap (operator_group.◌+◌ x) (sym (operator_group.add_neg y) ∙ operator_group.add_comm _ _)
      ∙ sym (operator_group.add_assoc x _ _) ∙ ap (λ w. operator_group.◌+◌ w y) e ∙ operator_group.add_comm z y

  pub relation_of_reduction :
      (generators : List Operator) → s ≢ polys.zero → c.scale ≢ polys.zero →
      All (λ t. c.scale ≡ times t.factor (difference_denominator a t)) c.summands →
      multiple a s (residual a c) ≡ combination a cofactors generators → IsRelation a generators made
  relation_of_reduction generators nonzero scale_nonzero divides reduced = record {
    scale_nonzero = λ none. product_nonzero polys polys_domain s c.scale nonzero scale_nonzero (sym (times_is s c.scale) ∙ none);
    divides =
        All-map (λ t. times s c.scale ≡ times t.factor (difference_denominator a t)) (scaled_summand s) c.summands
        (All-weaker (λ t. c.scale ≡ times t.factor (difference_denominator a t)) _
        (λ t is. ap (times s) is ∙ sym (times_assoc s _ _)) c.summands divides);
    identity =
        multiple-multiple a s c.scale c.telescoper
        ∙ moved _ _ _ identity
        ∙ ap (λ w. operator_group.◌+◌ w (combination a cofactors generators)) (differences_scaled c.summands)
        ∙ sym (sums_are _ _);
  }
    where
      identity :
          operator_group.◌+◌ (multiple a s (multiple a c.scale c.telescoper))
          (operator_group.neg (multiple a s (differences a c.summands))) ≡
          combination a cofactors generators
      identity =
          ap (operator_group.◌+◌ (multiple a s (multiple a c.scale c.telescoper))) (sym (hom_neg multiple_hom _))
          ∙ sym (multiple_hom.sums _ _)
          ∙ ap (multiple a s) (sym (sums_are _ _ ∙ ap (operator_group.◌+◌ (multiple a c.scale c.telescoper)) (negatives_are _)))
          ∙ reduced

-- ---- the telescoper

module _ (m : ℕ) (column : ℕ → Column) (weight : ℕ → Polynomial) where
  at_hom : (k : Mono) → IsHom operator_group polys.group (λ p. at monomials polys.group p k)
  at_hom k = record { sums = λ p q. at-⊕ monomials polys.group p q k }

  at-telescoper :
      (k : Mono) →
      at monomials polys.group (telescoper_of m column weight) k ≡
      sum_below polys.group m (λ i. at monomials polys.group (telescoper_term (weight i) (column i)) k)
  at-telescoper k = hom-sum_below (at_hom k) m (λ i. telescoper_term (weight i) (column i))

  pub telescoper_at :
      AreDistinct m column → (g : Mono) (i : ℕ) → i < m → column i ≡ OfMonomial g →
      at monomials polys.group (telescoper_of m column weight) g ≡ weight i
  unfolding no_operator
  telescoper_at distinct g i below here =
      at-telescoper g
      ∙ sum_below-one polys.group m i (λ j. at monomials polys.group (telescoper_term (weight j) (column j)) g) below
      (λ j l other. elsewhere j l other (column j) refl)
      ∙ ap (λ c. at monomials polys.group (telescoper_term (weight i) c) g) here
      ∙ at-term_of g g (weight i) ∙ pick-same g g (weight i) refl
    where
      elsewhere : (j : ℕ) → j < m → j ≢ i → (c : Column) → column j ≡ c →
          at monomials polys.group (telescoper_term (weight j) (column j)) g ≡ polys.zero
      elsewhere j l other (OfSummand p b e) is =
          ap (λ c. at monomials polys.group (telescoper_term (weight j) c) g) is
          ∙ at-none monomials polys.group g
      elsewhere j l other (OfMonomial f) is =
          ap (λ c. at monomials polys.group (telescoper_term (weight j) c) g) is
          ∙ at-term_of f g (weight j)
          ∙ pick-other g f (weight j) (λ same. other (distinct j i l below (is ∙ ap OfMonomial same ∙ sym here)))

  pub telescoper_nonzero :
      AreDistinct m column → (g : Mono) (i : ℕ) → i < m → column i ≡ OfMonomial g → weight i ≢ polys.zero →
      telescoper_of m column weight ≢ no_operator
  unfolding no_operator
  telescoper_nonzero distinct g i below here nonzero none =
      nonzero (sym (telescoper_at distinct g i below here) ∙ ap (λ p. at monomials polys.group p g) none ∙ at-none monomials polys.group g)

  module _ (summed : List Name) (free : (i : ℕ) → i < m → IsFreeOfAll summed (weight i))
      (monomials_free : (i : ℕ) → i < m → (g : Mono) → column i ≡ OfMonomial g → EachName (λ j. IsWithout j g) summed) where
    -- a weight, or zero
    at_free : (k : Mono) (i : ℕ) → i < m → (c : Column) → IsFreeOfAll summed (at monomials polys.group (telescoper_term (weight i) c) k)
    unfolding no_operator
    at_free k i below (OfSummand p b e) = subst (IsFreeOfAll summed) (sym (at-none monomials polys.group k)) (free_zero summed)
    at_free k i below (OfMonomial g) = by (same_or_other g k)
      where
        by : Dec (g ≡ k) → IsFreeOfAll summed (at monomials polys.group (term_of g (weight i)) k)
        by (yes same) =
            subst (IsFreeOfAll summed) (sym (at-term_of g k (weight i) ∙ pick-same k g (weight i) same)) (free i below)
        by (no other) =
            subst (IsFreeOfAll summed) (sym (at-term_of g k (weight i) ∙ pick-other k g (weight i) other)) (free_zero summed)

    sum_free :
        (n : ℕ) (f : ℕ → Polynomial) → ((i : ℕ) → i < n → IsFreeOfAll summed (f i)) →
        IsFreeOfAll summed (sum_below polys.group n f)
    sum_free zero f each = free_zero summed
    sum_free (suc n) f each = free-sum summed _ _ (sum_free n f (λ i l. each i (omega (arith, l)))) (each n (omega arith))

    terms_free :
        (n : ℕ) → ((i : ℕ) → i < n → i < m) →
        EachTerm (λ k c. EachName (λ j. IsWithout j k) summed) (sum_below operator_group n (λ i. telescoper_term (weight i) (column i))).terms
    unfolding no_operator none
    terms_free zero within = tt
    terms_free (suc n) within =
        EachTerm-⊕ monomials polys.group (λ k. EachName (λ j. IsWithout j k) summed) _ _
        (terms_free n (λ i l. within i (omega (arith, l)))) (last (column n) refl)
      where
        last : (c : Column) → column n ≡ c → EachTerm (λ k e. EachName (λ j. IsWithout j k) summed) (telescoper_term (weight n) (column n)).terms
        last (OfSummand p b e) is =
            subst (λ c. EachTerm (λ k e. EachName (λ j. IsWithout j k) summed) (telescoper_term (weight n) c).terms) (sym is) tt
        last (OfMonomial g) is =
            subst (λ c. EachTerm (λ k e. EachName (λ j. IsWithout j k) summed) (telescoper_term (weight n) c).terms) (sym is)
            (subst (λ p. EachTerm (λ k e. EachName (λ j. IsWithout j k) summed) p.terms) (sym (term_of-single g (weight n)))
            (EachTerm-single monomials polys.group (λ k. EachName (λ j. IsWithout j k) summed) g (weight n)
            (monomials_free n (within n (omega arith)) g is)))

    pub telescoper_free : OperatorIsFreeOf summed (telescoper_of m column weight)
    telescoper_free = both (telescoper_of m column weight).terms (terms_free m (λ i l. l)) coefficients
      where
        coefficients : EachTerm (λ k c. IsFreeOfAll summed c) (telescoper_of m column weight).terms
        coefficients =
            EachTerm-weaker (λ k c is. subst (IsFreeOfAll summed) (sym (at-telescoper k) ∙ is.0)
            (sum_free m _ (λ i l. at_free k i l (column i)))) (telescoper_of m column weight).terms
            (each_at monomials polys.group (telescoper_of m column weight))

        both :
            (es : List (Mono × Polynomial)) → EachTerm (λ k c. EachName (λ j. IsWithout j k) summed) es →
            EachTerm (λ k c. IsFreeOfAll summed c) es →
            EachTerm (λ k c. EachName (λ j. IsWithout j k) summed × IsFreeOfAll summed c) es
        both [] first second = tt
        both (e ∷ es) first second = ((first.0, second.0), both es first.1 second.1)
