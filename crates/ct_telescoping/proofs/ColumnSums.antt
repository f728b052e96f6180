-- Weighted columns, added up: main lemma `columns_sum`. With weights free of the summed names, the sum of the columns'
-- vectors is the telescoper's vector, less the differences of the certificates' vectors (`certificate_vector-is`).
-- Differences are linear over what is free of the name.
use Rattle.ct_telescoping.proofs.Base.{◌≡◌, ◌≢◌, ℕ, ◌<◌, pos, Bool, true, false, List, cond, Contains, sym, ◌∙◌, ap, ap₂, refl, IsHom, hom_zero}
use Rattle.ct_telescoping.proofs.Base.{zero_add, neg_zero, neg_sum, swap_sum, sum_below, sum_below-same, hom-sum_below, Module, Name, power}
use Rattle.ct_telescoping.proofs.Base.{Polynomial, polys, polys_domain, times, times_is, term, Action, Shift, Derive, Still, by_action, polynomials}
use Rattle.ct_telescoping.proofs.Base.{no_operator, term_of, apply, IsFreeOf, IsFreeOfAll, field, coefficients, plain, scale-divided}
use Rattle.ct_telescoping.proofs.Base.{over_polynomials, difference, apply-no_operator, apply-term_of, apply_hom, scale_hom, scale-zero}
use Rattle.ct_telescoping.proofs.Base.{scale-zero_value, scale-neg, scale-scale}
use Rattle.ct_algebra.proofs.FreeOfLaws.{sigma-free, delta-free}
use Rattle.ct_telescoping.specs.Rising.{IsOnce}
use Rattle.ct_telescoping.specs.Laws.SumsBelow.{sum_below-sum, sum_below-neg}
use Rattle.ct_telescoping.specs.Columns.{Column, OfMonomial, OfSummand}
use Rattle.ct_telescoping.specs.Assembly.{is_same, telescoper_term, numerator_term, telescoper_of, numerator_of}
use Rattle.ct_telescoping.specs.ColumnVectors.{over_denominator, column_vector}
use Rattle.ct_telescoping.proofs.NamesIn.{each_contained}
use Rattle.ct_telescoping.proofs.NameSums.{is_same-self, is_same-true, is_same-other, sum_of_names, names-same, names-zero, names-one}
use Rattle.ct_telescoping.proofs.NameSums.{names-sum_below}

-- ---- differences are linear over what is free of the name

module _ (a : Name → Action) {V : Type 0} (W : Module polys (polynomials a) V) where
  open W.group use {◌+◌, neg}

  infixl 60 ◌+◌
  abbrev difference_by : Action → Name → V → V
  difference_by t j w = by_action t (W.D j w + neg w) (W.D j w) (W.D j w)

  pub difference_hom : (j : Name) → IsHom W.group W.group (difference a W j)
  difference_hom j = record { sums = λ v w. by (a j) v w }
    where
      by : (t : Action) (v w : V) → difference_by t j (v + w) ≡ difference_by t j v + difference_by t j w
      by Shift v w = ap₂ ◌+◌ (W.D_sum j v w) (neg_sum W.group v w) ∙ swap_sum W.group _ _ _ _
      by Derive v w = W.D_sum j v w
      by Still v w = W.D_sum j v w

  pub difference-scale :
      (j : Name) (c : Polynomial) (v : V) → IsFreeOf j c → difference a W j (W.scale c v) ≡ W.scale c (difference a W j v)
  difference-scale j c v free = by (a j)
    where
      passed : W.D j (W.scale c v) ≡ W.scale c (W.D j v)
      passed =
          W.D_scale j c v
          ∙ ap₂ (λ y z. W.scale y (W.D j v) + W.scale z v) (sigma-free a j c free) (delta-free a j c free)
          ∙ ap (λ z. W.scale c (W.D j v) + z) (scale-zero_value W v) ∙ W.group.add_zero _

      by : (t : Action) → difference_by t j (W.scale c v) ≡ W.scale c (difference_by t j v)
      by Shift = ap₂ ◌+◌ passed (sym (scale-neg W c v)) ∙ sym (W.scale_sum c _ _)
      by Derive = passed
      by Still = passed

module _ (a : Name → Action) {V : Type 0} (F : Module field (coefficients a) V) (denominators : Name → Polynomial) (x : V) where
  abbrev W : Module polys (polynomials a) V
  W = over_polynomials a F

  open W.group use {◌+◌, neg}

  infixl 60 ◌+◌
  -- ---- what a weighted column adds to the vector of the certificate of j

  abbrev certificate_term : Name → Polynomial → Column → V
  certificate_term j w (OfMonomial g) = W.group.zero
  certificate_term j w (OfSummand i b e) = cond (is_same i j) (W.scale w (over_denominator a F denominators x i b e)) W.group.zero

  certificate_term-is :
      (j : Name) → denominators j ≢ polys.zero → (w : Polynomial) (c : Column) →
      W.scale (denominators j) (certificate_term j w c) ≡ apply a W (numerator_term j w c) x
  certificate_term-is j nonzero w (OfMonomial g) = scale-zero W _ ∙ sym (apply-no_operator a W x)
  certificate_term-is j nonzero w (OfSummand i b e) = by (is_same i j) (is_same-true i j)
    where
      by : (t : Bool) → (t ≡ true → i ≡ j)
          → W.scale (denominators j) (cond t (W.scale w (over_denominator a F denominators x i b e)) W.group.zero)
          ≡ apply a W (cond t (term_of b (times w (term e (pos 1)))) no_operator) x
      by false same = scale-zero W _ ∙ sym (apply-no_operator a W x)
      by true same =
          ap (λ k. W.scale (denominators j) (W.scale w (over_denominator a F denominators x k b e))) (same refl)
          ∙ scale-scale W _ _ _
          ∙ ap (W.scale w) (scale-divided polys polys_domain (polynomials a) (plain a) F (denominators j) nonzero _)
          ∙ sym (apply-term_of a W b _ x ∙ ap (λ c. W.scale c (power W.D b x)) (times_is w _) ∙ W.scale_mul w _ _)

  -- the same after the difference
  abbrev difference_term : Name → Polynomial → Column → V
  difference_term j w (OfMonomial g) = W.group.zero
  difference_term j w (OfSummand i b e) =
      cond (is_same i j) (W.scale w (difference a W i (over_denominator a F denominators x i b e))) W.group.zero

  difference_term-is :
      (j : Name) (w : Polynomial) → IsFreeOf j w → (c : Column) →
      difference a W j (certificate_term j w c) ≡ difference_term j w c
  difference_term-is j w free (OfMonomial g) = hom_zero (difference_hom a W j)
  difference_term-is j w free (OfSummand i b e) = by (is_same i j) (is_same-true i j)
    where
      by : (t : Bool) → (t ≡ true → i ≡ j)
          → difference a W j (cond t (W.scale w (over_denominator a F denominators x i b e)) W.group.zero)
          ≡ cond t (W.scale w (difference a W i (over_denominator a F denominators x i b e))) W.group.zero
      by false same = hom_zero (difference_hom a W j)
      by true same =
          difference-scale a W j w (over_denominator a F denominators x i b e) free
          ∙ ap (λ k. W.scale w (difference a W k (over_denominator a F denominators x i b e))) (sym (same refl))

  module _ (summed : List Name) (once : IsOnce summed) where
    -- the column's name, if it has one, is summed
    abbrev pub IsOfSummed : Column → Type 0
    IsOfSummed (OfMonomial g) = Unit {0}
    IsOfSummed (OfSummand j b e) = Contains summed j

    -- a column's term of the telescoper, less its differences over all summed names, is its vector with its weight
    column_term :
        (w : Polynomial) (c : Column) → IsOfSummed c →
        apply a W (telescoper_term w c) x + neg (sum_of_names W.group (λ j. difference_term j w c) summed) ≡
        W.scale w (column_vector a F denominators x c)
    column_term w (OfMonomial g) of_summed =
        ap₂ (λ y z. y + neg z) (apply-term_of a W g w x) (names-zero W.group _ summed (λ j found. refl))
        ∙ ap (λ z. W.scale w (power W.D g x) + z) (neg_zero W.group) ∙ W.group.add_zero _
    column_term w (OfSummand i b e) found =
        ap₂ (λ y z. y + neg z) (apply-no_operator a W x)
        (names-one W.group (λ j. difference_term j w (OfSummand i b e)) summed i once found
        (λ j other. ap kept (is_same-other i j other)) ∙ ap kept (is_same-self i))
        ∙ zero_add W.group _ ∙ sym (scale-neg W w _)
      where
        kept : Bool → V
        kept t = cond t (W.scale w (difference a W i (over_denominator a F denominators x i b e))) W.group.zero

    module _ (m : ℕ) (column : ℕ → Column) (weight : ℕ → Polynomial) where
      -- the vector of the certificate of j
      abbrev pub certificate_vector : Name → V
      certificate_vector j = sum_below W.group m (λ i. certificate_term j (weight i) (column i))

      pub certificate_vector-is :
          (j : Name) → denominators j ≢ polys.zero →
          W.scale (denominators j) (certificate_vector j) ≡ apply a W (numerator_of m column weight j) x
      certificate_vector-is j nonzero =
          hom-sum_below (scale_hom W (denominators j)) m _
          ∙ sum_below-same W.group m _ _ (λ i below. certificate_term-is j nonzero (weight i) (column i))
          ∙ sym (hom-sum_below (apply_hom a W x) m _)

      -- the weighted columns are the telescoper's vector, less the differences of the certificates' vectors
      pub columns_sum :
          ((i : ℕ) → i < m → IsOfSummed (column i)) → ((i : ℕ) → i < m → IsFreeOfAll summed (weight i)) →
          sum_below W.group m (λ i. W.scale (weight i) (column_vector a F denominators x (column i))) ≡
          apply a W (telescoper_of m column weight) x
          + neg (sum_of_names W.group (λ j. difference a W j (certificate_vector j)) summed)
      columns_sum of_summed free =
          sym (sum_below-same W.group m _ _ (λ i below. column_term (weight i) (column i) (of_summed i below)))
          ∙ sum_below-sum W.group m (λ i. apply a W (telescoper_term (weight i) (column i)) x)
          (λ i. neg (sum_of_names W.group (λ j. difference_term j (weight i) (column i)) summed))
          ∙ ap₂ ◌+◌ (sym (hom-sum_below (apply_hom a W x) m _)) (sum_below-neg W.group m _ ∙ ap neg from_certificates)
        where
          from_certificates :
              sum_below W.group m (λ i. sum_of_names W.group (λ j. difference_term j (weight i) (column i)) summed) ≡
              sum_of_names W.group (λ j. difference a W j (certificate_vector j)) summed
          from_certificates =
              names-sum_below W.group m (λ i j. difference_term j (weight i) (column i)) summed
              ∙ names-same W.group _ _ summed (λ j found. sym (hom-sum_below (difference_hom a W j) m _
              ∙ sum_below-same W.group m _ _ (λ i below. difference_term-is j (weight i)
              (each_contained (λ k. IsFreeOf k (weight i)) summed (free i below) j found) (column i))))
