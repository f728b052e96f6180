-- What a vanishing sum of weighted columns is assembled to: main lemma `residual_dies`, by which the residual of an assembled
-- certificate makes zero of x.
-- The telescoper makes the sum of the differences of the names' vectors, and the sum of all H·E the scale times that.
use Rattle.ct_telescoping.proofs.Base.{◌≡◌, ◌≢◌, ℕ, ◌<◌, List, map, get_or, All, sym, ◌∙◌, ap, ap₂, Group, neg_unique, neg_neg, Module, Name}
use Rattle.ct_telescoping.proofs.Base.{Polynomial, polys, polys_domain, times_is, Action, polynomials, apply, Kills, EachName, IsFreeOfAll, field}
use Rattle.ct_telescoping.proofs.Base.{coefficients, plain, restricted_cancel, Certificate, over_polynomials, apply-sum, apply-negative}
use Rattle.ct_telescoping.proofs.Base.{apply-multiple}
use Rattle.ct_telescoping.specs.Rising.{IsOnce}
use Rattle.ct_telescoping.specs.Columns.{Column}
use Rattle.ct_telescoping.specs.Assembly.{IsAssembled, residual}
use Rattle.ct_telescoping.proofs.ColumnSums.{IsOfSummed, certificate_vector, certificate_vector-is, columns_sum}
use Rattle.ct_telescoping.proofs.CertificateVectors.{HasVector, name_differences, differences_make}
use Rattle.ct_telescoping.proofs.RefutedHasNone.{each_summand, weighted_sum}

equal_of_difference : {V : Type 0} (G : Group V) (v w : V) → G.◌+◌ v (G.neg w) ≡ G.zero → v ≡ w
equal_of_difference G v w none = sym (neg_neg G v) ∙ ap G.neg (sym (neg_unique G v (G.neg w) none)) ∙ neg_neg G w

module _ (a : Name → Action) {V : Type 0} (F : Module field (coefficients a) V) (denominators : Name → Polynomial) (x : V)
    (summed : List Name) (once : IsOnce summed) (nonzero : EachName (λ j. denominators j ≢ polys.zero) summed)
    (m : ℕ) (column : ℕ → Column) (of_summed : (i : ℕ) → i < m → IsOfSummed a F denominators x summed once (column i))
    (weight : ℕ → Polynomial) (c : Certificate) (assembled : IsAssembled m column weight a summed denominators c) where
  abbrev W : Module polys (polynomials a) V
  W = over_polynomials a F

  abbrev vectors : Name → V
  vectors = certificate_vector a F denominators x summed once m column weight

  -- the vectors are those of the certificates, also where a factor was left out
  have_vectors : All (HasVector a F x vectors) c.summands
  have_vectors k past below =
      let s = assembled.summands_are k past below in
      restricted_cancel polys polys_domain (polynomials a) (plain a) F s.divisor s.divisor_nonzero _ _
      (sym (W.scale_mul s.divisor _ _)
      ∙ ap (λ e. W.scale e (vectors (get_or c.summands k past).name)) (sym (times_is s.divisor _) ∙ s.denominator_is)
      ∙ certificate_vector-is a F denominators x summed once m column weight (get_or c.summands k past).name
      (each_summand (λ j. denominators j ≢ polys.zero) c summed assembled.names nonzero k past below)
      ∙ ap (λ p. apply a W p x) (sym s.numerator_is) ∙ apply-multiple a W s.divisor _ x)

  pub residual_dies :
      ((i : ℕ) → i < m → IsFreeOfAll summed (weight i)) →
      weighted_sum a F denominators x summed once nonzero m column of_summed weight ≡ W.group.zero → Kills a W (residual a c) x
  residual_dies free vanish =
      apply-sum a W _ _ x
      ∙ ap₂ W.group.◌+◌ (apply-multiple a W c.scale c.telescoper x ∙ ap (W.scale c.scale) telescoper_makes)
      (apply-negative a W _ x
      ∙ ap W.group.neg (differences_make a F x vectors c.scale c.summands assembled.divides have_vectors))
      ∙ W.group.add_neg _
    where
      telescoper_makes : apply a W c.telescoper x ≡ name_differences a F x vectors (map (λ s. s.name) c.summands)
      telescoper_makes =
          ap (λ p. apply a W p x) assembled.telescoper_is
          ∙ equal_of_difference W.group _ _
          (sym (columns_sum a F denominators x summed once m column weight of_summed free) ∙ vanish)
          ∙ ap (name_differences a F x vectors) (sym assembled.names)
