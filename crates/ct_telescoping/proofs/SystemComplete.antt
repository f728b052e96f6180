-- A null vector of a system makes its columns depend on each other: main lemma `columns_vanish`, the other direction of
-- `system_reads`. Where no row is listed all coefficients are zero, so all coefficients of the weighted numerators' sum are
-- zero, at each element, and a polynomial is known by its coefficients in some of the names (`zero_of_coefficients`).
use Rattle.ct_telescoping.proofs.Base.{◌≡◌, ◌≢◌, ℕ, zero, suc, ◌<◌, Bool, true, false, List, ◌⊎◌, sym, ◌∙◌, ap, arith, inl, inr, eq-or-lt_of_le}
use Rattle.ct_telescoping.proofs.Base.{IsHom, mul_zero, mul_left_comm, zero_factor, sum_below, sum_below-same, hom-sum_below, mul-sum_below, Mono}
use Rattle.ct_telescoping.proofs.Base.{Name, Polynomial, polys, polys_domain, coefficient_in, IsFreeOfAll, embed, embed-sum, embed-product}
use Rattle.ct_telescoping.proofs.Base.{embed_nonzero, fractions_domain, K, field, coefficient_in_hom, coefficient_in-product}
use Rattle.std.specs.Prelude.{refl}
use Rattle.ct_telescoping.specs.Laws.SumsBelow.{sum_below-zero}
use Rattle.ct_telescoping.specs.Vector.{Vector, entry, entry-plus_vector, entry-zero_vector, same_vector, vector_group}
use Rattle.ct_telescoping.specs.VectorModule.{scale_vector, entry-scale_vector}
use Rattle.ct_telescoping.specs.Elimination.{matrix_times}
use Rattle.ct_telescoping.specs.System.{IsSystemOf}
use Rattle.ct_telescoping.proofs.CoefficientsKnown.{zero_of_coefficients}

abbrev ι : Polynomial → K
ι p = embed polys polys_domain p

ι_hom : IsHom polys.group field.group ι
ι_hom = record { sums = λ p q. embed-sum polys polys_domain p q }

module _ (summed : List Name) (d m : ℕ) (vector_of : ℕ → Vector K d) (n : ℕ) (matrix : ℕ → ℕ → Polynomial)
    (system : IsSystemOf summed d m vector_of n matrix)
    (y : ℕ → Polynomial) (free : (i : ℕ) → i < m → IsFreeOfAll summed (y i))
    (null : (k : ℕ) → k < n → matrix_times polys n m matrix y k ≡ polys.zero) where
  abbrev numerator : ℕ → ℕ → Polynomial
  numerator = system.reads.numerator

  -- a column with a nonzero coefficient, or none
  pub record IsSome (b : ℕ) (e : Mono) (k : ℕ) : Type 0 where
    pub column : ℕ
    pub in_range : column < k
    pub nonzero : coefficient_in summed e (numerator column b) ≢ polys.zero

  some_or_none :
      (b : ℕ) (e : Mono) (k : ℕ) →
      IsSome b e k ⊎ ((i : ℕ) → i < k → coefficient_in summed e (numerator i b) ≡ polys.zero)
  some_or_none b e zero = inr (λ i below. absurd (omega (arith, below)))
  some_or_none b e (suc k) = by (polys.is_zero (coefficient_in summed e (numerator k b))) refl (some_or_none b e k)
    where
      by : (t : Bool) → polys.is_zero (coefficient_in summed e (numerator k b)) ≡ t →
          IsSome b e k ⊎ ((i : ℕ) → i < k → coefficient_in summed e (numerator i b) ≡ polys.zero) →
          IsSome b e (suc k) ⊎ ((i : ℕ) → i < suc k → coefficient_in summed e (numerator i b) ≡ polys.zero)
      by false f rest = inl (record { column = k; in_range = omega arith; nonzero = λ none. clash (sym f ∙ ap polys.is_zero none ∙ polys.zero_true) })
        where
          clash : false ≡ true → ⊥
          clash g = cc
      by true f (inl some) = inl (record { column = some.column; in_range = omega (arith, some.in_range); nonzero = some.nonzero })
      by true f (inr none) = inr (λ i below. each i (eq-or-lt_of_le (omega (arith, below))))
        where
          each : (i : ℕ) → (i ≡ k) ⊎ (i < k) → coefficient_in summed e (numerator i b) ≡ polys.zero
          each i (inl same) = ap (λ j. coefficient_in summed e (numerator j b)) same ∙ polys.true_zero _ f
          each i (inr less) = none i less

  abbrev weighted : ℕ → Polynomial
  weighted b = sum_below polys.group m (λ i. polys.◌*◌ (y i) (numerator i b))

  coefficient-weighted :
      (b : ℕ) (e : Mono) →
      coefficient_in summed e (weighted b) ≡ sum_below polys.group m (λ i. polys.◌*◌ (y i) (coefficient_in summed e (numerator i b)))
  coefficient-weighted b e =
      hom-sum_below (coefficient_in_hom summed e) m (λ i. polys.◌*◌ (y i) (numerator i b))
      ∙ sum_below-same polys.group m _ _ (λ i l. coefficient_in-product summed e (y i) (numerator i b) (free i l))

  weighted_none : (b : ℕ) → b < d → weighted b ≡ polys.zero
  weighted_none b below = zero_of_coefficients summed (weighted b) (λ e. coefficient-weighted b e ∙ by e (some_or_none b e m))
    where
      by : (e : Mono) → IsSome b e m ⊎ ((i : ℕ) → i < m → coefficient_in summed e (numerator i b) ≡ polys.zero) →
          sum_below polys.group m (λ i. polys.◌*◌ (y i) (coefficient_in summed e (numerator i b))) ≡ polys.zero
      by e (inr none) =
          sum_below-zero polys.group m _ (λ i l. ap (polys.◌*◌ (y i)) (none i l) ∙ mul_zero polys (y i))
      by e (inl some) =
          let listed = system.complete b e some.column below some.in_range some.nonzero in
          sum_below-same polys.group m _ _ (λ i l.
          polys.mul_comm _ _
          ∙ ap (λ p. polys.◌*◌ p (y i)) (sym
          (system.reads.entries listed.0 i listed.1 l ∙ ap (λ r. coefficient_in summed r.monomial
          (numerator i r.element)) listed.2)))
          ∙ null listed.0 listed.1

  entries_vanish :
      (b : ℕ) → b < d →
      sum_below field.group m (λ i. field.◌*◌ (ι (y i)) (entry field.group d (vector_of i) b)) ≡ field.zero
  entries_vanish b below =
      zero_factor field (fractions_domain polys polys_domain) (ι system.reads.common) _
      (embed_nonzero polys polys_domain system.reads.common system.common_nonzero)
      (sym (mul-sum_below field m (ι system.reads.common) (λ i. field.◌*◌ (ι (y i)) (entry field.group d (vector_of i) b)))
      ∙ sum_below-same field.group m _ _ (λ i l.
      mul_left_comm field _ _ _ ∙ ap (field.◌*◌ (ι (y i))) (sym (system.reads.cleared i b l below))
      ∙ sym (embed-product polys polys_domain (y i) (numerator i b)))
      ∙ sym (hom-sum_below ι_hom m (λ i. polys.◌*◌ (y i) (numerator i b)))
      ∙ ap ι (weighted_none b below))

  pub columns_vanish :
      sum_below (vector_group field.group d) m (λ i. scale_vector field d (ι (y i)) (vector_of i)) ≡ (vector_group field.group d).zero
  columns_vanish =
      same_vector field.group d _ _ (λ b below.
      hom-sum_below (entry_hom b below) m (λ i. scale_vector field d (ι (y i)) (vector_of i))
      ∙ sum_below-same field.group m _ _ (λ i l. entry-scale_vector field d (ι (y i)) (vector_of i) b below)
      ∙ entries_vanish b below ∙ sym (entry-zero_vector field.group d b below))
    where
      entry_hom : (b : ℕ) → b < d → IsHom (vector_group field.group d) field.group (λ v. entry field.group d v b)
      entry_hom b l = record { sums = λ v w. entry-plus_vector field.group d v w b l }
