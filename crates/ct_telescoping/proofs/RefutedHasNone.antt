-- Refuting rows show that there is no telescoper: main lemma `refuted_has_none`.
-- A relation of the shape of the columns makes the columns' vectors depend on each other, with its weights
-- (`columns_depend`). A matrix that reads the vectors then sends the weights to zero, and a row that isolates a column
-- leaves weight zero there.
use Rattle.ct_telescoping.proofs.Base.{◌≡◌, ◌≢◌, ℕ, ◌<◌, List, map, get_or, All, Contains, sym, ◌∙◌, ap, ap₂, refl, subst, All-contains_itself}
use Rattle.ct_telescoping.proofs.Base.{All-weaker, sum_below, Module, Name, Polynomial, polys, polys_domain, Action, polynomials, Operator}
use Rattle.ct_telescoping.proofs.Base.{operator_group, no_operator, term_of, apply, EachKills, EachName, IsFreeOfAll, field, coefficients}
use Rattle.ct_telescoping.proofs.Base.{Certificate, IsRelation, over_polynomials, term_of-zero}
use Rattle.ct_telescoping.specs.Rising.{IsOnce}
use Rattle.ct_telescoping.specs.Laws.SumsBelow.{sum_below-zero}
use Rattle.ct_telescoping.specs.Columns.{Column, OfMonomial, OfSummand, IsOfTelescoper}
use Rattle.ct_telescoping.specs.Assembly.{telescoper_term, telescoper_of, numerator_of}
use Rattle.ct_telescoping.specs.ColumnVectors.{column_vector}
use Rattle.ct_telescoping.specs.Elimination.{matrix_times}
use Rattle.ct_telescoping.specs.Refutation.{Refutes}
use Rattle.ct_telescoping.proofs.ListParts.{contains_map}
use Rattle.ct_telescoping.proofs.NamesIn.{each_contained}
use Rattle.ct_telescoping.proofs.Multipliers.{isolated}
use Rattle.ct_telescoping.proofs.ColumnSums.{IsOfSummed, certificate_vector, certificate_vector-is, columns_sum}
use Rattle.ct_telescoping.proofs.CertificateVectors.{HasVector, name_differences, relation_telescopes}

-- the telescoper and the numerators are sums over the columns, with weights free of the summed names
pub record IsOfShape (summed : List Name) (m : ℕ) (column : ℕ → Column) (c : Certificate) : Type 0 where
  pub weight : ℕ → Polynomial
  pub weights_free : (i : ℕ) → i < m → IsFreeOfAll summed (weight i)
  pub telescoper_is : c.telescoper ≡ telescoper_of m column weight
  pub numerators_are : All (λ s. s.numerator ≡ numerator_of m column weight s.name) c.summands

-- what holds of the summed names holds of the names of the summands
pub each_summand :
    (P : Name → Type 0) (c : Certificate) (summed : List Name) → map (λ s. s.name) c.summands ≡ summed → EachName P summed →
    All (λ s. P s.name) c.summands
each_summand P c summed names each =
    All-weaker (Contains c.summands) (λ s. P s.name)
    (λ s found. each_contained P summed each s.name
    (subst (λ js. Contains js s.name) names (contains_map (λ t. t.name) c.summands s found)))
    c.summands (All-contains_itself c.summands)

module _ (a : Name → Action) {V : Type 0} (F : Module field (coefficients a) V) (denominators : Name → Polynomial) (x : V)
    (summed : List Name) (once : IsOnce summed) (nonzero : EachName (λ j. denominators j ≢ polys.zero) summed)
    (m : ℕ) (column : ℕ → Column) (of_summed : (i : ℕ) → i < m → IsOfSummed a F denominators x summed once (column i)) where
  abbrev W : Module polys (polynomials a) V
  W = over_polynomials a F

  abbrev pub AreOver : Certificate → Type 0
  AreOver c = All (λ s. s.denominator ≡ denominators s.name) c.summands

  abbrev pub weighted_sum : (ℕ → Polynomial) → V
  weighted_sum weight = sum_below W.group m (λ i. W.scale (weight i) (column_vector a F denominators x (column i)))

  abbrev vectors : (ℕ → Polynomial) → Name → V
  vectors weight = certificate_vector a F denominators x summed once m column weight

  pub columns_depend :
      (generators : List Operator) → EachKills a W generators x →
      (c : Certificate) → map (λ s. s.name) c.summands ≡ summed → AreOver c →
      (h : IsOfShape summed m column c) → IsRelation a generators c → weighted_sum h.weight ≡ W.group.zero
  columns_depend generators kills c names over shape relation =
      columns_sum a F denominators x summed once m column shape.weight of_summed shape.weights_free
      ∙ ap₂ (λ y z. W.group.◌+◌ y (W.group.neg z)) telescoper_makes (ap (name_differences a F x (vectors shape.weight)) (sym names))
      ∙ W.group.add_neg _
    where
      have_vectors : All (HasVector a F x (vectors shape.weight)) c.summands
      have_vectors k past below =
          ap (λ e. W.scale e (vectors shape.weight (get_or c.summands k past).name)) (over k past below)
          ∙ certificate_vector-is a F denominators x summed once m column shape.weight (get_or c.summands k past).name
          (each_summand (λ j. denominators j ≢ polys.zero) c summed names nonzero k past below)
          ∙ ap (λ p. apply a W p x) (sym (shape.numerators_are k past below))

      telescoper_makes :
          apply a W (telescoper_of m column shape.weight) x ≡
          name_differences a F x (vectors shape.weight) (map (λ s. s.name) c.summands)
      telescoper_makes =
          ap (λ p. apply a W p x) (sym shape.telescoper_is)
          ∙ relation_telescopes a F x (vectors shape.weight) generators c relation kills have_vectors

  module _ (n : ℕ) (matrix : ℕ → ℕ → Polynomial) where
    -- the matrix sends to zero all weights, free of the summed names, under which the columns depend on each other
    abbrev pub ReadsColumns : Type 0
    ReadsColumns =
        (y : ℕ → Polynomial) → ((i : ℕ) → i < m → IsFreeOfAll summed (y i)) → weighted_sum y ≡ W.group.zero →
        (k : ℕ) → k < n → matrix_times polys n m matrix y k ≡ polys.zero

    pub refuted_has_none :
        (generators : List Operator) → EachKills a W generators x → ReadsColumns → (rows : ℕ → ℕ → Polynomial) →
        Refutes polys n m matrix (λ i. IsOfTelescoper (column i)) rows →
        (c : Certificate) → map (λ s. s.name) c.summands ≡ summed → AreOver c → IsOfShape summed m column c →
        IsRelation a generators c → c.telescoper ≡ no_operator
    unfolding no_operator
    refuted_has_none generators kills reads rows refutes c names over shape relation =
        shape.telescoper_is ∙ sum_below-zero operator_group m _ (λ i below. each i below (column i) refl)
      where
        null : (k : ℕ) → k < n → matrix_times polys n m matrix shape.weight k ≡ polys.zero
        null = reads shape.weight shape.weights_free (columns_depend generators kills c names over shape relation)

        each :
            (i : ℕ) → i < m → (d : Column) → column i ≡ d → telescoper_term (shape.weight i) (column i) ≡ no_operator
        each i below (OfSummand j b e) is = ap (telescoper_term (shape.weight i)) is
        each i below (OfMonomial g) is =
            ap (telescoper_term (shape.weight i)) is
            ∙ ap (term_of g)
            (isolated polys polys_domain n m matrix (rows i) shape.weight i below (refutes i below (subst IsOfTelescoper (sym is) tt)) null)
            ∙ term_of-zero g
