-- The proofs of specs/SupportLaws, from the main lemmas of the other files: the laws of elimination, of tested generators and
-- of systems, read at the columns of a support.
use Rattle.ct_telescoping.proofs.Base.{◌≡◌, ◌≢◌, ℕ, ◌<◌, All, sym, ◌∙◌, ap, subst, All-map, mul_zero, Name, Polynomial, polys, polys_domain, times_is}
use Rattle.ct_telescoping.proofs.Base.{operator_group, no_operator, combination, Kills, IsFreeOf, OperatorIsFreeOf, coefficient_in, Certificate}
use Rattle.ct_telescoping.proofs.Base.{sums_are, none_is, coefficient_in-free}
use Rattle.std.specs.Prelude.{refl}
use Rattle.ct_telescoping.specs.StaircaseModule.{over_field, staircase_module, start}
use Rattle.ct_telescoping.specs.EntriesFree.{EntriesAreFree}
use Rattle.ct_telescoping.specs.Rising.{IsOnce}
use Rattle.ct_telescoping.specs.Columns.{Column, OfMonomial, OfSummand, IsColumnOf, IsOfTelescoper}
use Rattle.ct_telescoping.specs.Assembly.{telescoper_of, IsAssembled, residual, scaled_summand}
use Rattle.ct_telescoping.specs.Task.{Task, IsTestedTask, TaskCommutes, count_for, column_for, AreNonzero, IsSystemFor, IsNullFor}
use Rattle.ct_telescoping.specs.SupportLaws.{ColumnsAreOfSupport, SystemIsMade, SystemIsDetermined, SystemIsFree, EliminationDecidesSupport}
use Rattle.ct_telescoping.specs.SupportLaws.{RefutedIsEmpty, CertifiesOnceReduced, AssemblyCertifies}
use Rattle.ct_telescoping.proofs.NamesIn.{each_contained, contained_each}
use Rattle.ct_telescoping.proofs.Eliminated.{refutes, null_vector, null_divided}
use Rattle.ct_telescoping.proofs.EntriesFree.{free_quotient, null_free}
use Rattle.ct_telescoping.proofs.StaircaseGrows.{elements_differ}
use Rattle.ct_telescoping.proofs.StaircaseLawProofs.{kills_in, decide}
use Rattle.ct_telescoping.proofs.SystemReads.{system_reads}
use Rattle.ct_telescoping.proofs.SystemMade.{system_made}
use Rattle.ct_telescoping.proofs.SystemComplete.{columns_vanish}
use Rattle.ct_telescoping.proofs.SystemUnique.{system_unique}
use Rattle.ct_telescoping.proofs.ColumnSums.{IsOfSummed}
use Rattle.ct_telescoping.proofs.RefutedHasNone.{each_summand, refuted_has_none}
use Rattle.ct_telescoping.proofs.ShapeWeights.{IsOfShape-HasShape}
use Rattle.ct_telescoping.proofs.ColumnsListed.{columns_distinct, columns_sound, columns_complete, support_has_shape, telescopers_from}
use Rattle.ct_telescoping.proofs.ColumnsListed.{from_telescopers}
use Rattle.ct_telescoping.proofs.ResidualDies.{residual_dies}
use Rattle.ct_telescoping.proofs.AssembledCertifies.{names_kept, relation_of_reduction, telescoper_nonzero, telescoper_free}

pub of_support : ColumnsAreOfSupport
of_support a summed d element order degree once distinct = record {
  distinct = columns_distinct a summed d element order degree once distinct;
  sound = columns_sound a summed d element order degree;
  complete = columns_complete a summed d element order degree;
  certificates_first = λ i below. (
    telescopers_from a summed d element order degree i below,
    from_telescopers a summed d element order degree i below,
  );
}

pub is_made : SystemIsMade
is_made summed d m vector_of common numerator nonzero cleared = system_made summed d m vector_of common numerator nonzero cleared

pub is_free : SystemIsFree
is_free summed d m vector_of n matrix reads =
    contained_each (λ j. EntriesAreFree j n m matrix) summed (λ j found k i below small.
    subst (IsFreeOf j) (sym (reads.entries k i below small))
    (each_contained (λ name. IsFreeOf name (coefficient_in summed (reads.row k).monomial (reads.numerator i (reads.row k).element))) summed
    (coefficient_in-free summed (reads.row k).monomial _) j found))

pub system_is_determined : SystemIsDetermined
system_is_determined summed d m vector_of n k matrix other first second common =
    let same = system_unique summed d m vector_of n k matrix other first second common in
    record { sizes = same.0; entries = same.1 }

pub decides_support : EliminationDecidesSupport
decides_support t order degree n matrix s ps = record {
  refutes = λ done us taken g below of_telescoper.
      refutes polys polys_domain n (count_for t order degree) matrix _ s ps done us taken g below
      (telescopers_from t.actions t.summed t.dimension t.element order degree g below of_telescoper);
  finds = λ f free left x vector at_free. record {
    free = λ i below.
        contained_each (λ j. IsFreeOf j (x i)) t.summed (λ j found.
        null_free j n (count_for t order degree) matrix _ f s ps free.in_range free.echelon x vector
        (each_contained (λ k. EntriesAreFree k n (count_for t order degree) s.left) t.summed left j found)
        (each_contained (λ k. IsFreeOf k (x f)) t.summed at_free j found) i below);
    null = λ k below. null_vector polys polys_domain n (count_for t order degree) matrix _ f s ps free x vector k below;
    place = f;
    in_range = free.in_range;
    of_telescoper = from_telescopers t.actions t.summed t.dimension t.element order degree f free.in_range free.of_telescoper;
    nonzero = vector.nonzero;
  };
  divided = λ q x y nonzero is null. record {
    free = λ i below.
        contained_each (λ j. IsFreeOf j (y i)) t.summed (λ j found.
        free_quotient j q (y i) (x i) nonzero (sym (is i below))
        (each_contained (λ k. IsFreeOf k (x i)) t.summed (null.free i below) j found));
    null = λ k below. null_divided polys polys_domain n (count_for t order degree) matrix q x y nonzero is null.null k below;
    place = null.place;
    in_range = null.in_range;
    of_telescoper = null.of_telescoper;
    nonzero = λ none. null.nonzero (is null.place null.in_range ∙ ap (polys.◌*◌ q) none ∙ mul_zero polys q);
  };
}

-- ---- of a tested task

module _ (t : Task) (task : IsTestedTask t) (commutes : TaskCommutes t) (order degree : ℕ) (denominators : Name → Polynomial) where
  of_summed :
      (i : ℕ) → i < count_for t order degree →
      IsOfSummed t.actions (over_field t.actions t.dimension t.rows commutes) denominators (start t.actions t.dimension t.rows commutes)
      t.summed task.names_differ (column_for t order degree i)
  of_summed i below = by (column_for t order degree i) (columns_sound t.actions t.summed t.dimension t.element order degree i below)
    where
      by : (c : Column) → IsColumnOf t.actions t.summed t.dimension t.element order degree c →
          IsOfSummed t.actions (over_field t.actions t.dimension t.rows commutes) denominators
          (start t.actions t.dimension t.rows commutes) t.summed task.names_differ c
      by (OfMonomial m) is = tt
      by (OfSummand j b e) is = is.0.0

pub is_empty : RefutedIsEmpty
is_empty t task commutes order degree denominators nonzero n matrix rows system refuting c names over support relation =
    refuted_has_none t.actions (over_field t.actions t.dimension t.rows commutes) denominators (start t.actions t.dimension t.rows commutes)
    t.summed task.names_differ nonzero (count_for t order degree) (column_for t order degree) (of_summed t task commutes order degree denominators)
    n matrix t.generators (kills_in t.actions t.generators t.dimension t.element t.rows task.tested commutes)
    (λ y free depend. system_reads t.summed t.dimension (count_for t order degree) _ n matrix system.reads y depend free) rows refuting c names over
    (IsOfShape-HasShape t.summed (count_for t order degree) (column_for t order degree)
    (columns_distinct t.actions t.summed t.dimension t.element order degree task.names_differ
    (elements_differ t.actions t.generators t.dimension t.element task.tested.staircase)) c
    (subst IsOnce (sym names) task.names_differ)
    (support_has_shape t.actions t.summed t.dimension t.element order degree c names support)) relation

module _ (t : Task) (task : IsTestedTask t) (commutes : TaskCommutes t) (order degree : ℕ) (denominators : Name → Polynomial)
    (nonzero : AreNonzero t denominators)
    (n : ℕ) (matrix : ℕ → ℕ → Polynomial) (system : IsSystemFor t denominators order degree commutes n matrix)
    (weight : ℕ → Polynomial) (null : IsNullFor t order degree n matrix weight) (c : Certificate)
    (assembled : IsAssembled (count_for t order degree) (column_for t order degree) weight t.actions t.summed denominators c) where
  abbrev m : ℕ
  m = count_for t order degree

  abbrev column : ℕ → Column
  column = column_for t order degree

  dies : Kills t.actions (staircase_module t.actions t.dimension t.rows commutes) (residual t.actions c) (start t.actions t.dimension t.rows commutes)
  dies =
      residual_dies t.actions (over_field t.actions t.dimension t.rows commutes) denominators (start t.actions t.dimension t.rows commutes)
      t.summed task.names_differ nonzero m column (of_summed t task commutes order degree denominators) weight c assembled null.free
      (columns_vanish t.summed t.dimension m _ n matrix system weight null.free null.null)

  some_telescoper : (d : Column) → column null.place ≡ d → IsOfTelescoper d → telescoper_of m column weight ≢ no_operator
  some_telescoper (OfSummand j b e) is of_it = absurd of_it
  some_telescoper (OfMonomial g) is of_it =
      telescoper_nonzero m column weight
      (columns_distinct t.actions t.summed t.dimension t.element order degree task.names_differ
      (elements_differ t.actions t.generators t.dimension t.element task.tested.staircase))
      g null.place null.in_range is null.nonzero

  denominators_nonzero : All (λ s. s.denominator ≢ polys.zero) c.summands
  denominators_nonzero k past below zero =
      let s = assembled.summands_are k past below in
      each_summand (λ j. denominators j ≢ polys.zero) c t.summed assembled.names nonzero k past below
      (sym s.denominator_is ∙ times_is _ _ ∙ ap (polys.◌*◌ s.divisor) zero ∙ mul_zero polys s.divisor)

  certified : CertifiesOnceReduced t.actions t.generators t.summed c
  certified r reduction over reduced = (
    none,
    record {
      telescoper_nonzero = λ zero. some_telescoper (column null.place) refl null.of_telescoper (sym assembled.telescoper_is ∙ zero);
      free_of_summed =
          subst (OperatorIsFreeOf t.summed) (sym assembled.telescoper_is)
          (telescoper_free m column weight t.summed null.free
          (λ i below g is. (subst (IsColumnOf t.actions t.summed t.dimension t.element order degree) is
          (columns_sound t.actions t.summed t.dimension t.element order degree i below)).1.0));
      names = names_kept t.actions r.scale r.cofactors c ∙ assembled.names;
      acts = task.acts;
      cofactors_fit = reduction.cofactors_fit;
      denominators_nonzero = All-map (λ s. s.denominator ≢ polys.zero) (scaled_summand r.scale) c.summands denominators_nonzero;
      relation = relation_of_reduction t.actions r.scale r.cofactors c t.generators reduction.scale_nonzero assembled.scale_nonzero assembled.divides
          (reduction.identity ∙ sums_are _ _ ∙ ap (operator_group.◌+◌ (combination t.actions r.cofactors t.generators))
          (none ∙ none_is) ∙ operator_group.add_zero _);
    },
  )
    where
      none : r.rest ≡ no_operator
      none =
          (decide t.actions t.generators t.dimension t.element t.rows task.tested commutes (residual t.actions c)).rest_is_zero r reduction over
          reduced dies

pub certify : AssemblyCertifies
certify t task commutes order degree denominators nonzero n matrix system weight null c assembled =
    certified t task commutes order degree denominators nonzero n matrix system weight null c assembled
