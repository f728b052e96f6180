-- A quotient that was found in cells is the answer of the checked division: main lemma `cells_answer`.
-- The measures of its terms, gathered, are at most those of the terms as they were found.
use Rattle.ct_poly.proofs.Base.{◌≡◌, refl, ◌*◌, ◌≤◌, List, [], ◌∷◌, length, Ok, Some, sym, ◌∙◌, ap, arith, mul-le-mul_right, Polynomial, times, count}
use Rattle.ct_poly.proofs.Base.{norm}
use Rattle.ct_poly.specs.declared.term.Term.{Term}
use Rattle.ct_poly.specs.Cells.{IsQuotient}
use Rattle.ct_poly.specs.Division.{checked_quotient}
use Rattle.ct_poly.specs.Terms.{entries, entry, size_of, IsListOf, poly_of_terms}
use Rattle.ct_poly.proofs.CellSteps.{factor_le}
use Rattle.ct_poly.proofs.FittingQuotients.{fitting_quotient}
use Rattle.ct_poly.proofs.TermLists.{terms_of, count_of-terms, norm_of-terms}
use Rattle.ct_poly.proofs.Values.{IsKept}

module _ {ps fs qs v : List Term} (found : IsQuotient (poly_of_terms ps) (length ps) (size_of ps) fs qs)
    (list : IsListOf (poly_of_terms qs) (length qs) (size_of qs) v) where
  pub cells_answer : {p f : Polynomial} → IsKept p ps → IsKept f fs → checked_quotient p f ≡ Ok (Some (poly_of_terms qs))
  cells_answer {p} {f} mine its = by fs refl
    where
      q : Polynomial
      q = poly_of_terms qs

      counts : count q ≤ length qs
      counts = omega (arith, count_of-terms v list.falling list.value, list.few)

      norms : norm q ≤ size_of qs
      norms = omega (arith, norm_of-terms v list.falling list.value, list.small)

      by_count : count f ≡ length fs
      by_count = count_of-terms fs its.falling its.value

      by_norm : norm f ≡ size_of fs
      by_norm = norm_of-terms fs its.falling its.value

      by : (us : List Term) → fs ≡ us → checked_quotient p f ≡ Ok (Some q)
      by [] fs_are = absurd (found.some (ap length fs_are))
      by (u ∷ us) fs_are =
          fitting_quotient p f q (entry u) (entries us) (sym (terms_of fs its.falling its.value) ∙ ap entries fs_are)
          (ap (times q) (sym its.value) ∙ found.value ∙ mine.value)
          (omega (arith, counts, found.room.few, factor_le (length qs) (length fs) found.some)) (omega (arith, norms, found.room.fits))
          (omega (
            arith,
            found.room.few,
            count_of-terms ps mine.falling mine.value,
            mul-le-mul_right (count f) counts,
            ap (λ n. length qs * n) by_count,
          ))
          (omega (
            arith,
            found.room.small,
            norm_of-terms ps mine.falling mine.value,
            mul-le-mul_right (norm f) norms,
            ap (λ n. size_of qs * n) by_norm,
          ))
