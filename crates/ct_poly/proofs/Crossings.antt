-- The law of cross quotients: main lemmas `cross_fits` and `cross_quotients_fit`.
-- The measures of a product are at most the products of the measures, and those of a difference at most the sums; so the room
-- that the operands leave is enough for the results.
use Rattle.ct_poly.proofs.Base.{◌≡◌, ◌≢◌, refl, ℕ, zero, suc, ◌+◌, ◌*◌, ◌≤◌, ℤ, List, [], ◌∷◌, length, Ok, Some, None, ◌∙◌, ap, arith, Mono}
use Rattle.ct_poly.proofs.Base.{monomials, Polynomial, polys, times, count, norm, degree, none_of, has_none, int_group, ◌>>=◌, verdict_fits}
use Rattle.ct_poly.proofs.Base.{largest_degree, most_terms, largest_norm}
use Rattle.ct_poly.specs.Crossing.{cross, checked_cross, cross_count, cross_norm, CrossHasRoom, DivisionHasRoom, IsCrossQuotient}
use Rattle.ct_poly.specs.Division.{checked_quotient, quotient, value_or_none}
use Rattle.ct_poly.specs.Measures.{minus, checked_times, checked_minus, product_overflow}
use Rattle.ct_poly.proofs.CellSteps.{factor_le}
use Rattle.ct_poly.proofs.FittingQuotients.{fitting_quotient}
use Rattle.ct_poly.proofs.OverflowRules.{sum_fits, product_fits, product_with_zero}
use Rattle.ct_poly.proofs.Within.{sums_within, products_within, negatives_within}

-- ---- a product whose operands leave room, and a difference

product_has_room :
    (p q : Polynomial) → degree p + degree q ≤ largest_degree → count p * count q ≤ most_terms → norm p * norm q ≤ largest_norm →
    product_overflow p q ≡ None
product_has_room p q low few small = by (count p * count q) refl
  where
    by : (n : ℕ) → count p * count q ≡ n → product_overflow p q ≡ None
    by zero empty = product_with_zero p q empty
    by (suc n) some = product_fits p q (omega (arith, some)) low few small

times_passes :
    (p q : Polynomial) → degree p + degree q ≤ largest_degree → count p * count q ≤ most_terms → norm p * norm q ≤ largest_norm →
    checked_times p q ≡ Ok (times p q)
unfolding checked_times
times_passes p q low few small = verdict_fits _ _ _ (product_has_room p q low few small) refl

minus_passes : (p q : Polynomial) → count p + count q ≤ most_terms → norm p + norm q ≤ largest_norm → checked_minus p q ≡ Ok (minus p q)
unfolding checked_minus
minus_passes p q few small = verdict_fits _ _ _ (sum_fits p q few small) refl

pub cross_fits : (p a x y : Polynomial) → CrossHasRoom p a x y → checked_cross p a x y ≡ Ok (cross p a x y)
unfolding checked_cross cross
cross_fits p a x y room =
    let first = products_within p x in
    let second = products_within a y in
    ap (λ c. c >>= (λ u. checked_times a y >>= (λ v. checked_minus u v)))
    (times_passes p x room.first_low (omega (arith, room.few)) (omega (arith, room.small)))
    ∙ ap (λ c. c >>= (λ v. checked_minus (times p x) v)) (times_passes a y room.second_low (omega (arith, room.few)) (omega (arith, room.small)))
    ∙ minus_passes (times p x) (times a y) (omega (arith, room.few, first.0, second.0)) (omega (arith, room.small, first.1, second.1))

-- ---- the measures of the value

pub cross_within : (p a x y : Polynomial) → (count (cross p a x y) ≤ cross_count p a x y) × (norm (cross p a x y) ≤ cross_norm p a x y)
unfolding cross minus
cross_within p a x y =
    let first = products_within p x in
    let second = products_within a y in
    let negative = negatives_within (times a y) in
    let sum = sums_within (times p x) (polys.neg (times a y)) in
    (omega (arith, sum.0, first.0, second.0, negative.0), omega (arith, sum.1, first.1, second.1, negative.1))

-- ---- the quotient

pub cross_quotients_fit :
    (p a x y f q : Polynomial) → f ≢ polys.zero → CrossHasRoom p a x y → DivisionHasRoom p a x y f q → times q f ≡ cross p a x y →
    IsCrossQuotient p a x y f q
unfolding quotient count
cross_quotients_fit p a x y f q some room division product = record {
  crosses = cross_fits p a x y room;
  divides = ap value_or_none (by f.terms refl);
}
  where
    by : (es : List (Mono × ℤ)) → f.terms ≡ es → checked_quotient (cross p a x y) f ≡ Ok (Some q)
    by [] empty = absurd (some (none_of monomials int_group f (ap (has_none monomials int_group) empty)))
    by (e ∷ es) f_is =
        let within = cross_within p a x y in
        let counted : length f.terms ≢ 0 = λ none. omega (arith, ap length f_is, none) in
        fitting_quotient (cross p a x y) f q e es f_is product (omega (arith, division.few, factor_le (count q) (count f) counted)) division.fits
        (omega (arith, division.few, within.0)) (omega (arith, division.small, within.1))
