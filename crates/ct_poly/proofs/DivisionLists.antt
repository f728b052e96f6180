-- The lists of a division: what is left after a step is listed by a merge without the leading terms. Main lemmas `can_step`
-- and `rest_is_listed`, which `rest_without` cites.
use Rattle.ct_poly.proofs.Base.{◌≡◌, ℕ, ◌+◌, ◌*◌, ◌≤◌, ℤ, neg_ℤ, ◌*ℤ◌, refl, nat_abs, List, [], ◌∷◌, length, Some, sym, ◌∙◌, ap, ap₂, subst, arith}
use Rattle.ct_poly.proofs.Base.{sum_by-cons, ints, leading, total, total-·, ◌·◌, polys, plus, times, term, abs-neg, largest_degree, largest_norm}
use Rattle.ct_poly.specs.declared.term.Term.{Term}
use Rattle.ct_poly.specs.Division.{Dividing, leading_over, step_of}
use Rattle.ct_poly.specs.Measures.{minus}
use Rattle.ct_poly.specs.Terms.{entries, entry, size_of, IsFalling, IsListOf, CanMultiply, poly_of_terms}
use Rattle.ct_poly.proofs.DivisionSteps.{IsNext, next_parts, rest_value, coef_nonzero}
use Rattle.ct_poly.proofs.TermLists.{terms_of, poly_of-one, nonzero_coef, greatest_total-falling}

-- what a term adds to the size of a list
abbrev size : Term → ℕ
size t = nat_abs t.coef

module _ {rest below divisor others : List Term} {top lead u : Term} (rest_is : rest ≡ top ∷ below) (by_is : divisor ≡ lead ∷ others)
    (falling : IsFalling rest × IsFalling divisor)
    (next : leading_over (leading (entries rest)) (leading (entries divisor)) ≡ Some (entry u)) where
  pub parts : (u.mono · lead.mono ≡ top.mono) × (u.coef *ℤ lead.coef ≡ top.coef)
  parts = next_parts (entry top) (entry lead) (entry u)
      (ap₂ (λ a b. leading_over (leading (entries a)) (leading (entries b))) (sym rest_is) (sym by_is) ∙ next)

  abbrev state : Dividing
  state = record { rest = poly_of_terms rest; quotient = polys.zero }

  abbrev is_next : IsNext (poly_of_terms rest).terms (poly_of_terms divisor).terms (entry u)
  is_next = record {
    top = entry top;
    below = entries below;
    rest_is = sym (terms_of rest falling.0 refl) ∙ ap entries rest_is;
    lead = entry lead;
    others = entries others;
    by_is = sym (terms_of divisor falling.1 refl) ∙ ap entries by_is;
    mono = parts.0;
    coef = parts.1;
  }

  -- the sizes leave room for the merge
  pub merge_small :
      (z : ℤ) → z ≡ neg_ℤ u.coef → size_of rest + nat_abs u.coef * size_of divisor ≤ largest_norm →
      size_of below + nat_abs z * size_of others ≤ largest_norm
  merge_small z z_is small =
      let sizes : nat_abs z ≡ nat_abs u.coef = ap nat_abs z_is ∙ abs-neg u.coef in
      omega (
        arith,
        small,
        sizes,
        ap size_of rest_is,
        sum_by-cons size top below,
        ap (λ n. n * size_of others) sizes,
        ap (λ n. nat_abs u.coef * n) (ap size_of by_is ∙ sum_by-cons size lead others),
      )

  pub can_step :
      (z : ℤ) → z ≡ neg_ℤ u.coef → total top.mono ≤ largest_degree → size_of rest + nat_abs u.coef * size_of divisor ≤ largest_norm →
      CanMultiply (record { mono = u.mono; coef = z } ∷ []) others
  can_step z z_is low small =
      let by_falls : IsFalling (lead ∷ others) = subst IsFalling by_is falling.1 in
      let sizes : nat_abs z ≡ nat_abs u.coef = ap nat_abs z_is ∙ abs-neg u.coef in
      record {
        first = (nonzero_coef z (λ none. coef_nonzero (poly_of_terms divisor) state (entry u) is_next (omega (arith, ints, z_is, none))), tt, tt);
        second = by_falls.2;
        degrees = omega (arith, low, ap total parts.0, total-· u.mono lead.mono, greatest_total-falling (lead ∷ others) by_falls);
        sizes = omega (
          arith,
          small,
          sizes,
          sum_by-cons size (record { mono = u.mono; coef = z }) [],
          ap size_of by_is,
          sum_by-cons size lead others,
          ap (λ n. n * size_of others) sizes,
          ap (λ n. nat_abs u.coef * n) (ap size_of by_is ∙ sum_by-cons size lead others),
        );
      }

  pub rest_is_listed :
      (z : ℤ) (v : List Term) → z ≡ neg_ℤ u.coef →
      IsListOf (plus (poly_of_terms below) (times (poly_of_terms (record { mono = u.mono; coef = z } ∷ [])) (poly_of_terms others)))
      (length below + length others) (size_of below + nat_abs z * size_of others) v →
      IsListOf (minus (poly_of_terms rest) (times (term u.mono u.coef) (poly_of_terms divisor))) (length rest + length divisor)
      (size_of rest + nat_abs u.coef * size_of divisor) v
  unfolding step_of poly_of_terms
  rest_is_listed z v z_is sum =
      let sizes : nat_abs z ≡ nat_abs u.coef = ap nat_abs z_is ∙ abs-neg u.coef in
      record {
        falling = sum.falling;
        value = sum.value ∙ ap (plus (poly_of_terms below))
            (ap (λ w. times w (poly_of_terms others)) (poly_of-one (record { mono = u.mono; coef = z }) ∙ ap (term u.mono) z_is)) ∙ sym stepped;
        few = omega (arith, sum.few, ap length rest_is, ap length by_is);
        small = omega (
          arith,
          sum.small,
          sizes,
          ap size_of rest_is,
          sum_by-cons size top below,
          ap (λ n. n * size_of others) sizes,
          ap (λ n. nat_abs u.coef * n) (ap size_of by_is ∙ sum_by-cons size lead others),
        );
      }
    where
      stepped : minus (poly_of_terms rest) (times (term u.mono u.coef) (poly_of_terms divisor)) ≡ plus (poly_of_terms below)
          (times (term u.mono (neg_ℤ u.coef)) (poly_of_terms others))
      stepped = rest_value (poly_of_terms divisor) state (entry u) is_next
