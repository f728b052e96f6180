-- A product that was found in cells, as what is taken out of them by 1: main lemmas `factors_small` and `product_is`, which
-- `cell_product` cites.
-- The measures of a product are at most the products of the measures, however it was found.
use Rattle.ct_poly.proofs.Base.{◌≡◌, ◌≢◌, refl, ℕ, ◌*◌, ◌≤◌, pos, nat_abs, List, [], ◌∷◌, length, sym, ◌∙◌, ap, ap₂, arith, sum_by-cons, not_zero}
use Rattle.ct_poly.proofs.Base.{monomials, unit, Polynomial, polys, plus, times, count, norm, term, number_is, one_is, int_group, largest_norm}
use Rattle.ct_poly.specs.declared.term.Term.{Term}
use Rattle.ct_poly.specs.Cells.{IsQuotient}
use Rattle.ct_poly.specs.Terms.{CanMultiply, IsFalling, IsListOf, poly_of_terms, size_of}
use Rattle.ct_poly.proofs.CellSteps.{factor_le}
use Rattle.ct_poly.proofs.CrossCells.{no_product}
use Rattle.ct_poly.proofs.TermLists.{poly_of-one, count_of-terms, norm_of-terms}
use Rattle.ct_poly.proofs.WholeQuotients.{positive_abs}
use Rattle.ct_poly.proofs.Within.{products_within}

some_size : (ts : List Term) → IsFalling ts → length ts ≢ 0 → size_of ts ≢ 0
some_size [] falling some = absurd (some refl)
some_size (t ∷ ts) falling some =
    λ none. omega (arith, none, sum_by-cons (λ t. nat_abs t.coef) t ts, positive_abs t.coef (not_zero monomials int_group t.coef falling.0))

pub factors_small :
    {ps qs : List Term} → CanMultiply ps qs → length ps ≢ 0 → length qs ≢ 0 →
    (size_of ps ≤ largest_norm) × (size_of qs ≤ largest_norm)
factors_small {ps} {qs} can first second = (
  omega (arith, can.sizes, factor_le (size_of ps) (size_of qs) (some_size qs can.second second)),
  omega (arith, can.sizes, factor_le (size_of qs) (size_of ps) (some_size ps can.first first)),
)

by_one : (p : Polynomial) (t : Term) → t ≡ record { mono = unit; coef = pos 1 } → times p (poly_of_terms (t ∷ [])) ≡ p
unfolding times
by_one p t one =
    ap (polys.◌*◌ p) (poly_of-one t ∙ (λ i. term (one i).mono (one i).coef) ∙ sym (one_is ∙ number_is (pos 1))) ∙ polys.mul_one p

module _ (other : List Term) {ps qs ones none us v : List Term} {n m : ℕ}
    (ones_are : ones ≡ record { mono = unit; coef = pos 1 } ∷ []) (none_is : none ≡ []) (can : CanMultiply ps qs)
    (found : IsQuotient (plus (times (poly_of_terms ps) (poly_of_terms qs)) (times (poly_of_terms none) (poly_of_terms other))) n m ones us)
    (list : IsListOf (poly_of_terms us) (length us) (size_of us) v) where
  value : poly_of_terms v ≡ times (poly_of_terms ps) (poly_of_terms qs)
  value =
      list.value ∙ sym (by_one (poly_of_terms us) _ refl) ∙ ap (λ w. times (poly_of_terms us) (poly_of_terms w)) (sym ones_are) ∙ found.value
      ∙ ap (λ w. plus (times (poly_of_terms ps) (poly_of_terms qs)) (times (poly_of_terms w) (poly_of_terms other))) none_is
      ∙ no_product _ (poly_of_terms other)

  pub product_is : IsListOf (times (poly_of_terms ps) (poly_of_terms qs)) (length ps * length qs) (size_of ps * size_of qs) v
  product_is =
      let within = products_within (poly_of_terms ps) (poly_of_terms qs) in
      let counts = ap₂ ◌*◌ (count_of-terms ps can.first refl) (count_of-terms qs can.second refl) in
      let norms = ap₂ ◌*◌ (norm_of-terms ps can.first refl) (norm_of-terms qs can.second refl) in
      record {
        falling = list.falling;
        value = value;
        few = omega (arith, count_of-terms v list.falling value, within.0, counts);
        small = omega (arith, norm_of-terms v list.falling value, within.1, norms);
      }
