-- A product is within the measures of its factors. Main lemma `product_within`, which the laws cite: the product is the sum of
-- the terms that its pairs make, so it has at most as many and no larger ones, each within the orders and degrees of both factors.
use Rattle.ct_ore.proofs.Base.{ℕ, ◌+◌, ◌<◌, ◌≤◌, ℤ, nat_abs, List, [], ◌∷◌, length, map, sym, ◌∙◌, ap, subst, subst₂, arith, mul-pos}
use Rattle.ct_ore.proofs.Base.{unsigned_abs-mul, sum_by-cons, Mono, monomials, total, total-·, Name, Action, Polynomial, count, norm, degree}
use Rattle.ct_ore.proofs.Base.{degree_greatest, norm_of, degree_of, Operator, no_operator, product_of, none, EachTerm, IsCanonical, int_group}
use Rattle.ct_ore.proofs.Base.{sums_are, none_is}
use Rattle.ct_ore.specs.declared.coefficient_term.CoefficientTerm.{CoefficientTerm}
use Rattle.ct_ore.specs.CoefficientTerms.{sum_of_parts, size_of, coefficient_terms}
use Rattle.ct_ore.specs.Measures.{term_count, term_norm, greatest, coefficient_degree, order_of, product_count, product_norm}
use Rattle.ct_ore.specs.PairTerms.{expanded, multiplied, multiplied_by, product_terms}
use Rattle.ct_ore.specs.Bounds.{EachWithin}
use Rattle.ct_ore.proofs.OneTerm.{terms-term, some_term, term_count-one, term_norm-one, coefficient_degree-one, order_of-one}
use Rattle.ct_ore.proofs.OperatorSums.{sum_within}
use Rattle.ct_ore.proofs.PairProduct.{product-value}
use Rattle.ct_ore.proofs.PartSums.{value_of, sum_of_parts-none, sum_of_parts-cons}
use Rattle.ct_ore.proofs.ProductBounds.{within-append, within-weaker, within-expanded}
use Rattle.ct_ore.proofs.ProductMeasures.{product_count-is, product_norm-is}
use Rattle.ct_ore.proofs.ProductRules.{coefficients_within}
use Rattle.ct_ore.proofs.SortedSums.{told_some, some_number}

-- ---- the sum of a list of terms

pub record IsBounded (terms size names symbols : ℕ) (p : Operator) : Type 0 where
  pub few : term_count p ≤ terms
  pub small : term_norm p ≤ size
  pub degrees : coefficient_degree p ≤ names
  pub orders : order_of p ≤ symbols

none_bounded : (b d : ℕ) → IsBounded 0 0 d b no_operator
unfolding term_count term_norm coefficient_degree order_of no_operator none
none_bounded b d = record { few = omega arith; small = omega arith; degrees = omega arith; orders = omega arith }

value_bounded :
    (t : CoefficientTerm) → 0 < nat_abs t.number → IsBounded 1 (nat_abs t.number) (total t.names) (total t.symbols) (value_of t)
unfolding count norm degree
value_bounded t some =
    let told = told_some t.number some in
    let list = terms-term t.names t.number told in
    let nonzero = some_term t.names t.number told in record {
      few = omega (arith, term_count-one t.symbols _ nonzero, ap length list);
      small = omega (arith, term_norm-one t.symbols _ nonzero, ap norm_of list);
      degrees = omega (arith, coefficient_degree-one t.symbols _ nonzero, ap degree_of list);
      orders = omega (arith, order_of-one t.symbols _ nonzero);
    }

parts_bounded :
    (b d : ℕ) (ts : List CoefficientTerm) → EachWithin b d ts → IsBounded (length ts) (size_of ts) d b (sum_of_parts ts)
parts_bounded b d [] each = subst (IsBounded 0 0 d b) (none_is ∙ sym sum_of_parts-none) (none_bounded b d)
parts_bounded b d (t ∷ ts) each =
    let one = value_bounded t each.0.some in
    let later = parts_bounded b d ts each.1 in
    let both = sum_within (value_of t) (sum_of_parts ts) in
    subst (IsBounded (length (t ∷ ts)) (size_of (t ∷ ts)) d b) (sums_are _ _ ∙ sym (sum_of_parts-cons t ts)) (record {
      few = omega (arith, one.few, later.few, both.count);
      small = omega (arith, one.small, later.small, both.norm, sum_by-cons (λ (u : CoefficientTerm). nat_abs u.number) t ts);
      degrees = omega (arith, one.degrees, each.0.names, later.degrees, both.degree);
      orders = omega (arith, one.orders, each.0.symbols, later.orders, both.order);
    })

-- ---- the terms of a product

within-multiplied :
    (b d k : ℕ) (n : Mono) (x : ℤ) (ts : List CoefficientTerm) → total n ≤ k → 0 < nat_abs x → EachWithin b d ts →
    EachWithin b (k + d) (multiplied n x ts)
within-multiplied b d k n x [] low some each = tt
within-multiplied b d k n x (t ∷ ts) low some each = (
  record {
    symbols = each.0.symbols;
    names = omega (arith, total-· n t.names, low, each.0.names);
    some = subst (λ m. 0 < m) (sym (unsigned_abs-mul x t.number)) (mul-pos some each.0.some);
  },
  within-multiplied b d k n x ts low some each.1,
)

within-multiplied_by :
    (b d k : ℕ) (us : List (Mono × ℤ)) (ts : List CoefficientTerm) → IsCanonical monomials int_group us →
    EachTerm (λ n x. total n ≤ k) us → EachWithin b d ts → EachWithin b (k + d) (multiplied_by us ts)
within-multiplied_by b d k [] ts falls low each = tt
within-multiplied_by b d k (u ∷ us) ts falls low each =
    within-append b (k + d) (multiplied u.0 u.1 ts) (multiplied_by us ts)
    (within-multiplied b d k u.0 u.1 ts low.0 (some_number u.1 falls.0) each)
    (within-multiplied_by b d k us ts falls.2 low.1 each)

module _ (a : Name → Action) where
  within-product_terms :
      (o g b d : ℕ) (es : List (Mono × Polynomial)) (ts : List CoefficientTerm) →
      greatest (map (λ (e : Mono × Polynomial). total e.0) es) ≤ o →
      greatest (map (λ (e : Mono × Polynomial). degree e.1) es) ≤ g → EachWithin b d ts →
      EachWithin (o + b) (g + d) (product_terms a es ts)
  within-product_terms o g b d [] ts orders degrees each = tt
  within-product_terms o g b d (e ∷ es) ts orders degrees each =
      within-append (o + b) (g + d) (multiplied_by e.1.terms (expanded a e.0 ts)) (product_terms a es ts)
      (within-weaker (b + total e.0) (degree e.1 + d) (o + b) (g + d) (omega arith) (omega arith) _
      (within-multiplied_by (b + total e.0) d (degree e.1) e.1.terms (expanded a e.0 ts) e.1.canonical (degree_greatest e.1)
      (within-expanded a e.0 ts b d each)))
      (within-product_terms o g b d es ts (omega arith) (omega arith) each)

  module _ (p q : Operator) where
    abbrev parts : List CoefficientTerm
    parts = product_terms a p.terms (coefficient_terms q)

    abbrev pub IsWithinFactors : ℕ → ℕ → Operator → Type 0
    IsWithinFactors terms size r = IsBounded terms size (coefficient_degree p + coefficient_degree q) (order_of p + order_of q) r

    parts_each : EachWithin (order_of p + order_of q) (coefficient_degree p + coefficient_degree q) parts
    unfolding order_of coefficient_degree
    parts_each =
        within-product_terms (order_of p) (coefficient_degree p) (order_of q) (coefficient_degree q) p.terms (coefficient_terms q)
        (omega arith) (omega arith) (coefficients_within q)

    pub product_within : IsWithinFactors (product_count a p q) (product_norm a p q) (product_of a p q)
    product_within =
        subst (IsWithinFactors (product_count a p q) (product_norm a p q)) (product-value a p q)
        (subst₂ (λ n s. IsWithinFactors n s (sum_of_parts parts)) (product_count-is a p q) (product_norm-is a p q)
        (parts_bounded (order_of p + order_of q) (coefficient_degree p + coefficient_degree q) parts parts_each))
