-- A product that no rule refuses: its terms can be made, and what they add up to is the product.
-- Main lemmas `none_fits` (what holds where no rule is broken), `can_multiply`, `answers_value`. Cited by the product of operators
-- and, with `fits_none`, `zero_left_fits` and `zero_right_fits`, by the laws.
use Rattle.ct_ore.proofs.Base.{◌≡◌, ◌≢◌, refl, ℕ, ◌+◌, ◌*◌, ◌<◌, ◌≤◌, cond, Bool, true, false, ℤ, nat_abs, List, [], ◌∷◌, map, length, sym, ◌∙◌, ap}
use Rattle.ct_ore.proofs.Base.{ap₂, subst, arith, Some, None, Option, Ok, Err, T, ltb-false, le-ltb, IsTrue, sum_by-cons, none_added, EachTerm}
use Rattle.ct_ore.proofs.Base.{IsCanonical, has_none, same_terms, int_group, Mono, total, monomials, Name, Action, Polynomial, polys, degree}
use Rattle.ct_ore.proofs.Base.{degree_greatest, norm, norm_of, Operator, operator_group, no_operator, product_of, product_of-sum, sum_of_operators}
use Rattle.ct_ore.proofs.Base.{sums_are, none_is, verdict, largest_degree, Kind, broken}
use Rattle.ct_algebra.proofs.AppliedOperators.{no_operator-product_of}
use Rattle.ct_ore.specs.declared.coefficient_term.CoefficientTerm.{CoefficientTerm}
use Rattle.ct_ore.specs.CoefficientTerms.{sum_of_parts, size_of, row_of, all_terms, coefficient_terms}
use Rattle.ct_ore.specs.Measures.{greatest, coefficient_degree, order_of, product_overflow, checked_product}
use Rattle.ct_ore.specs.MeasureLaws.{FitsProduct}
use Rattle.ct_ore.specs.PairTerms.{product_terms}
use Rattle.ct_ore.specs.Bounds.{EachWithin, HasRoom, CanMultiply}
use Rattle.ct_ore.specs.Lists.{Fits, IsSum}
use Rattle.ct_ore.proofs.PairMeasureLaws.{begin, by_norm, none_of_zero, nonzero_product}
use Rattle.ct_ore.proofs.ProductBounds.{within-append}
use Rattle.ct_ore.proofs.PairProduct.{product-value}
use Rattle.ct_ore.proofs.ProductMeasures.{product_count-is, product_norm-is}
use Rattle.ct_ore.proofs.SortedSums.{some_number}
use Rattle.ct_ore.proofs.WrittenForm.{coefficients_written}
use Rattle.ct_ore.proofs.WrittenOperators.{terms-no_operator}

-- ---- a factor that is zero

pub product_of-none : (a : Name → Action) (p : Operator) → product_of a p no_operator ≡ no_operator
product_of-none a p =
    none_added operator_group (product_of a p no_operator)
    (ap (product_of a p) (sym twice) ∙ product_of-sum a p no_operator no_operator ∙ sums_are _ _)
    ∙ sym none_is
  where
    twice : sum_of_operators no_operator no_operator ≡ no_operator
    twice = sums_are _ _ ∙ ap₂ operator_group.◌+◌ none_is none_is ∙ operator_group.add_zero operator_group.zero ∙ sym none_is

pub zero_left_fits : (a : Name → Action) (p q : Operator) → p ≡ no_operator → product_overflow a p q ≡ None
zero_left_fits a p q none =
    sym (none_of_zero a p q (ap (λ w. length w.terms * length q.terms) none ∙ ap (λ es. length es * length q.terms) terms-no_operator ∙ omega arith))

pub zero_right_fits : (a : Name → Action) (p q : Operator) → q ≡ no_operator → product_overflow a p q ≡ None
zero_right_fits a p q none =
    sym (none_of_zero a p q (ap (λ w. length p.terms * length w.terms) none ∙ ap (λ es. length p.terms * length es) terms-no_operator ∙ omega arith))

pub zero_left : (a : Name → Action) (p q r : Operator) → p ≡ no_operator → r ≡ no_operator → checked_product a p q ≡ Ok r
unfolding checked_product verdict
zero_left a p q r none same =
    ap (λ o. verdict o (product_of a p q)) (zero_left_fits a p q none)
    ∙ ap Ok (ap (λ w. product_of a w q) none ∙ no_operator-product_of a q ∙ sym same)

pub zero_right : (a : Name → Action) (p q r : Operator) → q ≡ no_operator → r ≡ no_operator → checked_product a p q ≡ Ok r
unfolding checked_product verdict
zero_right a p q r none same =
    ap (λ o. verdict o (product_of a p q)) (zero_right_fits a p q none)
    ∙ ap Ok (ap (product_of a p) none ∙ product_of-none a p ∙ sym same)

-- ---- where no rule is broken

broken_none : (b : Bool) (k : Kind) (later : Option Kind) → broken b k later ≡ None → (b ≡ false) × (later ≡ None)
broken_none true k later e = cc
broken_none false k later e = (refl, e)

nonempty : (p : Operator) → (p ≡ no_operator → ⊥) → length p.terms ≢ 0
nonempty p some none = some (same_terms monomials polys.group p no_operator (no_terms p.terms none ∙ sym terms-no_operator))
  where
    no_terms : (es : List (Mono × Polynomial)) → length es ≡ 0 → es ≡ []
    no_terms [] e = refl
    no_terms (e ∷ es) none = absurd (omega arith)

pub none_fits :
    (a : Name → Action) (p q : Operator) → (p ≡ no_operator → ⊥) → (q ≡ no_operator → ⊥) → None ≡ product_overflow a p q →
    FitsProduct a p q
none_fits a p q left right none =
    let one = broken_none _ _ _ (sym (begin a p q (nonzero_product _ _ (nonempty p left) (nonempty q right))) ∙ sym none) in
    let two = broken_none _ _ _ one.1 in
    let three = broken_none _ _ _ two.1 in
    let four = broken_none _ _ _ three.1 in
    record { degrees = ltb-false _ _ one.0; orders = ltb-false _ _ two.0; count = ltb-false _ _ three.0; norm = ltb-false _ _ four.0 }

pub fits_none :
    (a : Name → Action) (p q : Operator) → (p ≡ no_operator → ⊥) → (q ≡ no_operator → ⊥) → FitsProduct a p q →
    product_overflow a p q ≡ None
fits_none a p q left right fits =
    let some = nonzero_product _ _ (nonempty p left) (nonempty q right) in
    sym (by_norm a p q some fits.degrees fits.orders (le-ltb _ _ fits.count) false (le-ltb _ _ fits.norm))

-- ---- the terms of both factors

some_norm :
    (us : List (Mono × ℤ)) → IsCanonical monomials int_group us → T (cond (has_none monomials int_group us) false true) →
    0 < norm_of us
some_norm [] h some = absurd some
some_norm (u ∷ us) h some = omega (arith, some_number u.1 h.0, sum_by-cons (λ (u : Mono × ℤ). nat_abs u.1) u us)

row_within :
    (b d : ℕ) (m : Mono) (us : List (Mono × ℤ)) → total m ≤ b → IsCanonical monomials int_group us →
    EachTerm (λ n x. total n ≤ d) us → EachWithin b d (row_of m us)
row_within b d m [] low h each = tt
row_within b d m (u ∷ us) low h each =
    (record { symbols = low; names = each.0; some = some_number u.1 h.0 }, row_within b d m us low h.2 each.1)

lower : (d g : ℕ) (us : List (Mono × ℤ)) → d ≤ g → EachTerm (λ n x. total n ≤ d) us → EachTerm (λ n x. total n ≤ g) us
lower d g [] below each = tt
lower d g (u ∷ us) below each = (omega (arith, each.0), lower d g us below each.1)

all_within :
    (b d : ℕ) (es : List (Mono × Polynomial)) → greatest (map (λ (e : Mono × Polynomial). total e.0) es) ≤ b →
    greatest (map (λ (e : Mono × Polynomial). degree e.1) es) ≤ d → EachWithin b d (all_terms es)
all_within b d [] orders degrees = tt
all_within b d (e ∷ es) orders degrees =
    within-append b d (row_of e.0 e.1.terms) (all_terms es)
    (row_within b d e.0 e.1.terms (omega arith) e.1.canonical (lower (degree e.1) d e.1.terms (omega arith) (degree_greatest e.1)))
    (all_within b d es (omega arith) (omega arith))

pub coefficients_within : (p : Operator) → EachWithin (order_of p) (coefficient_degree p) (coefficient_terms p)
unfolding order_of coefficient_degree coefficient_terms
coefficients_within p = all_within _ _ p.terms (omega arith) (omega arith)

rooms :
    (b d order names : ℕ) → b + order ≤ largest_degree → d + names ≤ largest_degree → (es : List (Mono × Polynomial)) →
    IsCanonical monomials polys.group es → greatest (map (λ (e : Mono × Polynomial). total e.0) es) ≤ b →
    greatest (map (λ (e : Mono × Polynomial). degree e.1) es) ≤ d → EachTerm (HasRoom order names) es
unfolding norm
rooms b d order names p q [] h orders degrees = tt
rooms b d order names p q (e ∷ es) h orders degrees = (
  record { symbols = omega arith; degrees = omega arith; some = some_norm e.1.terms e.1.canonical h.0 },
  rooms b d order names p q es h.2 (omega arith) (omega arith),
)

pub can_multiply :
    (a : Name → Action) (p q : Operator) (ts : List CoefficientTerm) → ts ≡ coefficient_terms q → FitsProduct a p q →
    CanMultiply a p.terms ts
unfolding order_of coefficient_degree
can_multiply a p q ts list fits = subst (CanMultiply a p.terms) (sym list) (record {
  order = order_of q;
  names = coefficient_degree q;
  within = omega (arith, fits.degrees);
  rooms = rooms (order_of p) (coefficient_degree p) (order_of q) (coefficient_degree q) fits.orders fits.degrees p.terms p.canonical (omega arith)
      (omega arith);
  each = coefficients_within q;
  written = coefficients_written q;
  small = omega (arith, fits.norm, product_norm-is a p q);
})

-- ---- a list with the sum of the terms is the product

pub product_fits :
    (a : Name → Action) (p q : Operator) (es : List (Mono × Polynomial)) (ts vs : List CoefficientTerm) → es ≡ p.terms →
    ts ≡ coefficient_terms q → IsSum (product_terms a es ts) vs → FitsProduct a p q → Fits vs
product_fits a p q es ts vs left right sum fits = record {
  written = sum.written;
  few = omega (arith, sum.few, fits.count, product_count-is a p q, ap length (ap₂ (product_terms a) left right));
  small = omega (arith, sum.small, fits.norm, product_norm-is a p q, ap size_of (ap₂ (product_terms a) left right));
}

pub answers_value :
    (a : Name → Action) (p q r : Operator) (es : List (Mono × Polynomial)) (ts vs : List CoefficientTerm) → es ≡ p.terms →
    ts ≡ coefficient_terms q → IsSum (product_terms a es ts) vs → r ≡ sum_of_parts vs → None ≡ product_overflow a p q →
    checked_product a p q ≡ Ok r
unfolding checked_product verdict
answers_value a p q r es ts vs left right sum value none =
    ap (λ o. verdict o (product_of a p q)) (sym none)
    ∙ ap Ok (sym (value ∙ sum.value ∙ ap sum_of_parts (ap₂ (product_terms a) left right) ∙ product-value a p q))

pub answers_kind :
    (a : Name → Action) (p q : Operator) (k : Kind) → Some k ≡ product_overflow a p q → checked_product a p q ≡ Err k
unfolding checked_product verdict
answers_kind a p q k over = ap (λ o. verdict o (product_of a p q)) (sym over)

pub told_some : (p : Operator) (b : Bool) → (p ≡ no_operator → IsTrue b) → b ≡ false → p ≡ no_operator → ⊥
told_some p b tells no_zero none = let yes_zero : b ≡ true = tells none in cc
