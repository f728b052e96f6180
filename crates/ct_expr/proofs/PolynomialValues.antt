-- The value of an expression without symbols is a polynomial. Main lemma `polynomials_lose_nothing`, since sums, differences
-- and products of polynomials are polynomials.
use Rattle.ct_expr.proofs.Base.{◌≡◌, ℕ, Bool, true, false, List, [], ◌∷◌, map, Ok, pos, unsigned_abs, refl, sym, ap, ap₂, ◌∙◌, subst, false≢true}
use Rattle.ct_expr.proofs.Base.{hom_neg, Name, name_with, Mono, unit, Polynomial, polys, times, number, name, Action, Operator, operator_of}
use Rattle.ct_expr.proofs.Base.{no_operator, negative, operator_group, polynomial_at, product_of, sum_of_operators, term_of, at-term_of}
use Rattle.ct_expr.proofs.Base.{negatives_are, pick-same, term_of-sum, term_of-zero, term_of_hom, multiple-term_of, product_of-polynomial, Checked}
use Rattle.ct_expr.proofs.Base.{both_fit, verdict_ok, checked_sum, checked_difference, checked_product, difference_of_operators, whole_operator}
use Rattle.ct_expr.proofs.Base.{common_divisor, over_whole, entry_over, checked_multiple}
use Rattle.ct_algebra.specs.Terms.{EachTerm}
use Rattle.ct_ore.proofs.OperatorMeasures.{terms-term_of}
use Rattle.ct_ore.proofs.WrittenOperators.{terms-no_operator}
use Rattle.ct_expr.specs.ValueArithmetic.{Value, lowest, negated, checked_plus, checked_minus, checked_times}
use Rattle.ct_expr.specs.Value.{operator_of_polynomial, value_of, fraction_of, has_no_symbol, no_symbol_step}
use Rattle.ct_expr.specs.ValueLaws.{PolynomialsLoseNothing}
use Rattle.ct_expr.proofs.ValueSteps.{plus_steps, minus_steps, times_steps}
use Rattle.ct_expr.proofs.ValueInduction.{Keeps, values_keep}
use Rattle.ct_algebra.proofs.OperatorLawProofs as operator_laws

-- ---- polynomials among operators

abbrev IsPlain : Operator → Type 0
IsPlain v = (p : Polynomial) × (v ≡ term_of unit p)

plain_is : (v : Operator) → IsPlain v → v ≡ operator_of_polynomial (polynomial_at v unit)
plain_is v plain =
    let coefficient : polynomial_at v unit ≡ plain.0 = ap (λ (w : Operator). polynomial_at w unit) plain.1 ∙ at-term_of unit unit plain.0
    ∙ pick-same unit unit plain.0 refl in
    plain.1 ∙ ap (term_of unit) (sym coefficient)

plain_zero : IsPlain no_operator
plain_zero = (polys.zero, sym (term_of-zero unit))

plain_sum : (v w : Operator) → IsPlain v → IsPlain w → IsPlain (sum_of_operators v w)
plain_sum v w p q = (polys.group.◌+◌ p.0 q.0, ap₂ sum_of_operators p.1 q.1 ∙ sym (term_of-sum unit p.0 q.0))

plain_negative : (v : Operator) → IsPlain v → IsPlain (negative v)
plain_negative v p = (polys.group.neg p.0, negatives_are v ∙ ap operator_group.neg p.1 ∙ sym (hom_neg (term_of_hom unit) p.0))

plain_product : (a : Name → Action) (v w : Operator) → IsPlain v → IsPlain w → IsPlain (product_of a v w)
plain_product a v w p q =
    (times p.0 q.0, ap₂ (product_of a) p.1 q.1 ∙ product_of-polynomial a p.0 (term_of unit q.0) ∙ multiple-term_of a p.0 unit q.0)

-- ---- checked steps

checked_sum-plain : (v w r : Operator) → IsPlain v → IsPlain w → checked_sum v w ≡ Ok r → IsPlain r
unfolding checked_sum
checked_sum-plain v w r p q e = subst IsPlain (verdict_ok _ _ _ e) (plain_sum v w p q)

checked_difference-plain : (v w r : Operator) → IsPlain v → IsPlain w → checked_difference v w ≡ Ok r → IsPlain r
unfolding checked_difference difference_of_operators
checked_difference-plain v w r p q e = subst IsPlain (verdict_ok _ _ _ e) (plain_sum v (negative w) p (plain_negative w q))

checked_product-plain : (a : Name → Action) (v w r : Operator) → IsPlain v → IsPlain w → checked_product a v w ≡ Ok r → IsPlain r
unfolding checked_product
checked_product-plain a v w r p q e = subst IsPlain (verdict_ok _ _ _ e) (plain_product a v w p q)

checked_multiple-plain : (a : Name → Action) (n : ℕ) (v r : Operator) → IsPlain v → checked_multiple a n v ≡ Ok r → IsPlain r
unfolding checked_multiple
checked_multiple-plain a n v r p e = subst IsPlain (verdict_ok _ _ _ e) (plain_product a (whole_operator n) v (number (pos n), refl) p)

-- ---- lowest terms

abbrev AllUnit : List (Mono × Polynomial) → Type 0
AllUnit es = EachTerm (λ m c. m ≡ unit) es

plain_list : (es : List (Mono × Polynomial)) → AllUnit es → IsPlain (operator_of es)
plain_list [] each = subst IsPlain (sym operator_laws.sums_of_terms.of_none) plain_zero
plain_list (e ∷ es) each =
    subst IsPlain (sym (operator_laws.sums_of_terms.of_more e es))
    (plain_sum (term_of e.0 e.1) (operator_of es) (e.1, ap (λ m. term_of m e.1) each.0) (plain_list es each.1))

over_units : (d : ℕ) (es : List (Mono × Polynomial)) → AllUnit es → AllUnit (map (entry_over d) es)
over_units d [] each = tt
over_units d (e ∷ es) each = (each.0, over_units d es each.1)

polynomial_units : (p : Polynomial) → AllUnit (term_of unit p).terms
polynomial_units p = by (polys.is_zero p) refl
  where
    by : (b : Bool) → polys.is_zero p ≡ b → AllUnit (term_of unit p).terms
    by true none =
        let absent : term_of unit p ≡ no_operator = ap (term_of unit) (polys.true_zero p none) ∙ term_of-zero unit in
        subst AllUnit (sym (ap (λ (v : Operator). v.terms) absent ∙ terms-no_operator)) tt
    by false some =
        subst AllUnit (sym (terms-term_of unit p (λ zero. let no : true ≡ false = sym (ap polys.is_zero zero ∙ polys.zero_true) ∙ some in
        false≢true (sym no)))) (refl, tt)

over_whole-plain : (d : ℕ) (v : Operator) → IsPlain v → IsPlain (over_whole d v)
unfolding over_whole
over_whole-plain d v p =
    plain_list (map (entry_over d) v.terms) (over_units d v.terms (subst (λ (w : Operator). AllUnit w.terms) (sym p.1) (polynomial_units p.0)))

-- ---- values

abbrev IsPlainValue : Value → Type 0
IsPlainValue v = IsPlain v.operator

lowest-plain : (x : Operator) (n : ℕ) → IsPlain x → IsPlainValue (lowest x n)
unfolding lowest
lowest-plain x n p = over_whole-plain (common_divisor x n) x p

negated-plain : (v r : Value) → IsPlainValue v → negated v ≡ Ok r → IsPlainValue r
unfolding negated
negated-plain v r p e =
    let step = both_fit (checked_difference no_operator v.operator) _ r e in
    let same : record { operator = step.value; whole = v.whole } ≡ r = let e = step.rest in cc in
    subst IsPlainValue same (checked_difference-plain no_operator v.operator step.value plain_zero p step.first)

checked_plus-plain : (a : Name → Action) (v w r : Value) → IsPlainValue v → IsPlainValue w → checked_plus a v w ≡ Ok r → IsPlainValue r
checked_plus-plain a v w r p q e =
    let s = plus_steps a v w r e in
    subst IsPlainValue s.last
    (lowest-plain s.total s.whole
    (checked_sum-plain s.mine s.its s.total (checked_multiple-plain a _ v.operator s.mine p s.first)
    (checked_multiple-plain a _ w.operator s.its q s.second) s.joined))

checked_minus-plain : (a : Name → Action) (v w r : Value) → IsPlainValue v → IsPlainValue w → checked_minus a v w ≡ Ok r → IsPlainValue r
checked_minus-plain a v w r p q e =
    let s = minus_steps a v w r e in
    subst IsPlainValue s.last
    (lowest-plain s.total s.whole
    (checked_difference-plain s.mine s.its s.total (checked_multiple-plain a _ v.operator s.mine p s.first)
    (checked_multiple-plain a _ w.operator s.its q s.second) s.joined))

checked_times-plain : (a : Name → Action) (v w r : Value) → IsPlainValue v → IsPlainValue w → checked_times a v w ≡ Ok r → IsPlainValue r
checked_times-plain a v w r p q e =
    let s = times_steps a v w r e in
    subst IsPlainValue s.last (lowest-plain s.product s.whole (checked_product-plain a v.operator w.operator s.product p q s.operators))

plain_keeps : (a : Name → Action) → Keeps a IsPlainValue no_symbol_step
unfolding no_symbol_step
plain_keeps a = record {
  nothing = plain_zero;
  one = (_, refl);
  negates = negated-plain;
  adds = checked_plus-plain a;
  subtracts = checked_minus-plain a;
  multiplies = checked_times-plain a;
  of_whole = λ n none. (number n, refl);
  of_ratio = λ n d none. lowest-plain (operator_of_polynomial (number n)) (unsigned_abs d) (number n, refl);
  of_name = λ i none. (name (name_with i), refl);
  of_symbol = λ i none. absurd (false≢true none);
  sums = λ bs. refl;
  products = λ bs. refl;
  powers = λ b n. refl;
}

pub polynomials_lose_nothing : PolynomialsLoseNothing
unfolding value_of has_no_symbol
polynomials_lose_nothing a x v e none =
    let step = both_fit (fraction_of a x) (λ (w : Value). let r : Checked Operator = Ok w.operator in r) v e in
    let same : step.value.operator ≡ v = let e = step.rest in cc in
    plain_is v (subst IsPlain same (values_keep (plain_keeps a) x step.value step.first none))
