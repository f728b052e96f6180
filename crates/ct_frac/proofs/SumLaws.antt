-- Sums, differences and products of written fractions have the values of the field operations. Main lemmas `sum-value`,
-- `difference-value`, `product-value` and `same_value_is`, which the calls of `Frac` cite.
-- Each numerator is cleared to the common denominator, so the cross products of the sum are equal.
use Rattle.ct_frac.proofs.Base.{◌≡◌, ◌≢◌, refl, ℕ, ◌*◌, ◌≤◌, pos, Bool, true, false, cond, ◌||◌, Ok, Err, List, [], ◌∷◌, ◌↔◌, IfOk, Result, sym, ◌∙◌}
use Rattle.ct_frac.proofs.Base.{ap, ap₂, subst, arith, IsTrue, le-mul_of_pos_right, common_steps, Polynomial, polys, polys_domain, plus, times}
use Rattle.ct_frac.proofs.Base.{times_assoc, zero_mul, mul_zero, neg_mul, neg_neg, neg_unique, ring4, ring5, reify, number, K, field, Checked}
use Rattle.ct_frac.proofs.Base.{Answers, both_fit, verdict_ok, checked_plus, checked_minus, checked_times, minus, checked_whole, whole_ok}
use Rattle.ct_checked.specs.declared.fault.Fault.{Fault}
use Rattle.ct_frac.specs.declared.factor.Factor.{Factor}
use Rattle.ct_frac.specs.Arithmetic.{DividesFactors, checked_joined_all, checked_common, checked_cleared, checked_fraction_sum}
use Rattle.ct_frac.specs.Arithmetic.{checked_fraction_difference, checked_full_product, checked_fraction_product, checked_same_value}
use Rattle.ct_frac.specs.Normal.{normal}
use Rattle.ct_frac.specs.Written.{Denominator, Written, IsDenominator, IsWritten, product_of_factors, multiplied_out, value, value_over, one_den}
use Rattle.ct_frac.specs.Written.{whole_polynomial}
use Rattle.ct_frac.proofs.Clearing.{times_ok, cleared_ok}
use Rattle.ct_frac.proofs.CommonDenominators.{common_divided}
use Rattle.ct_frac.proofs.Denominators.{den_nonzero, number-product}
use Rattle.ct_frac.proofs.JoinedFactors.{same_ok, joined_all_ok}
use Rattle.ct_frac.proofs.NormalLaws.{normal_written, normal-value, one_is_den, whole_written}
use Rattle.ct_frac.proofs.Products.{times_left_comm}
use Rattle.ct_frac.proofs.Quotients.{same_over, over-sum, over-times, over-negative, over_zero, times_nonzero}
use Rattle.ct_frac.proofs.Fractions.{over-one}

-- ---- cleared to one denominator

-- what is known of the steps before the numerators are added
record Cleared (x y : Written) (d : Denominator) (a b : Polynomial) : Type 0 where
  den : IsDenominator d
  first : times a (multiplied_out x.den) ≡ times x.numerator (multiplied_out d)
  second : times b (multiplied_out y.den) ≡ times y.numerator (multiplied_out d)

cleared_both :
    (x y : Written) (d : Denominator) (a b : Polynomial) → IsWritten x → IsWritten y → checked_common one_den (x ∷ y ∷ []) ≡ Ok d →
    checked_cleared x d ≡ Ok a → checked_cleared y d ≡ Ok b → Cleared x y d a b
cleared_both x y d a b is it common mine its =
    let all = common_divided one_den (x ∷ y ∷ []) d common one_is_den (is, (it, tt)) in
    record {
      den = all.den;
      first = cleared_ok x d a is.den all.den all.each.0 mine;
      second = cleared_ok y d b it.den all.den all.each.1.0 its;
    }

-- the sum of cleared numerators over the denominator
added :
    (n m x y d a b : Polynomial) → x ≢ polys.zero → y ≢ polys.zero → d ≢ polys.zero → times a x ≡ times n d → times b y ≡ times m d →
    value_over (plus a b) d ≡ field.◌+◌ (value_over n x) (value_over m y)
unfolding plus times
added n m x y d a b some_x some_y some_d first second =
    same_over (plus a b) d (plus (times n y) (times m x)) (times x y) some_d (times_nonzero x y some_x some_y)
    (ring4 polys a b x y (λ a b c d. (search reify depth 20, search reify depth 20)) refl
    ∙ ap₂ (λ u w. polys.◌+◌ (polys.◌*◌ u y) (polys.◌*◌ w x)) first second
    ∙ ring5 polys n m x y d (λ a b c d e. (search reify depth 20, search reify depth 20)) refl)
    ∙ sym (over-sum n x m y some_x some_y)

plus_ok : (p q r : Polynomial) → checked_plus p q ≡ Ok r → plus p q ≡ r
unfolding checked_plus
plus_ok p q r fits = verdict_ok _ (plus p q) r fits

pub minus_ok : (p q r : Polynomial) → checked_minus p q ≡ Ok r → minus p q ≡ r
unfolding checked_minus
minus_ok p q r fits = verdict_ok _ (minus p q) r fits

pub sum-value : (x y r : Written) → IsWritten x → IsWritten y → checked_fraction_sum x y ≡ Ok r → value r ≡ field.◌+◌ (value x) (value y)
unfolding checked_fraction_sum
sum-value x y r is it answer =
    let common = both_fit (checked_common one_den (x ∷ y ∷ [])) _ r answer in
    let mine = both_fit (checked_cleared x common.value) _ r common.rest in
    let its = both_fit (checked_cleared y common.value) _ r mine.rest in
    let whole = both_fit (checked_plus mine.value its.value) _ r its.rest in
    let cleared = cleared_both x y common.value mine.value its.value is it common.first mine.first its.first in
    ap value (sym (same_ok (normal whole.value common.value) r whole.rest))
    ∙ normal-value whole.value common.value cleared.den
    ∙ ap (λ n. value_over n (multiplied_out common.value)) (sym (plus_ok mine.value its.value whole.value whole.first))
    ∙ (unfold value in added x.numerator y.numerator (multiplied_out x.den) (multiplied_out y.den) (multiplied_out common.value) mine.value its.value
    (den_nonzero x.den is.den) (den_nonzero y.den it.den) (den_nonzero common.value cleared.den) cleared.first cleared.second)

pub minus_is : (p q : Polynomial) → minus p q ≡ plus p (polys.neg q)
unfolding minus
minus_is p q = refl

negated_times : (p q : Polynomial) → times (polys.neg p) q ≡ polys.neg (times p q)
unfolding times
negated_times p q = neg_mul polys p q

pub difference-value :
    (x y r : Written) → IsWritten x → IsWritten y → checked_fraction_difference x y ≡ Ok r →
    value r ≡ field.◌+◌ (value x) (field.neg (value y))
unfolding checked_fraction_difference
difference-value x y r is it answer =
    let common = both_fit (checked_common one_den (x ∷ y ∷ [])) _ r answer in
    let mine = both_fit (checked_cleared x common.value) _ r common.rest in
    let its = both_fit (checked_cleared y common.value) _ r mine.rest in
    let whole = both_fit (checked_minus mine.value its.value) _ r its.rest in
    let cleared = cleared_both x y common.value mine.value its.value is it common.first mine.first its.first in
    let turned : times (polys.neg its.value) (multiplied_out y.den) ≡ times (polys.neg y.numerator) (multiplied_out common.value) =
    negated_times _ _ ∙ ap polys.neg cleared.second ∙ sym (negated_times _ _) in
    ap value (sym (same_ok (normal whole.value common.value) r whole.rest))
    ∙ normal-value whole.value common.value cleared.den
    ∙ ap (λ n. value_over n (multiplied_out common.value)) (sym (minus_ok mine.value its.value whole.value whole.first)
    ∙ minus_is mine.value its.value)
    ∙ added x.numerator (polys.neg y.numerator) (multiplied_out x.den) (multiplied_out y.den) (multiplied_out common.value) mine.value
    (polys.neg its.value)
    (den_nonzero x.den is.den) (den_nonzero y.den it.den) (den_nonzero common.value cleared.den) cleared.first turned
    ∙ (unfold value in ap (field.◌+◌ (value x)) (sym (over-negative y.numerator (multiplied_out y.den) (den_nonzero y.den it.den))))

pub sum_written : (x y r : Written) → IsWritten x → IsWritten y → checked_fraction_difference x y ≡ Ok r → IsWritten r
unfolding checked_fraction_difference
sum_written x y r is it answer =
    let common = both_fit (checked_common one_den (x ∷ y ∷ [])) _ r answer in
    let mine = both_fit (checked_cleared x common.value) _ r common.rest in
    let its = both_fit (checked_cleared y common.value) _ r mine.rest in
    let whole = both_fit (checked_minus mine.value its.value) _ r its.rest in
    let all = common_divided one_den (x ∷ y ∷ []) common.value common.first one_is_den (is, (it, tt)) in
    subst IsWritten (same_ok (normal whole.value common.value) r whole.rest) (normal_written whole.value common.value all.den)

-- ---- products

pub record ProductDen (d e w : Denominator) : Type 0 where
  pub den : IsDenominator w
  pub product : multiplied_out w ≡ times (multiplied_out d) (multiplied_out e)

pub product_den :
    (d e : Denominator) (whole : ℕ) (fs : List Factor) → IsDenominator d → IsDenominator e →
    checked_whole (d.whole * e.whole) ≡ Ok whole → checked_joined_all d.factors e.factors ≡ Ok fs →
    ProductDen d e (record { whole = whole; factors = fs })
unfolding multiplied_out
product_den d e whole fs is it wholes joined =
    let kept = whole_ok (d.whole * e.whole) whole wholes in
    let all = joined_all_ok d.factors e.factors fs joined is.factors it.factors in
    let high : d.whole ≤ d.whole * e.whole = le-mul_of_pos_right d.whole it.positive in
    record {
      den = record { positive = let some = is.positive in let same = kept.same in omega arith; within = kept.low; factors = all.factors };
      product = ap₂ times (ap (λ k. number (pos k)) (sym kept.same) ∙ number-product d.whole e.whole) all.product
          ∙ sorted (number (pos d.whole)) (number (pos e.whole)) (product_of_factors d.factors) (product_of_factors e.factors);
    }
  where
    sorted : (a b c d : Polynomial) → times (times a b) (times c d) ≡ times (times a c) (times b d)
    sorted a b c d = times_assoc a b _ ∙ ap (times a) (times_left_comm b c d) ∙ sym (times_assoc a c _)

full_product-value :
    (x y r : Written) → IsWritten x → IsWritten y → checked_full_product x y ≡ Ok r → value r ≡ field.◌*◌ (value x) (value y)
unfolding checked_full_product
full_product-value x y r is it answer =
    let n = both_fit (checked_times x.numerator y.numerator) _ r answer in
    let whole = both_fit (checked_whole (x.den.whole * y.den.whole)) _ r n.rest in
    let factors = both_fit (checked_joined_all x.den.factors y.den.factors) _ r whole.rest in
    let den = product_den x.den y.den whole.value factors.value is.den it.den whole.first factors.first in
    let d : Denominator = record { whole = whole.value; factors = factors.value } in
    ap value (sym (same_ok (normal n.value d) r factors.rest))
    ∙ normal-value n.value d den.den
    ∙ ap₂ value_over (sym (times_ok x.numerator y.numerator n.value n.first)) den.product
    ∙ (unfold value in sym (over-times x.numerator (multiplied_out x.den) y.numerator (multiplied_out y.den) (den_nonzero x.den is.den)
    (den_nonzero y.den it.den)))

over-zero : (d : Polynomial) → d ≢ polys.zero → value_over polys.zero d ≡ field.zero
unfolding times
over-zero d some = same_over polys.zero d polys.zero polys.one some polys_domain.proper (zero_mul polys polys.one ∙ sym (zero_mul polys d))
    ∙ over-one polys.zero

value-zero : (w : Written) → IsWritten w → w.numerator ≡ polys.zero → value w ≡ field.zero
unfolding value
value-zero w is none = ap (λ n. value_over n (multiplied_out w.den)) none ∙ over-zero (multiplied_out w.den) (den_nonzero w.den is.den)

pub product-value :
    (x y r : Written) → IsWritten x → IsWritten y → checked_fraction_product x y ≡ Ok r → value r ≡ field.◌*◌ (value x) (value y)
unfolding checked_fraction_product
product-value x y r is it answer = by (polys.is_zero x.numerator) (polys.is_zero y.numerator) refl refl answer
  where
    zero_is : ◌≡◌ {A = Checked Written} (Ok (whole_polynomial polys.zero)) (Ok r) → value r ≡ field.zero
    zero_is same = ap value (sym (same_ok (whole_polynomial polys.zero) r same))
        ∙ value-zero (whole_polynomial polys.zero) (whole_written polys.zero) refl

    by :
        (s t : Bool) → polys.is_zero x.numerator ≡ s → polys.is_zero y.numerator ≡ t →
        cond (s || t) (Ok (whole_polynomial polys.zero)) (checked_full_product x y) ≡ Ok r →
        value r ≡ field.◌*◌ (value x) (value y)
    by true t told_x told_y same =
        zero_is same ∙ sym (ap (λ v. field.◌*◌ v (value y)) (value-zero x is (polys.true_zero x.numerator told_x)) ∙ zero_mul field (value y))
    by false true told_x told_y same =
        zero_is same ∙ sym (ap (field.◌*◌ (value x)) (value-zero y it (polys.true_zero y.numerator told_y)) ∙ mul_zero field (value x))
    by false false told_x told_y same = full_product-value x y r is it same

-- ---- equal values

pub same_value_is :
    (x y : Written) (b : Bool) → IsWritten x → IsWritten y → checked_same_value x y ≡ Ok b → (b ≡ true) ↔ (value x ≡ value y)
unfolding checked_same_value
same_value_is x y b is it answer =
    let both = both_fit (checked_fraction_difference x y) (λ w. Ok (polys.is_zero w.numerator)) b answer in
    let told : polys.is_zero both.value.numerator ≡ b = same_ok _ b both.rest in
    let difference = difference-value x y both.value is it both.first in
    let written = sum_written x y both.value is it both.first in (
      λ yes. difference_zero (value x) (value y) (sym difference ∙ value-zero both.value written (polys.true_zero both.value.numerator (told ∙ yes))),
      λ same. sym told ∙ ap polys.is_zero
          (numerator_zero both.value written (difference ∙ ap (λ v. field.◌+◌ v (field.neg (value y))) same ∙ field.add_neg (value y)))
          ∙ polys.zero_true,
    )
  where
    difference_zero : (v w : K) → field.◌+◌ v (field.neg w) ≡ field.zero → v ≡ w
    difference_zero v w none =
        sym (neg_neg field.group v) ∙ ap field.neg (sym (neg_unique field.group v (field.neg w) none)) ∙ neg_neg field.group w

    numerator_zero : (w : Written) → IsWritten w → value w ≡ field.zero → w.numerator ≡ polys.zero
    numerator_zero w is none = over_zero w.numerator (multiplied_out w.den) (den_nonzero w.den is.den) (unfold value in none)

-- ---- as the code brings it about

-- what a computation's values satisfy
pub answers_ok :
    {A : Type 0} (c : Checked A) (r : Result A Fault) (P : A → Type 0) → Answers c r → ((a : A) → c ≡ Ok a → P a) → IfOk r P
answers_ok c (Ok a) P answers each = each a answers
answers_ok c (Err fault) P answers each = tt

pub cleared-value :
    (w : Written) (d : Denominator) (n : Polynomial) → IsWritten w → IsDenominator d → DividesFactors w.den d → checked_cleared w d ≡ Ok n →
    value_over n (multiplied_out d) ≡ value w
unfolding value
cleared-value w d n is its divides answer =
    same_over n (multiplied_out d) w.numerator (multiplied_out w.den) (den_nonzero d its) (den_nonzero w.den is.den)
    (cleared_ok w d n is.den its divides answer)

-- the test that the code makes
pub is_zero_told : (p : Polynomial) (b : Bool) → IsTrue b ↔ (p ≡ polys.zero) → polys.is_zero p ≡ b
is_zero_told p true told = ap polys.is_zero (told.0 (grind (arith, common_steps))) ∙ polys.zero_true
is_zero_told p false told = by (polys.is_zero p) refl
  where
    by : (t : Bool) → polys.is_zero p ≡ t → t ≡ false
    by false there = refl
    by true there = let impossible : IsTrue false = told.1 (polys.true_zero p there) in grind (arith, common_steps)

pub product-told :
    (x y : Written) (s t : Bool) → polys.is_zero x.numerator ≡ s → polys.is_zero y.numerator ≡ t →
    cond (s || t) (Ok (whole_polynomial polys.zero)) (checked_full_product x y) ≡ checked_fraction_product x y
unfolding checked_fraction_product
product-told x y s t told_x told_y =
    ap₂ (λ a b. cond (a || b) (Ok (whole_polynomial polys.zero)) (checked_full_product x y)) (sym told_x) (sym told_y)
