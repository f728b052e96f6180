-- Quotients of whole numbers without a remainder: what `whole_over` finds, and that it finds all.
-- Main lemmas `whole_over_is`, `whole_over-*` and `whole_over_none`. The remainder of a multiple is a multiple of the divisor
-- that is smaller than it, so it is zero.
use Rattle.ct_poly.proofs.Base.{◌≡◌, refl, ℕ, zero, suc, ◌*◌, ◌/◌, ◌<◌, ◌≤◌, ℤ, pos, negsuc, ◌+ℤ◌, ◌*ℤ◌, neg_ℤ, unsigned_abs, int_div, int_rem, Bool}
use Rattle.ct_poly.proofs.Base.{true, false, cond, Option, Some, None, sym, ◌∙◌, ap, subst, arith, ints, quot-rem, rem_below, unsigned_abs-mul}
use Rattle.ct_poly.proofs.Base.{div-mul-le_self, ring3, reify, int_ring, int_is_zero, zero_is}
use Rattle.ct_poly.specs.Division.{whole_over}

pub zero_abs : (x : ℤ) → unsigned_abs x ≡ 0 → x ≡ pos 0
zero_abs (pos n) none = ap pos none
zero_abs (negsuc n) none = absurd (omega arith)

pub positive_abs : (d : ℤ) → (d ≡ pos 0 → ⊥) → 0 < unsigned_abs d
positive_abs (pos zero) some = absurd (some refl)
positive_abs (pos (suc n)) some = omega arith
positive_abs (negsuc n) some = omega arith

pub abs_of : (n : ℕ) → unsigned_abs (neg_ℤ (pos n)) ≡ n
abs_of zero = refl
abs_of (suc n) = refl

small_multiple : (m n : ℕ) → m * n < n → m ≡ 0
small_multiple zero n small = refl
small_multiple (suc m) n small = absurd (omega arith)

pub int_div-* : (q d : ℤ) → (d ≡ pos 0 → ⊥) → int_div (q *ℤ d) d ≡ q
int_div-* q d some =
    let k : ℤ = int_div (q *ℤ d) d in
    let r : ℤ = int_rem (q *ℤ d) d in
    let parts : k *ℤ d +ℤ r ≡ q *ℤ d = quot-rem (q *ℤ d) d in
    let apart : (q +ℤ neg_ℤ k) *ℤ d ≡ q *ℤ d +ℤ neg_ℤ (k *ℤ d) =
    ring3 int_ring q k d (λ a b c. (search reify depth 12, search reify depth 12)) refl in
    let rest : (q +ℤ neg_ℤ k) *ℤ d ≡ r = omega (arith, ints, parts, apart) in
    let size : unsigned_abs (q +ℤ neg_ℤ k) * unsigned_abs d ≡ unsigned_abs r = sym (unsigned_abs-mul (q +ℤ neg_ℤ k) d) ∙ ap unsigned_abs rest in
    let less : unsigned_abs r < unsigned_abs d = rem_below (q *ℤ d) d (positive_abs d some) in
    let none : q +ℤ neg_ℤ k ≡ pos 0 = zero_abs _ (small_multiple _ (unsigned_abs d) (subst (λ n. n < unsigned_abs d) (sym size) less)) in
    omega (arith, ints, none)

pub whole_over_is : (c d q : ℤ) → whole_over c d ≡ Some q → q *ℤ d ≡ c
unfolding whole_over
whole_over_is c d q found = by (int_is_zero (int_rem c d)) refl found
  where
    by : (b : Bool) → int_is_zero (int_rem c d) ≡ b → cond b (Some (int_div c d)) None ≡ Some q → q *ℤ d ≡ c
    by true exact found =
        let same : int_div c d ≡ q = cc in
        let none : int_rem c d ≡ pos 0 = zero_is (int_rem c d) exact in
        ap (λ k. k *ℤ d) (sym same) ∙ omega (arith, ints, quot-rem c d, none)
    by false exact found = cc

pub whole_over-* : (q d : ℤ) → (d ≡ pos 0 → ⊥) → whole_over (q *ℤ d) d ≡ Some q
unfolding whole_over
whole_over-* q d some =
    let quotient : int_div (q *ℤ d) d ≡ q = int_div-* q d some in
    let none : int_rem (q *ℤ d) d ≡ pos 0 = omega (arith, ints, quot-rem (q *ℤ d) d, ap (λ k. k *ℤ d) quotient) in
    ap (λ r. cond (int_is_zero r) (Some (int_div (q *ℤ d) d)) None) none ∙ ap Some quotient

pub whole_over_none : (c d q : ℤ) → (d ≡ pos 0 → ⊥) → whole_over c d ≡ None → q *ℤ d ≡ c → ⊥
whole_over_none c d q some missing whole =
    let found : whole_over c d ≡ Some q = subst (λ k. whole_over k d ≡ Some q) whole (whole_over-* q d some) in cc

-- the quotient times the divisor is within the dividend
pub int_div_small : (c d : ℤ) → unsigned_abs (int_div c d) * unsigned_abs d ≤ unsigned_abs c
int_div_small (pos a) (pos b) = div-mul-le_self a b
int_div_small (pos a) (negsuc b) = subst (λ n. n * suc b ≤ a) (sym (abs_of (a / suc b))) (div-mul-le_self a (suc b))
int_div_small (negsuc a) (pos b) = subst (λ n. n * b ≤ suc a) (sym (abs_of (suc a / b))) (div-mul-le_self (suc a) b)
int_div_small (negsuc a) (negsuc b) = div-mul-le_self (suc a) (suc b)

-- what the test of a quotient tells
pub whole_quotient : (c d q : ℤ) → (d ≡ pos 0 → ⊥) → q *ℤ d ≡ c → Some q ≡ whole_over c d
whole_quotient c d q some whole = sym (ap (λ k. whole_over k d) (sym whole) ∙ whole_over-* q d some)

pub no_whole_quotient : (c d q : ℤ) → (d ≡ pos 0 → ⊥) → q ≡ int_div c d → (q *ℤ d ≡ c → ⊥) → None ≡ whole_over c d
no_whole_quotient c d q some q_is other = by (whole_over c d) refl
  where
    by : (o : Option ℤ) → whole_over c d ≡ o → None ≡ o
    by None missing = refl
    by (Some k) found =
        let whole : k *ℤ d ≡ c = whole_over_is c d k found in
        let same : q ≡ k = q_is ∙ ap (λ w. int_div w d) (sym whole) ∙ int_div-* k d some in
        absurd (other (ap (λ w. w *ℤ d) same ∙ whole))
