-- Values of ratios: one value has one lowest terms, and which terms these are.
-- Main lemmas: `lowest_terms-same`, which the laws rest on, and `lowest-cancelled` and `lowest-product`, which the calls of `Rat` rest on.
-- Denominators are equal by Euclid's lemma (`same_denominators`), and then numerators by cancelling (`scaled_same`).
use Rattle.ct_int.proofs.Base.{◌≡◌, ◌*◌, ◌<◌, ℕ, zero, suc, ◌≤◌, ℤ, pos, ◌*ℤ◌, unsigned_abs, IsGcd, ◌∣◌, refl, sym, ◌∙◌, ap, ap₂, subst, arith}
use Rattle.ct_int.proofs.Base.{⊎_elim, unsigned_abs-mul, IsGcd-swap, pos_of_dvd_of_pos, le-mul_of_pos_right, mul-pos, mul_comm, zero-mul}
use Rattle.ct_int.proofs.Base.{dvd-mul_right}
use Rattle.ct_int.proofs.GcdLaws.{same_denominators, coprime_parts, coprime_factors, coprime_product}
use Rattle.ct_int.proofs.Scaling.{scaled_comm, scaled_same, scaled_twice, scaled_product}
use Rattle.ct_int.specs.Rational.{Ratio, ratio, SameValue, IsLowest, IsCancelled, IsLowestTerms, product_of_ratios}
use Rattle.ct_int.specs.Limits.{largest_whole, IsRational, LowestTermsPass}
use lib.IntN.{*ℤ_comm}

pub same_value-trans : (p q r : Ratio) → 0 < q.den → SameValue p q → SameValue q r → SameValue p r
same_value-trans p q r positive first second =
    scaled_same (p.num *ℤ pos r.den) (r.num *ℤ pos p.den) q.den positive
    (scaled_comm p.num r.den q.den ∙ ap (λ z. z *ℤ pos r.den) first ∙ scaled_comm q.num p.den r.den ∙ ap (λ z. z *ℤ pos p.den) second
    ∙ scaled_comm r.num q.den p.den)

-- one value has one lowest terms
pub lowest-same : (r s : Ratio) → IsLowest r → IsLowest s → SameValue r s → r ≡ s
lowest-same r s first second same =
    let sizes : unsigned_abs r.num * s.den ≡ unsigned_abs s.num * r.den =
    sym (unsigned_abs-mul r.num (pos s.den)) ∙ ap unsigned_abs same ∙ unsigned_abs-mul s.num (pos r.den) in
    let dens : r.den ≡ s.den = same_denominators _ _ _ _ first.coprime second.coprime sizes in
    let nums : r.num ≡ s.num = scaled_same r.num s.num s.den second.positive (same ∙ ap (λ d. s.num *ℤ pos d) dens) in
    let made : ℤ → ℕ → Ratio = λ n d. record { num = n; den = d } in
    ap₂ made nums dens

pub lowest_terms-same :
    (p q r s : Ratio) →
    0 < p.den →
    0 < q.den →
    SameValue p q →
    IsLowestTerms p r →
    IsLowestTerms q s →
    r ≡ s
lowest_terms-same p q r s some positive same first second =
    lowest-same r s first.lowest second.lowest
    (same_value-trans r p s some first.same (same_value-trans p q s positive same (sym second.same)))

-- ---- a ratio is brought to lowest terms by its greatest common divisor

-- the size of a number that was divided
abs-scaled : (x y : ℤ) (k : ℕ) → x *ℤ pos k ≡ y → unsigned_abs x * k ≡ unsigned_abs y
abs-scaled x y k same = sym (unsigned_abs-mul x (pos k)) ∙ ap unsigned_abs same

factor-positive : (n k m : ℕ) → n * k ≡ m → 0 < m → 0 < n
factor-positive zero k m whole some = absurd (omega (arith, zero-mul k))
factor-positive (suc n) k m whole some = omega arith

divisor-positive : (p r : Ratio) → 0 < p.den → (h : IsCancelled p r) → 0 < h.divisor
divisor-positive p r some h = pos_of_dvd_of_pos h.greatest.1 some

pub lowest-cancelled : (p r : Ratio) → 0 < p.den → IsCancelled p r → IsLowestTerms p r
lowest-cancelled p r some h =
    let both : IsGcd (unsigned_abs r.num * h.divisor) (r.den * h.divisor) h.divisor = rw (h.den, abs-scaled r.num p.num h.divisor h.num) h.greatest in
    record {
      lowest = record {
        positive = factor-positive r.den h.divisor p.den h.den some;
        coprime = coprime_parts (unsigned_abs r.num) r.den h.divisor (divisor-positive p r some h) both;
      };
      same = ap (λ n. r.num *ℤ pos n) (sym h.den ∙ mul_comm r.den h.divisor) ∙ sym (scaled_twice r.num h.divisor r.den)
          ∙ ap (λ z. z *ℤ pos r.den) h.num;
    }

pub IsRational-cancelled : (p r : Ratio) → 0 < p.den → unsigned_abs p.num ≤ largest_whole → p.den ≤ largest_whole → IsCancelled p r → IsRational r
IsRational-cancelled p r some num den h =
    let any = divisor-positive p r some h in
    let sizes = abs-scaled r.num p.num h.divisor h.num in
    let above = le-mul_of_pos_right (unsigned_abs r.num) any in
    let over = le-mul_of_pos_right r.den any in
    record { lowest = (lowest-cancelled p r some h).lowest; num_within = omega (arith, above, sizes); den_within = omega (arith, over, h.den) }

-- ---- two numbers in lowest terms, cancelled crosswise, have their product in lowest terms

same_product : (x y : ℤ) (j k : ℕ) → (x *ℤ pos j) *ℤ (y *ℤ pos k) ≡ (x *ℤ y) *ℤ pos (k * j)
same_product x y j k =
    sym (scaled_product x (y *ℤ pos k) j)
    ∙ ap (λ z. z *ℤ pos j) (*ℤ_comm x (y *ℤ pos k) ∙ sym (scaled_product y x k) ∙ ap (λ z. z *ℤ pos k) (*ℤ_comm y x)) ∙ scaled_twice (x *ℤ y) k j

regrouped : (b d j k : ℕ) → (b * k) * (d * j) ≡ (k * j) * (b * d)
regrouped b d j k = omega arith

pub lowest-product :
    (p q s t : Ratio) →
    IsLowest p →
    IsLowest q →
    IsCancelled (ratio p.num (pos q.den)) s →
    IsCancelled (ratio q.num (pos p.den)) t →
    IsLowestTerms (product_of_ratios p q) (ratio (s.num *ℤ t.num) (pos (t.den * s.den)))
lowest-product p q s t first second left right =
    let a = unsigned_abs s.num in
    let c = unsigned_abs t.num in
    let b = t.den in
    let d = s.den in
    let j = left.divisor in
    let k = right.divisor in
    let whole_a : a * j ≡ unsigned_abs p.num = abs-scaled s.num p.num j left.num in
    let whole_c : c * k ≡ unsigned_abs q.num = abs-scaled t.num q.num k right.num in
    let a_d : IsGcd a d 1 = (lowest-cancelled (ratio p.num (pos q.den)) s second.positive left).lowest.coprime in
    let c_b : IsGcd c b 1 = (lowest-cancelled (ratio q.num (pos p.den)) t first.positive right).lowest.coprime in
    let a_b : IsGcd a b 1 = coprime_factors _ _ a b first.coprime (subst (λ n. a ∣ n) whole_a (dvd-mul_right a j))
    (subst (λ n. b ∣ n) right.den (dvd-mul_right b k)) in
    let c_d : IsGcd c d 1 = coprime_factors _ _ c d second.coprime (subst (λ n. c ∣ n) whole_c (dvd-mul_right c k))
    (subst (λ n. d ∣ n) left.den (dvd-mul_right d j)) in
    let b_all : IsGcd b (a * c) 1 = IsGcd-swap (a * c) b 1 (coprime_product a c b a_b c_b) in
    let d_all : IsGcd d (a * c) 1 = IsGcd-swap (a * c) d 1 (coprime_product a c d a_d c_d) in
    let all : IsGcd (a * c) (b * d) 1 = IsGcd-swap (b * d) (a * c) 1 (coprime_product b d (a * c) b_all d_all) in
    let dens : p.den * q.den ≡ (k * j) * (b * d) = ap₂ (λ m n. m * n) (sym right.den) (sym left.den) ∙ regrouped b d j k in
    let nums : p.num *ℤ q.num ≡ (s.num *ℤ t.num) *ℤ pos (k * j) = ap₂ (λ m n. m *ℤ n) (sym left.num) (sym right.num) ∙ same_product s.num t.num j k in
    record {
      lowest = record {
        positive = mul-pos (factor-positive b k p.den right.den first.positive) (factor-positive d j q.den left.den second.positive);
        coprime = subst (λ n. IsGcd n (b * d) 1) (sym (unsigned_abs-mul s.num t.num)) all;
      };
      same = ap (λ n. (s.num *ℤ t.num) *ℤ pos n) dens ∙ sym (scaled_twice (s.num *ℤ t.num) (k * j) (b * d)) ∙ ap (λ z. z *ℤ pos (b * d)) (sym nums);
    }

-- a product within the limit doesn't pass it
pub product-fits : (p q r : Ratio) → 0 < p.den → 0 < q.den → IsLowestTerms (product_of_ratios p q) r → IsRational r →
    LowestTermsPass (product_of_ratios p q) → ⊥
product-fits p q r some any terms within passes =
    let same : passes.terms ≡ r = lowest_terms-same (product_of_ratios p q) (product_of_ratios p q) passes.terms r (mul-pos some any)
    (mul-pos some any) refl passes.lowest terms in
    ⊎_elim
    (λ past. let far : largest_whole < unsigned_abs r.num = rw same at past in omega (arith, far, within.num_within))
    (λ past. let far : largest_whole < r.den = rw same at past in omega (arith, far, within.den_within)) passes.past
