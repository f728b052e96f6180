-- Lists of factors stay in written form where a factor goes, changes its exponent or comes in, and a denominator in written
-- form is not zero. Main lemmas `factors-kept` and `den_nonzero`, which the laws on Normal cite.
use Rattle.ct_frac.proofs.Base.{◌≡◌, ◌≢◌, ℕ, zero, suc, ◌*◌, ◌<◌, ◌≤◌, ℤ, pos, List, [], ◌∷◌, ◌++◌, sym, ◌∙◌, ap, subst, arith, append-nil}
use Rattle.ct_frac.proofs.Base.{append_assoc, Polynomial, polys, coefficient, times, degree, unit, number, number_is, number-*, largest_degree}
use Rattle.ct_algebra.proofs.PolynomialLawProofs.{finite_maps, degrees}
use Rattle.ct_frac.specs.declared.factor.Factor.{Factor}
use Rattle.ct_frac.specs.Normal.{with_exponent}
use Rattle.ct_frac.specs.Written.{Denominator, IsBase, IsFactor, IsBelow, AreFactors, IsDenominator, product_of_factors, multiplied_out}
use Rattle.ct_frac.proofs.Products.{one_nonzero, power_nonzero}
use Rattle.ct_frac.proofs.Quotients.{times_nonzero}

-- ---- one factor in the middle

IsBelow-without : (p : Polynomial) (done : List Factor) (f : Factor) (fs : List Factor) → IsBelow p (done ++ f ∷ fs) → IsBelow p (done ++ fs)
IsBelow-without p [] f fs below = below.1
IsBelow-without p (g ∷ done) f fs below = (below.0, IsBelow-without p done f fs below.1)

AreFactors-without : (done : List Factor) (f : Factor) (fs : List Factor) → AreFactors (done ++ f ∷ fs) → AreFactors (done ++ fs)
AreFactors-without [] f fs are = are.1.1
AreFactors-without (g ∷ done) f fs are = (are.0, (IsBelow-without g.poly done f fs are.1.0, AreFactors-without done f fs are.1.1))

abbrev pub changed : Factor → ℕ → Factor
changed f e = record { poly = f.poly; exp = e }

IsBelow-changed :
    (p : Polynomial) (done : List Factor) (f : Factor) (e : ℕ) (fs : List Factor) → IsBelow p (done ++ f ∷ fs) →
    IsBelow p (done ++ changed f e ∷ fs)
IsBelow-changed p [] f e fs below = below
IsBelow-changed p (g ∷ done) f e fs below = (below.0, IsBelow-changed p done f e fs below.1)

AreFactors-changed :
    (done : List Factor) (f : Factor) (e : ℕ) (fs : List Factor) → 0 < e → e ≤ largest_degree → AreFactors (done ++ f ∷ fs) →
    AreFactors (done ++ changed f e ∷ fs)
AreFactors-changed [] f e fs some few are = (record { base = are.0.base; some = some; few = few }, (are.1.0, are.1.1))
AreFactors-changed (g ∷ done) f e fs some few are =
    (are.0, (IsBelow-changed g.poly done f e fs are.1.0, AreFactors-changed done f e fs some few are.1.1))

middle : (done : List Factor) (f : Factor) (fs : List Factor) → AreFactors (done ++ f ∷ fs) → IsFactor f
middle [] f fs are = are.0
middle (g ∷ done) f fs are = middle done f fs are.1.1

-- a factor with a smaller exponent, or none where that is 0
pub factors-kept :
    (done : List Factor) (f : Factor) (e : ℕ) (fs : List Factor) → e ≤ f.exp → AreFactors (done ++ f ∷ fs) →
    AreFactors ((done ++ with_exponent f.poly e []) ++ fs)
factors-kept done f zero fs low are =
    subst (λ ds. AreFactors (ds ++ fs)) (sym (append-nil done)) (AreFactors-without done f fs are)
factors-kept done f (suc e) fs low are =
    let small : suc e ≤ largest_degree = let few = (middle done f fs are).few in omega arith in
    subst AreFactors (sym (append_assoc done (changed f (suc e) ∷ []) fs)) (AreFactors-changed done f (suc e) fs (omega arith) small are)

-- ---- denominators are not zero

pub base_nonzero : (p : Polynomial) → IsBase p → p ≢ polys.zero
base_nonzero p base zero_p =
    let none : degree p ≡ 0 = ap degree zero_p ∙ degrees.of_zero in
    let some = base.not_constant in omega arith

pub factors_nonzero : (fs : List Factor) → AreFactors fs → product_of_factors fs ≢ polys.zero
factors_nonzero [] are = one_nonzero
factors_nonzero (f ∷ fs) are =
    times_nonzero _ _ (power_nonzero f.poly f.exp (base_nonzero f.poly are.0.base)) (factors_nonzero fs are.1.1)

pub number_nonzero : (c : ℤ) → c ≢ pos 0 → number c ≢ polys.zero
number_nonzero c some none =
    some (sym (finite_maps.of_a_term unit c) ∙ ap (λ p. coefficient p unit) (sym (number_is c) ∙ none) ∙ finite_maps.of_zero unit)

pub number-product : (m n : ℕ) → number (pos (m * n)) ≡ times (number (pos m)) (number (pos n))
unfolding times
number-product m n =
    number_is (pos (m * n)) ∙ sym (number-* (pos m) unit (pos n))
    ∙ ap (λ w. polys.◌*◌ (number (pos m)) w) (sym (number_is (pos n)))

pub den_nonzero : (d : Denominator) → IsDenominator d → multiplied_out d ≢ polys.zero
unfolding multiplied_out
den_nonzero d is =
    times_nonzero _ _ (number_nonzero (pos d.whole) (λ none. let whole : d.whole ≡ 0 = cc in let some = is.positive in omega arith))
    (factors_nonzero d.factors is.factors)
