-- Clearing multiplies the numerator by what the denominator lacks. Main lemmas `cleared_ok` and `wider_ok`: a common
-- denominator is divided by each part, and the cleared numerator times the part is the numerator times the whole.
use Rattle.ct_frac.proofs.Base.{◌≡◌, refl, ℕ, zero, suc, ◌+◌, ◌-◌, ◌/◌, ◌<◌, ◌≤◌, pos, Ok, List, [], ◌∷◌, Ordering, Less, Equal, Greater, sym, ◌∙◌}
use Rattle.ct_frac.proofs.Base.{ap, ap₂, subst, arith, div-mul_cancel, Polynomial, polys, times, times_assoc, number, by_order, both_fit, verdict_ok}
use Rattle.ct_frac.proofs.Base.{checked_times, poly_cmp, poly_tied}
use Rattle.ct_frac.specs.declared.factor.Factor.{Factor}
use Rattle.ct_frac.specs.Arithmetic.{exponent_in, EachIsIn, DividesFactors, checked_often, checked_spread, checked_cleared}
use Rattle.ct_frac.specs.Written.{Denominator, Written, IsBelow, AreFactors, IsDenominator, power, product_of_factors, multiplied_out}
use Rattle.ct_frac.proofs.Denominators.{number-product}
use Rattle.ct_frac.proofs.Exponents.{exponent_below, exponent_low, tied}
use Rattle.ct_frac.proofs.JoinedFactors.{same_ok}
use Rattle.ct_frac.proofs.Products.{times_one, one_times, times_comm, times_left_comm, power-sum}

pub times_ok : (p q r : Polynomial) → checked_times p q ≡ Ok r → times p q ≡ r
unfolding checked_times
times_ok p q r fits = verdict_ok _ (times p q) r fits

-- ---- what is multiplied by

-- the factors of gs, as often as they stand in fs
abbrev shared : List Factor → List Factor → Polynomial
shared fs [] = polys.one
shared fs (g ∷ gs) = times (power g.poly (exponent_in g.poly fs)) (shared fs gs)

-- as often as they stand in gs more than in fs
abbrev missing : List Factor → List Factor → Polynomial
missing fs [] = polys.one
missing fs (g ∷ gs) = times (power g.poly (g.exp - exponent_in g.poly fs)) (missing fs gs)

often_ok : (f : Polynomial) (k : ℕ) (n r : Polynomial) → checked_often f k n ≡ Ok r → times n (power f k) ≡ r
often_ok f zero n r answer = times_one n ∙ same_ok n r answer
often_ok f (suc k) n r answer =
    let both = both_fit (checked_times n f) (λ m. checked_often f k m) r answer in
    sym (times_assoc n f _) ∙ ap (λ w. times w (power f k)) (times_ok n f both.value both.first) ∙ often_ok f k both.value r both.rest

spread_ok : (fs gs : List Factor) (n r : Polynomial) → checked_spread n fs gs ≡ Ok r → times n (missing fs gs) ≡ r
spread_ok fs [] n r answer = times_one n ∙ same_ok n r answer
spread_ok fs (g ∷ gs) n r answer =
    let both = both_fit (checked_often g.poly (g.exp - exponent_in g.poly fs) n) (λ m. checked_spread m fs gs) r answer in
    sym (times_assoc n _ _) ∙ ap (λ w. times w (missing fs gs)) (often_ok _ _ n both.value both.first) ∙ spread_ok fs gs both.value r both.rest

-- ---- what is shared and what is missing make the whole

-- no exponent of gs is below that in fs
abbrev Covers : List Factor → List Factor → Type 0
Covers fs [] = Unit {0}
Covers fs (g ∷ gs) = (exponent_in g.poly fs ≤ g.exp) × Covers fs gs

whole_is : (fs gs : List Factor) → Covers fs gs → product_of_factors gs ≡ times (shared fs gs) (missing fs gs)
whole_is fs [] covers = sym (times_one polys.one)
whole_is fs (g ∷ gs) covers =
    let x = exponent_in g.poly fs in
    let parts : g.exp ≡ x + (g.exp - x) = let low = covers.0 in omega arith in
    ap₂ times (ap (power g.poly) parts ∙ power-sum g.poly x (g.exp - x)) (whole_is fs gs covers.1)
    ∙ sorted (power g.poly x) (power g.poly (g.exp - x)) (shared fs gs) (missing fs gs)
  where
    sorted : (a b c d : Polynomial) → times (times a b) (times c d) ≡ times (times a c) (times b d)
    sorted a b c d = times_assoc a b _ ∙ ap (times a) (times_left_comm b c d) ∙ sym (times_assoc a c _)

-- each exponent is the one that its polynomial has in the whole list
abbrev Own : List Factor → List Factor → Type 0
Own whole [] = Unit {0}
Own whole (g ∷ gs) = (exponent_in g.poly whole ≡ g.exp) × Own whole gs

abbrev picked : Ordering → ℕ → ℕ → ℕ
picked o e rest = by_order o rest e rest

Own-behind : (f : Factor) (whole gs : List Factor) → IsBelow f.poly gs → Own whole gs → Own (f ∷ whole) gs
Own-behind f whole [] below own = tt
Own-behind f whole (g ∷ gs) below own =
    (ap (λ o. picked o f.exp (exponent_in g.poly whole)) below.0 ∙ own.0, Own-behind f whole gs below.1 own.1)

own_exponents : (gs : List Factor) → AreFactors gs → Own gs gs
own_exponents [] are = tt
own_exponents (g ∷ gs) are =
    (ap (λ o. picked o g.exp (exponent_in g.poly gs)) (tied g.poly), Own-behind g gs gs are.1.0 (own_exponents gs are.1.1))

covered : (fs whole gs : List Factor) → EachIsIn fs whole → Own whole gs → Covers fs gs
covered fs whole [] each own = tt
covered fs whole (g ∷ gs) each own =
    (let low = exponent_low g.poly fs whole each in let same = own.0 in omega arith, covered fs whole gs each own.1)

shared_none : (gs : List Factor) → shared [] gs ≡ polys.one
shared_none [] = refl
shared_none (g ∷ gs) = one_times (shared [] gs) ∙ shared_none gs

-- what is below gs does not stand there
shared_below : (f : Factor) (fs gs : List Factor) → IsBelow f.poly gs → shared (f ∷ fs) gs ≡ shared fs gs
shared_below f fs [] below = refl
shared_below f fs (g ∷ gs) below =
    ap₂ (λ e w. times (power g.poly e) w) (ap (λ o. picked o f.exp (exponent_in g.poly fs)) below.0) (shared_below f fs gs below.1)

-- one more factor that stands in gs
shared_more :
    (f : Factor) (fs gs : List Factor) → 0 < f.exp → f.exp ≤ exponent_in f.poly gs → exponent_in f.poly fs ≡ 0 → AreFactors gs →
    shared (f ∷ fs) gs ≡ times (power f.poly f.exp) (shared fs gs)
shared_more f fs [] some there none are = absurd (omega arith)
shared_more f fs (g ∷ gs) some there none are = by (poly_cmp f.poly g.poly) refl (λ behind. shared_more f fs gs some behind none are.1.1)
  where
    behind : (o : Ordering) → poly_cmp g.poly f.poly ≡ o → (o ≡ Equal → ⊥) → f.exp ≤ exponent_in f.poly gs
    behind Less told other =
        let same : exponent_in f.poly (g ∷ gs) ≡ exponent_in f.poly gs = ap (λ o. picked o g.exp (exponent_in f.poly gs)) told in omega arith
    behind Equal told other = absurd (other refl)
    behind Greater told other =
        let same : exponent_in f.poly (g ∷ gs) ≡ exponent_in f.poly gs = ap (λ o. picked o g.exp (exponent_in f.poly gs)) told in omega arith

    apart : (o : Ordering) → poly_cmp f.poly g.poly ≡ o → (o ≡ Equal → ⊥) → f.exp ≤ exponent_in f.poly gs
    apart o told other =
        behind (poly_cmp g.poly f.poly) refl (λ equal. other (sym told ∙ ap (poly_cmp f.poly) (poly_tied g.poly f.poly equal) ∙ tied f.poly))

    step :
        (o : Ordering) → poly_cmp f.poly g.poly ≡ o → picked o f.exp (exponent_in g.poly fs) ≡ exponent_in g.poly fs →
        shared (f ∷ fs) gs ≡ times (power f.poly f.exp) (shared fs gs) →
        shared (f ∷ fs) (g ∷ gs) ≡ times (power f.poly f.exp) (shared fs (g ∷ gs))
    step o told same more =
        ap₂ (λ e w. times (power g.poly e) w) (ap (λ u. picked u f.exp (exponent_in g.poly fs)) told ∙ same) more ∙ times_left_comm _ _ _

    by :
        (o : Ordering) → poly_cmp f.poly g.poly ≡ o →
        (f.exp ≤ exponent_in f.poly gs → shared (f ∷ fs) gs ≡ times (power f.poly f.exp) (shared fs gs)) →
        shared (f ∷ fs) (g ∷ gs) ≡ times (power f.poly f.exp) (shared fs (g ∷ gs))
    by Less told more = step Less told refl (more (apart Less told (λ same. cc)))
    by Greater told more = step Greater told refl (more (apart Greater told (λ same. cc)))
    by Equal told more =
        let same : f.poly ≡ g.poly = poly_tied f.poly g.poly told in
        ap₂ (λ e w. times (power g.poly e) w) (ap (λ u. picked u f.exp (exponent_in g.poly fs)) told)
        (shared_below f fs gs (subst (λ p. IsBelow p gs) (sym same) are.1.0))
        ∙ ap₂ (λ p w. times (power p f.exp) w) (sym same) (sym (one_times (shared fs gs))
        ∙ ap (λ e. times (power g.poly e) (shared fs gs)) (sym (ap (λ p. exponent_in p fs) (sym same) ∙ none)))

shared_is : (fs gs : List Factor) → AreFactors fs → AreFactors gs → EachIsIn fs gs → shared fs gs ≡ product_of_factors fs
shared_is [] gs are its each = shared_none gs
shared_is (f ∷ fs) gs are its each =
    shared_more f fs gs are.0.some each.0 (exponent_below f.poly fs are.1.0) its
    ∙ ap (times (power f.poly f.exp)) (shared_is fs gs are.1.1 its each.1)

factors_whole : (fs gs : List Factor) → AreFactors fs → AreFactors gs → EachIsIn fs gs →
    product_of_factors gs ≡ times (product_of_factors fs) (missing fs gs)
factors_whole fs gs are its each =
    whole_is fs gs (covered fs gs gs each (own_exponents gs its)) ∙ ap (λ w. times w (missing fs gs)) (shared_is fs gs are its each)

-- ---- clearing

pub cleared_ok :
    (w : Written) (d : Denominator) (n : Polynomial) → IsDenominator w.den → IsDenominator d → DividesFactors w.den d →
    checked_cleared w d ≡ Ok n → times n (multiplied_out w.den) ≡ times w.numerator (multiplied_out d)
unfolding checked_cleared multiplied_out
cleared_ok w d n is its divides answer =
    let q = d.whole / w.den.whole in
    let both = both_fit (checked_times w.numerator (number (pos q))) (λ m. checked_spread m w.den.factors d.factors) n answer in
    let first = times_ok w.numerator (number (pos q)) both.value both.first in
    let second = spread_ok w.den.factors d.factors both.value n both.rest in
    let whole : number (pos d.whole) ≡ times (number (pos q)) (number (pos w.den.whole)) =
    ap (λ k. number (pos k)) (sym (div-mul_cancel w.den.whole divides.whole)) ∙ number-product q w.den.whole in
    ap (λ m. times m (times (number (pos w.den.whole)) (product_of_factors w.den.factors)))
    (sym second ∙ ap (λ m. times m (missing w.den.factors d.factors)) (sym first))
    ∙ sorted w.numerator (number (pos q)) (missing w.den.factors d.factors) (number (pos w.den.whole)) (product_of_factors w.den.factors)
    ∙ ap₂ (λ a b. times w.numerator (times a b)) (sym whole) (sym (factors_whole w.den.factors d.factors is.factors its.factors divides.factors))
  where
    sorted : (n q m w p : Polynomial) → times (times (times n q) m) (times w p) ≡ times n (times (times q w) (times p m))
    sorted n q m w p = ap (λ x. times (times (times n q) m) x) refl ∙ times_assoc (times n q) m (times w p) ∙ times_assoc n q _
        ∙ ap (times n) (inner q m w p)
      where
        inner : (q m w p : Polynomial) → times q (times m (times w p)) ≡ times (times q w) (times p m)
        inner q m w p = ap (times q) (times_left_comm m w p ∙ ap (times w) (times_comm m p)) ∙ sym (times_assoc q w (times p m))
