-- What joins a rising list leaves it rising; where exponents are added the product is multiplied by the factor's.
-- Main lemmas `joined_all_ok` for products, `all_greatest_factors` for common denominators.
use Rattle.ct_frac.proofs.Base.{◌≡◌, refl, ◌+◌, max, Ok, List, [], ◌∷◌, Ordering, Less, Equal, Greater, sym, ◌∙◌, ap, subst, arith, Polynomial, times}
use Rattle.ct_frac.proofs.Base.{times_assoc, by_order, Checked, ◌>>=◌, both_fit, poly_cmp, poly_tied}
use Rattle.ct_frac.specs.declared.factor.Factor.{Factor}
use Rattle.ct_frac.specs.Arithmetic.{joined_greatest, all_greatest, checked_exponent, checked_joined, checked_joined_all}
use Rattle.ct_frac.specs.Written.{IsFactor, IsBelow, AreFactors, power, product_of_factors}
use Rattle.ct_frac.proofs.Limits.{exponent_ok}
use Rattle.ct_frac.proofs.Products.{times_one, times_comm, times_left_comm, power-sum}
use Rattle.ct_frac.proofs.Sorting.{turned, IsBelow-trans}

pub same_ok : {A : Type 0} (a b : A) → ◌≡◌ {A = Checked A} (Ok a) (Ok b) → a ≡ b
same_ok a b same = cc

-- ---- exponents added

pub record Joined (f : Factor) (fs hs : List Factor) : Type 0 where
  pub factors : AreFactors hs
  pub product : product_of_factors hs ≡ times (power f.poly f.exp) (product_of_factors fs)
  pub below : (p : Polynomial) → poly_cmp p f.poly ≡ Less → IsBelow p fs → IsBelow p hs

pub joined_ok : (f : Factor) (fs hs : List Factor) → checked_joined f fs ≡ Ok hs → IsFactor f → AreFactors fs → Joined f fs hs
joined_ok f [] hs answer is are =
    subst (Joined f []) (same_ok (f ∷ []) hs answer) (record { factors = (is, (tt, tt)); product = refl; below = λ p less below. (less, tt) })
joined_ok f (g ∷ gs) hs answer is are = by (poly_cmp g.poly f.poly) refl answer (λ js made. joined_ok f gs js made is are.1.1)
  where
    by :
        (o : Ordering) → poly_cmp g.poly f.poly ≡ o →
        by_order o (checked_joined f gs >>= (λ hs. Ok (g ∷ hs)))
        (checked_exponent (g.exp + f.exp) >>= (λ e. Ok (record { poly = g.poly; exp = e } ∷ gs))) (Ok (f ∷ g ∷ gs)) ≡ Ok hs →
        ((js : List Factor) → checked_joined f gs ≡ Ok js → Joined f gs js) → Joined f (g ∷ gs) hs
    by Less order answer more =
        let both = both_fit (checked_joined f gs) (λ js. Ok (g ∷ js)) hs answer in
        let h = more both.value both.first in
        subst (Joined f (g ∷ gs)) (same_ok (g ∷ both.value) hs both.rest) (record {
          factors = (are.0, (h.below g.poly order are.1.0, h.factors));
          product = ap (times (power g.poly g.exp)) h.product ∙ times_left_comm _ _ _;
          below = λ p less below. (below.0, h.below p less below.1);
        })
    by Equal order answer more =
        let both = both_fit (checked_exponent (g.exp + f.exp)) (λ e. Ok (record { poly = g.poly; exp = e } ∷ gs)) hs answer in
        let kept = exponent_ok (g.exp + f.exp) both.value both.first in
        let tied : g.poly ≡ f.poly = poly_tied g.poly f.poly order in
        subst (Joined f (g ∷ gs)) (same_ok (record { poly = g.poly; exp = both.value } ∷ gs) hs both.rest) (record {
          factors = (
            record { base = are.0.base; some = let some = are.0.some in let same = kept.same in omega arith; few = kept.low },
            (are.1.0, are.1.1),
          );
          product = ap (λ e. times (power g.poly e) (product_of_factors gs)) (sym kept.same)
              ∙ ap (λ w. times w (product_of_factors gs)) (power-sum g.poly g.exp f.exp ∙ times_comm _ _
              ∙ ap (λ p. times (power p f.exp) (power g.poly g.exp)) tied)
              ∙ times_assoc _ _ _;
          below = λ p less below. below;
        })
    by Greater order answer more =
        let less = turned g.poly f.poly order in
        subst (Joined f (g ∷ gs)) (same_ok (f ∷ g ∷ gs) hs answer) (record {
          factors = (is, ((less, IsBelow-trans f.poly g.poly gs less are.1.0), are));
          product = refl;
          below = λ p less_p below. (less_p, below);
        })

pub record JoinedAll (done fs hs : List Factor) : Type 0 where
  pub factors : AreFactors hs
  pub product : product_of_factors hs ≡ times (product_of_factors done) (product_of_factors fs)

pub joined_all_ok : (done fs hs : List Factor) → checked_joined_all done fs ≡ Ok hs → AreFactors done → AreFactors fs → JoinedAll done fs hs
joined_all_ok done [] hs answer are its =
    subst (JoinedAll done []) (same_ok done hs answer) (record { factors = are; product = sym (times_one (product_of_factors done)) })
joined_all_ok done (f ∷ fs) hs answer are its =
    let both = both_fit (checked_joined f done) (λ joined. checked_joined_all joined fs) hs answer in
    let h = joined_ok f done both.value both.first its.0 are in
    let more = joined_all_ok both.value fs hs both.rest h.factors its.1.1 in
    record {
      factors = more.factors;
      product = more.product ∙ ap (λ w. times w (product_of_factors fs)) (h.product ∙ times_comm _ _) ∙ times_assoc _ _ _;
    }

-- ---- the greater exponent

greatest_factor : (g f : Factor) → IsFactor g → IsFactor f → IsFactor (record { poly = g.poly; exp = max g.exp f.exp })
greatest_factor g f is it = record {
  base = is.base;
  some = let some = is.some in omega arith;
  few = let few = is.few in let few_too = it.few in omega arith;
}

IsBelow-greatest : (p : Polynomial) (f : Factor) (fs : List Factor) → poly_cmp p f.poly ≡ Less → IsBelow p fs → IsBelow p (joined_greatest f fs)
IsBelow-greatest p f [] less below = (less, tt)
IsBelow-greatest p f (g ∷ gs) less below = by (poly_cmp g.poly f.poly) (IsBelow-greatest p f gs less below.1)
  where
    by : (o : Ordering) → IsBelow p (joined_greatest f gs)
        → IsBelow p (by_order o (g ∷ joined_greatest f gs) (record { poly = g.poly; exp = max g.exp f.exp } ∷ gs) (f ∷ g ∷ gs))
    by Less more = (below.0, more)
    by Equal more = below
    by Greater more = (less, below)

pub greatest_factors : (f : Factor) (fs : List Factor) → IsFactor f → AreFactors fs → AreFactors (joined_greatest f fs)
greatest_factors f [] is are = (is, (tt, tt))
greatest_factors f (g ∷ gs) is are = by (poly_cmp g.poly f.poly) refl (greatest_factors f gs is are.1.1)
  where
    by : (o : Ordering) → poly_cmp g.poly f.poly ≡ o → AreFactors (joined_greatest f gs)
        → AreFactors (by_order o (g ∷ joined_greatest f gs) (record { poly = g.poly; exp = max g.exp f.exp } ∷ gs) (f ∷ g ∷ gs))
    by Less order more = (are.0, (IsBelow-greatest g.poly f gs order are.1.0, more))
    by Equal order more = (greatest_factor g f are.0 is, (are.1.0, are.1.1))
    by Greater order more =
        let less = turned g.poly f.poly order in
        (is, ((less, IsBelow-trans f.poly g.poly gs less are.1.0), are))

pub all_greatest_factors : (done fs : List Factor) → AreFactors done → AreFactors fs → AreFactors (all_greatest done fs)
all_greatest_factors done [] are its = are
all_greatest_factors done (f ∷ fs) are its = all_greatest_factors (joined_greatest f done) fs (greatest_factors f done its.0 are) its.1.1
