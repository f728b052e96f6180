-- A common denominator is a denominator, each part divides it factor by factor, and it divides whatever all parts divide. Main
-- lemmas `wider_ok` for two fractions, `common_divided` for a list, and `divided_by_each` and `divides_common`, which the laws
-- cite.
use Rattle.ct_frac.proofs.Base.{◌≡◌, refl, ℕ, ◌≤◌, max, Ok, List, [], ◌∷◌, Ordering, Less, Equal, Greater, sym, subst, arith, ◌∣◌, dvd_trans}
use Rattle.ct_frac.proofs.Base.{dvd_refl, one-dvd, by_order, both_fit, checked_whole, poly_cmp, poly_tied, least_common, whole_ok}
use Rattle.ct_frac.specs.declared.factor.Factor.{Factor}
use Rattle.ct_frac.specs.Arithmetic.{exponent_in, joined_greatest, all_greatest, EachIsIn, DividesFactors, checked_wider, checked_common}
use Rattle.ct_frac.specs.FractionLaws.{EachIsWritten, EachDivides, CommonDenominatorIsDivided, CommonDenominatorIsLeast}
use Rattle.ct_frac.specs.Written.{Denominator, Written, IsDenominator, one_den}
use Rattle.ct_int.proofs.CommonMultiples.{LeastCommon, least_common_is, least_common_least}
use Rattle.ct_frac.proofs.Exponents.{all_grow, all_stand, EachIsIn-grown, EachIsIn-itself, exponent_low}
use Rattle.ct_frac.proofs.JoinedFactors.{same_ok, all_greatest_factors}
use Rattle.ct_frac.proofs.NormalLaws.{one_is_den}

-- ---- two denominators

pub record Wider (d e w : Denominator) : Type 0 where
  pub den : IsDenominator w
  pub first : DividesFactors d w
  pub second : DividesFactors e w

pub wider_is :
    (d e : Denominator) (whole : ℕ) → checked_whole (least_common d.whole e.whole) ≡ Ok whole → IsDenominator d → IsDenominator e →
    Wider d e (record { whole = whole; factors = all_greatest d.factors e.factors })
wider_is d e whole answer is it =
    let kept = whole_ok (least_common d.whole e.whole) whole answer in
    let least = subst (LeastCommon d.whole e.whole) kept.same (least_common_is d.whole e.whole is.positive it.positive) in
    record {
      den = record { positive = least.positive; within = kept.low; factors = all_greatest_factors d.factors e.factors is.factors it.factors };
      first = record {
        whole = least.first;
        factors = EachIsIn-grown d.factors d.factors (all_greatest d.factors e.factors) (EachIsIn-itself d.factors is.factors)
            (λ p. all_grow p d.factors e.factors is.factors it.factors);
      };
      second = record { whole = least.second; factors = all_stand d.factors e.factors is.factors it.factors };
    }

pub wider_ok : (d e w : Denominator) → checked_wider d e ≡ Ok w → IsDenominator d → IsDenominator e → Wider d e w
unfolding checked_wider
wider_ok d e w answer is it =
    let both = both_fit (checked_whole (least_common d.whole e.whole))
    (λ whole. Ok (record { whole = whole; factors = all_greatest d.factors e.factors })) w answer in
    subst (Wider d e) (same_ok (record { whole = both.value; factors = all_greatest d.factors e.factors }) w both.rest)
    (wider_is d e both.value both.first is it)

pub DividesFactors-trans : (c d e : Denominator) → DividesFactors c d → DividesFactors d e → DividesFactors c e
DividesFactors-trans c d e first second = record {
  whole = dvd_trans c.whole first.whole second.whole;
  factors = EachIsIn-grown c.factors d.factors e.factors first.factors (λ p. exponent_low p d.factors e.factors second.factors);
}

-- ---- a list

pub record Common (d : Denominator) (ws : List Written) (e : Denominator) : Type 0 where
  pub den : IsDenominator e
  pub first : DividesFactors d e
  pub each : EachDivides ws e

pub common_divided : (d : Denominator) (ws : List Written) (e : Denominator) → checked_common d ws ≡ Ok e → IsDenominator d → EachIsWritten ws →
    Common d ws e
common_divided d [] e answer is each =
    subst (Common d []) (same_ok d e answer)
    (record { den = is; first = record { whole = dvd_refl d.whole; factors = EachIsIn-itself d.factors is.factors }; each = tt })
common_divided d (w ∷ ws) e answer is each =
    let both = both_fit (checked_wider d w.den) (λ c. checked_common c ws) e answer in
    let wide = wider_ok d w.den both.value both.first is each.0.den in
    let more = common_divided both.value ws e both.rest wide.den each.1 in
    record {
      den = more.den;
      first = DividesFactors-trans d both.value e wide.first more.first;
      each = (DividesFactors-trans w.den both.value e wide.second more.first, more.each);
    }

pub divided_by_each : CommonDenominatorIsDivided
divided_by_each ws d each answer = let all = common_divided one_den ws d answer one_is_den each in (all.den, all.each)

-- ---- the least

joined_least :
    (f : Factor) (fs gs : List Factor) → f.exp ≤ exponent_in f.poly gs → EachIsIn fs gs → EachIsIn (joined_greatest f fs) gs
joined_least f [] gs low each = (low, tt)
joined_least f (h ∷ fs) gs low each = by (poly_cmp h.poly f.poly) refl (joined_least f fs gs low each.1)
  where
    by :
        (o : Ordering) → poly_cmp h.poly f.poly ≡ o → EachIsIn (joined_greatest f fs) gs →
        EachIsIn (by_order o (h ∷ joined_greatest f fs) (record { poly = h.poly; exp = max h.exp f.exp } ∷ fs) (f ∷ h ∷ fs)) gs
    by Less order more = (each.0, more)
    by Equal order more =
        let also : f.exp ≤ exponent_in h.poly gs = subst (λ p. f.exp ≤ exponent_in p gs) (sym (poly_tied h.poly f.poly order)) low in
        (omega (arith, each.0, also), each.1)
    by Greater order more = (low, each)

all_least : (done fs gs : List Factor) → EachIsIn done gs → EachIsIn fs gs → EachIsIn (all_greatest done fs) gs
all_least done [] gs each its = each
all_least done (f ∷ fs) gs each its = all_least (joined_greatest f done) fs gs (joined_least f done gs its.0 each) its.1

wider_least : (c d w e : Denominator) → checked_wider c d ≡ Ok w → DividesFactors c e → DividesFactors d e → DividesFactors w e
unfolding checked_wider
wider_least c d w e answer first second =
    let common = least_common c.whole d.whole in
    let both = both_fit (checked_whole common) (λ whole. Ok (record { whole = whole; factors = all_greatest c.factors d.factors })) w answer in
    let kept = whole_ok common both.value both.first in
    let made : Denominator = record { whole = both.value; factors = all_greatest c.factors d.factors } in
    subst (λ w. DividesFactors w e) (same_ok made w both.rest) (record {
      whole = subst (λ k. k ∣ e.whole) kept.same ((least_common_least c.whole d.whole).divides_others e.whole first.whole second.whole);
      factors = all_least c.factors d.factors e.factors first.factors second.factors;
    })

common_least :
    (c : Denominator) (ws : List Written) (d e : Denominator) → checked_common c ws ≡ Ok d → DividesFactors c e → EachDivides ws e →
    DividesFactors d e
common_least c [] d e answer divides each = subst (λ d. DividesFactors d e) (same_ok c d answer) divides
common_least c (w ∷ ws) d e answer divides each =
    let both = both_fit (checked_wider c w.den) (λ b. checked_common b ws) d answer in
    common_least both.value ws d e both.rest (wider_least c w.den both.value e both.first divides each.0) each.1

pub divides_common : CommonDenominatorIsLeast
divides_common ws d e answer each =
    common_least one_den ws d e answer (record { whole = one-dvd e.whole; factors = tt }) each
