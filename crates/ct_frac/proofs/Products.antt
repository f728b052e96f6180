-- The products of lists of factors: what appending, putting in and joining make of them, and that they are not zero.
-- Main lemmas: `product_of_factors-append`, `product_of_factors-inserted`, `product_of_factors-sorted_onto` and `product_nonzero`, which the laws on
-- values cite.
use Rattle.ct_frac.proofs.Base.{◌≡◌, ◌≢◌, refl, ℕ, zero, suc, ◌+◌, List, [], ◌∷◌, ◌++◌, Ordering, Less, Equal, Greater, sym, ◌∙◌, ap, arith, by_order}
use Rattle.ct_frac.proofs.Base.{Polynomial, polys, polys_domain, times, times_assoc, poly_cmp}
use Rattle.ct_frac.specs.declared.factor.Factor.{Factor}
use Rattle.ct_frac.specs.Normal.{inserted, sorted_onto, with_exponent}
use Rattle.ct_frac.specs.Written.{power, product_of_factors}
use Rattle.ct_frac.proofs.Quotients.{times_nonzero}

pub times_comm : (p q : Polynomial) → times p q ≡ times q p
unfolding times
times_comm p q = polys.mul_comm p q

pub times_one : (p : Polynomial) → times p polys.one ≡ p
unfolding times
times_one p = polys.mul_one p

pub one_times : (p : Polynomial) → times polys.one p ≡ p
one_times p = times_comm polys.one p ∙ times_one p

pub times_left_comm : (p q r : Polynomial) → times p (times q r) ≡ times q (times p r)
times_left_comm p q r = sym (times_assoc p q r) ∙ ap (λ w. times w r) (times_comm p q) ∙ times_assoc q p r

pub power-sum : (p : Polynomial) (m n : ℕ) → power p (m + n) ≡ times (power p m) (power p n)
power-sum p zero n = let none : zero + n ≡ n = omega arith in ap (power p) none ∙ sym (one_times (power p n))
power-sum p (suc m) n =
    let more : suc m + n ≡ suc (m + n) = omega arith in
    ap (power p) more ∙ ap (times p) (power-sum p m n) ∙ sym (times_assoc p (power p m) (power p n))

pub product_of_factors-append : (fs gs : List Factor) → product_of_factors (fs ++ gs) ≡ times (product_of_factors fs) (product_of_factors gs)
product_of_factors-append [] gs = sym (one_times (product_of_factors gs))
product_of_factors-append (f ∷ fs) gs = ap (times (power f.poly f.exp)) (product_of_factors-append fs gs) ∙ sym (times_assoc _ _ _)

pub product_of_factors-with_exponent : (p : Polynomial) (e : ℕ) (fs : List Factor) →
    product_of_factors (with_exponent p e fs) ≡ times (power p e) (product_of_factors fs)
product_of_factors-with_exponent p zero fs = sym (one_times (product_of_factors fs))
product_of_factors-with_exponent p (suc e) fs = refl

pub product_of_factors-inserted : (f : Factor) (fs : List Factor) →
    product_of_factors (inserted f fs) ≡ times (power f.poly f.exp) (product_of_factors fs)
product_of_factors-inserted f [] = refl
product_of_factors-inserted f (g ∷ gs) = by (poly_cmp g.poly f.poly) (product_of_factors-inserted f gs)
  where
    by : (o : Ordering) → product_of_factors (inserted f gs) ≡ times (power f.poly f.exp) (product_of_factors gs)
        → product_of_factors (by_order o (g ∷ inserted f gs) (f ∷ g ∷ gs) (f ∷ g ∷ gs)) ≡ times (power f.poly f.exp) (product_of_factors (g ∷ gs))
    by Less ih = ap (times (power g.poly g.exp)) ih ∙ times_left_comm _ _ _
    by Equal ih = refl
    by Greater ih = refl

pub product_of_factors-sorted_onto : (done fs : List Factor) →
    product_of_factors (sorted_onto done fs) ≡ times (product_of_factors done) (product_of_factors fs)
product_of_factors-sorted_onto done [] = sym (times_one (product_of_factors done))
product_of_factors-sorted_onto done (f ∷ fs) =
    product_of_factors-sorted_onto (inserted f done) fs
    ∙ ap (λ w. times w (product_of_factors fs)) (product_of_factors-inserted f done ∙ times_comm _ _)
    ∙ times_assoc _ _ _

-- ---- they are not zero

pub one_nonzero : polys.one ≢ polys.zero
one_nonzero = polys_domain.proper

pub power_nonzero : (p : Polynomial) (n : ℕ) → p ≢ polys.zero → power p n ≢ polys.zero
power_nonzero p zero some = one_nonzero
power_nonzero p (suc n) some = times_nonzero p (power p n) some (power_nonzero p n some)
