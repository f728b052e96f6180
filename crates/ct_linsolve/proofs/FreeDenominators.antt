-- A name that no divisor contains isn't in the common denominator of quotients by them: main lemmas `quotient_free`, `common_free` and
-- `den_free`. Each factor of a quotient is a factor of the divisor.
use Rattle.ct_linsolve.proofs.Base.{◌≡◌, ◌≢◌, ℕ, zero, suc, ◌+◌, pos, Bool, true, false, cond, eqb, Ok, List, [], ◌∷◌, ◌++◌, sym, ◌∙◌, ap, subst}
use Rattle.ct_linsolve.proofs.Base.{Polynomial, polys, times, mul_zero, zero_mul, unit, both_fit, monomials, int_group}
use Rattle.std.proofs.Common.{Ordering, Less, Equal, Greater, max}
use Rattle.ct_algebra.specs.FreeOf.{IsFreeOf}
use Rattle.ct_algebra.specs.Monomial.{Mono, exp, exp-unit}
use Rattle.ct_algebra.specs.Names.{Name, place}
use Rattle.ct_telescoping.proofs.Base.{place_small}
use Rattle.ct_algebra.specs.Polynomial.{degree}
use Rattle.ct_algebra.specs.Substitution.{number, number_is, number-*, term, term_is, times_one as number_times_one}
use Rattle.ct_algebra.specs.Sums.{EachTerm-single}
use Rattle.ct_algebra.specs.Terms.{by_order}
use Rattle.ct_frac.specs.declared.factor.Factor.{Factor}
use Rattle.ct_frac.specs.Arithmetic.{joined_greatest, all_greatest, checked_wider, checked_common}
use Rattle.ct_frac.specs.Normal.{divided_out, with_exponent, lowered, in_lowest_terms, normal, inserted, sorted_onto, names_from, unless_constant}
use Rattle.ct_frac.specs.Normal.{factors_of, with_sign_of, quotient_of}
use Rattle.ct_frac.specs.Written.{Denominator, Written, power, product_of_factors, multiplied_out, whole_polynomial}
use Rattle.ct_frac.proofs.NameFactors.{named, product_of_factors-names}
use Rattle.ct_poly.proofs.PrimitiveParts.{part_whole}
use Rattle.ct_poly.specs.Content.{content, common_monomial, primitive_part, signed_content}
use Rattle.ct_int.specs.Divisors.{least_common}
use Rattle.ct_poly.specs.Order.{poly_cmp}
use Rattle.ct_poly.specs.Wholes.{checked_whole}
use Rattle.ct_telescoping.proofs.FreeFactors.{free-times, free_factor, free_one}

module _ (j : Name) where
  -- ---- lists of factors

  abbrev pub AreFree : List Factor → Type 0
  AreFree [] = Unit {0}
  AreFree (f ∷ fs) = IsFreeOf j f.poly × AreFree fs

  free_append : (fs gs : List Factor) → AreFree fs → AreFree gs → AreFree (fs ++ gs)
  free_append [] gs free also = also
  free_append (f ∷ fs) gs free also = (free.0, free_append fs gs free.1 also)

  free_exponent : (p : Polynomial) (e : ℕ) → IsFreeOf j p → AreFree (with_exponent p e [])
  free_exponent p zero free = tt
  free_exponent p (suc e) free = (free, tt)

  free_lowered : (n : Polynomial) (done fs : List Factor) → AreFree done → AreFree fs → AreFree (lowered n done fs).factors
  free_lowered n done [] free also = free
  free_lowered n done (f ∷ fs) free also =
      let left = divided_out f.poly n f.exp in
      free_lowered left.numerator (done ++ with_exponent f.poly left.exponent []) fs
      (free_append done _ free (free_exponent f.poly left.exponent also.0)) also.1

  free_normal : (n : Polynomial) (d : Denominator) → AreFree d.factors → AreFree (normal n d).den.factors
  unfolding normal
  free_normal n d free = by (polys.is_zero n)
    where
      by : (b : Bool) → AreFree (cond b (whole_polynomial polys.zero) (in_lowest_terms (lowered n [] d.factors) d.whole)).den.factors
      by true = tt
      by false = free_lowered n [] d.factors tt free

  free_inserted : (f : Factor) (fs : List Factor) → IsFreeOf j f.poly → AreFree fs → AreFree (inserted f fs)
  free_inserted f [] is free = (is, tt)
  free_inserted f (g ∷ gs) is free = by (poly_cmp g.poly f.poly) (free_inserted f gs is free.1)
    where
      by : (o : Ordering) → AreFree (inserted f gs) → AreFree (by_order o (g ∷ inserted f gs) (f ∷ g ∷ gs) (f ∷ g ∷ gs))
      by Less more = (free.0, more)
      by Equal more = (is, free)
      by Greater more = (is, free)

  free_sorted : (done fs : List Factor) → AreFree done → AreFree fs → AreFree (sorted_onto done fs)
  free_sorted done [] free also = free
  free_sorted done (f ∷ fs) free also = free_sorted (inserted f done) fs (free_inserted f done also.0 free) also.1

  free_greatest : (f : Factor) (fs : List Factor) → IsFreeOf j f.poly → AreFree fs → AreFree (joined_greatest f fs)
  free_greatest f [] is free = (is, tt)
  free_greatest f (g ∷ gs) is free = by (poly_cmp g.poly f.poly) (free_greatest f gs is free.1)
    where
      by : (o : Ordering) → AreFree (joined_greatest f gs)
          → AreFree (by_order o (g ∷ joined_greatest f gs) (record { poly = g.poly; exp = max g.exp f.exp } ∷ gs) (f ∷ g ∷ gs))
      by Less more = (free.0, more)
      by Equal more = free
      by Greater more = (is, free)

  free_all : (done fs : List Factor) → AreFree done → AreFree fs → AreFree (all_greatest done fs)
  free_all done [] free also = free
  free_all done (f ∷ fs) free also = free_all (joined_greatest f done) fs (free_greatest f done also.0 free) also.1

  abbrev pub EachIsFree : List Written → Type 0
  EachIsFree [] = Unit {0}
  EachIsFree (w ∷ ws) = AreFree w.den.factors × EachIsFree ws

  pub common_free :
      (d : Denominator) (ws : List Written) (e : Denominator) → checked_common d ws ≡ Ok e → AreFree d.factors → EachIsFree ws → AreFree e.factors
  unfolding checked_wider
  common_free d [] e fits free each = let same : d ≡ e = cc in subst (λ d. AreFree d.factors) same free
  common_free d (w ∷ ws) e fits free each =
      let both = both_fit (checked_wider d w.den) (λ c. checked_common c ws) e fits in
      let whole = both_fit (checked_whole (least_common d.whole w.den.whole)) _ both.value both.first in
      let made : Denominator = record { whole = whole.value; factors = all_greatest d.factors w.den.factors } in
      let same : made ≡ both.value = cc in
      common_free both.value ws e both.rest (subst (λ d. AreFree d.factors) same (free_all d.factors w.den.factors free each.0)) each.1

  -- ---- products

  free_power : (p : Polynomial) (n : ℕ) → IsFreeOf j p → IsFreeOf j (power p n)
  unfolding times
  free_power p zero free = free_one j
  free_power p (suc n) free = free-times j p (power p n) free (free_power p n free)

  free_product : (fs : List Factor) → AreFree fs → IsFreeOf j (product_of_factors fs)
  unfolding times
  free_product [] free = free_one j
  free_product (f ∷ fs) free = free-times j _ _ (free_power f.poly f.exp free.0) (free_product fs free.1)

  pub den_free : (d : Denominator) → AreFree d.factors → IsFreeOf j (multiplied_out d)
  unfolding multiplied_out times
  den_free d free =
      free-times j _ _
      (subst (IsFreeOf j) (sym (number_is (pos d.whole) ∙ term_is unit (pos d.whole)))
      (EachTerm-single monomials int_group (λ m. exp m (place j) ≡ 0) unit (pos d.whole) (exp-unit (place j) (place_small j))))
      (free_product d.factors free)

  -- ---- the factors of a divisor

  -- factors of a nonzero polynomial without the name
  record AreParts (p q : Polynomial) : Type 0 where
    first : IsFreeOf j p
    second : IsFreeOf j q
    some : p ≢ polys.zero
    other : q ≢ polys.zero

  parts : (p q : Polynomial) → times p q ≢ polys.zero → IsFreeOf j (times p q) → AreParts p q
  unfolding times
  parts p q some free = let both = free_factor j p q some free in record {
    first = both.0;
    second = both.1;
    some = λ none. some (ap (λ w. polys.◌*◌ w q) none ∙ zero_mul polys q);
    other = λ none. some (ap (polys.◌*◌ p) none ∙ mul_zero polys p);
  }

  free_names :
      (left i : ℕ) (m : Mono) → product_of_factors (names_from left i m) ≢ polys.zero → IsFreeOf j (product_of_factors (names_from left i m)) →
      AreFree (names_from left i m)
  free_names zero i m some free = tt
  free_names (suc left) i m some free = by (exp m i) (free_names left (i + 1) m) some free
    where
      rest : List Factor
      rest = names_from left (i + 1) m

      by : (e : ℕ) → (product_of_factors rest ≢ polys.zero → IsFreeOf j (product_of_factors rest) → AreFree rest)
          → product_of_factors (with_exponent (named i) e rest) ≢ polys.zero → IsFreeOf j (product_of_factors (with_exponent (named i) e rest))
          → AreFree (with_exponent (named i) e rest)
      by zero later some free = later some free
      by (suc e) later some free =
          let both = parts (power (named i) (suc e)) (product_of_factors rest) some free in
          ((parts (named i) (power (named i) e) both.some both.first).first, later both.other both.second)

  pub quotient_free : (n d : Polynomial) → d ≢ polys.zero → IsFreeOf j d → AreFree (quotient_of n d).den.factors
  unfolding quotient_of factors_of times
  quotient_free n d some free =
      free_normal (with_sign_of d n) (record { whole = content d; factors = factors_of d })
      (free_sorted [] (names_from 6 0 m ++ unless_constant p) tt (free_append (names_from 6 0 m) (unless_constant p) names (by (eqb (degree p) 0))))
    where
      m : Mono
      m = common_monomial d

      p : Polynomial
      p = primitive_part d

      whole : times (times (number (signed_content d)) (product_of_factors (names_from 6 0 m))) p ≡ d
      whole =
          ap (λ w. times w p) (ap (times (number (signed_content d))) (product_of_factors-names m) ∙ number-* (signed_content d) m (pos 1)
          ∙ ap (term m) (number_times_one (signed_content d)))
          ∙ part_whole d

      outer : AreParts (times (number (signed_content d)) (product_of_factors (names_from 6 0 m))) p
      outer = parts _ p (λ none. some (sym whole ∙ none)) (subst (IsFreeOf j) (sym whole) free)

      names : AreFree (names_from 6 0 m)
      names = let inner = parts (number (signed_content d)) (product_of_factors (names_from 6 0 m)) outer.some outer.first in
          free_names 6 0 m inner.other inner.second

      by : (b : Bool) → AreFree (cond b [] (record { poly = p; exp = 1 } ∷ []))
      by true = tt
      by false = (outer.second, tt)
