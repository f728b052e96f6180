-- The derivative of a product of powers of factors. Main lemma `product_slope`, which DerivedFractions cites.
-- Times the product of the factors with the name, each taken once, it is the product itself times the sum over these factors
-- of exponent, derivative and all others: by induction over the powers, and over the list.
use Rattle.ct_frac.proofs.Base.{◌≡◌, refl, ℕ, zero, suc, ◌≤◌, pos, ◌+ℤ◌, Bool, true, false, cond, ltb, ◌||◌, ℤ, List, [], ◌∷◌, ◌++◌, sym, ◌∙◌, ap}
use Rattle.ct_frac.proofs.Base.{ap₂, arith, list_any, ints, derived, derived-*, zero_term, derived-number, Mono, exp, unit, Name, place, Polynomial}
use Rattle.ct_frac.proofs.Base.{polys, plus, times, times_assoc, zero_mul, mul_zero, ring4, ring5, ring6, ring8, linear1, reify, number, number_is}
use Rattle.ct_frac.proofs.Base.{number-sum, one_is, EachTerm}
use Rattle.std.proofs.lemmas.Bool.{ltb-false}
use Rattle.ct_algebra.specs.FreeOf.{IsWithout}
use Rattle.ct_algebra.proofs.FreeOfLaws.{derived-free}
use Rattle.ct_frac.specs.declared.factor.Factor.{Factor}
use Rattle.ct_frac.specs.Symbols.{has_name, with_name}
use Rattle.ct_frac.specs.Written.{power, product_of_factors}
use Rattle.ct_frac.proofs.Products.{one_times}

-- the product of the polynomials of factors, each taken once
abbrev pub once : List Factor → Polynomial
once [] = polys.one
once (f ∷ fs) = times f.poly (once fs)

pub once-append : (fs gs : List Factor) → once (fs ++ gs) ≡ times (once fs) (once gs)
once-append [] gs = sym (one_times (once gs))
once-append (f ∷ fs) gs = ap (times f.poly) (once-append fs gs) ∙ sym (times_assoc f.poly (once fs) (once gs))

module _ (i : Name) where
  -- the sum of e·f'·(the product of all others), for each factor f with its exponent e
  abbrev pub slope : List Factor → Polynomial
  slope [] = polys.zero
  slope (f ∷ fs) = plus (times (times (number (pos f.exp)) (derived i f.poly)) (once fs)) (times f.poly (slope fs))

  -- ---- powers

  pub derived-times : (p q : Polynomial) → derived i (times p q) ≡ plus (times p (derived i q)) (times (derived i p) q)
  unfolding times plus
  derived-times p q = derived-* i p q

  derived_one : derived i polys.one ≡ polys.zero
  derived_one = ap (derived i) one_is ∙ derived-number i (pos 1)

  number_zero : number (pos 0) ≡ polys.zero
  number_zero = number_is (pos 0) ∙ zero_term unit

  number_suc : (n : ℕ) → number (pos (suc n)) ≡ polys.◌+◌ (number (pos n)) polys.one
  number_suc n =
      let more : pos (suc n) ≡ pos n +ℤ pos 1 = omega (arith, ints) in
      ap number more ∙ number-sum (pos n) (pos 1) ∙ ap (polys.◌+◌ (number (pos n))) (sym one_is)

  power_slope : (p : Polynomial) (n : ℕ) → times (derived i (power p n)) p ≡ times (times (number (pos n)) (derived i p)) (power p n)
  unfolding times plus
  power_slope p zero =
      ap (λ w. times w p) derived_one ∙ zero_mul polys p
      ∙ sym (ap (λ w. times (times w (derived i p)) polys.one) number_zero ∙ ap (λ w. times w polys.one) (zero_mul polys (derived i p))
      ∙ zero_mul polys polys.one)
  power_slope p (suc n) =
      let w = power p n in
      let k = number (pos n) in
      ap (λ v. times v p) (derived-times p w)
      ∙ linear1 polys p (power_slope p n)
      (ring5 polys p w (derived i w) (derived i p) k (λ a b c d e. (search reify depth 20, search reify depth 20)) refl)
      ∙ ap (λ v. times (times v (derived i p)) (times p w)) (sym (number_suc n))

  -- ---- factors without the name

  free_list : (es : List (Mono × ℤ)) → list_any (λ e. ltb 0 (exp e.0 (place i))) es ≡ false → EachTerm (λ m c. IsWithout i m) es
  free_list [] none = tt
  free_list (e ∷ es) none = by (ltb 0 (exp e.0 (place i))) refl none (free_list es)
    where
      by :
          (b : Bool) → ltb 0 (exp e.0 (place i)) ≡ b → (b || list_any (λ e. ltb 0 (exp e.0 (place i))) es) ≡ false →
          (list_any (λ e. ltb 0 (exp e.0 (place i))) es ≡ false → EachTerm (λ m c. IsWithout i m) es) →
          EachTerm (λ m c. IsWithout i m) (e ∷ es)
      by true told none rest = cc
      by false told none rest = (let low : exp e.0 (place i) ≤ 0 = ltb-false 0 (exp e.0 (place i)) told in omega arith, rest none)

  derived_none : (p : Polynomial) → has_name i p ≡ false → derived i p ≡ polys.zero
  derived_none p none = derived-free i p (free_list p.terms none)

  power_none : (p : Polynomial) (n : ℕ) → derived i p ≡ polys.zero → derived i (power p n) ≡ polys.zero
  unfolding times plus
  power_none p zero none = derived_one
  power_none p (suc n) none =
      derived-times p (power p n)
      ∙ ap₂ (λ u v. plus (times p u) (times v (power p n))) (power_none p n none) none
      ∙ ap₂ plus (mul_zero polys p) (zero_mul polys (power p n)) ∙ polys.add_zero polys.zero

  -- ---- products

  pub product_slope :
      (fs : List Factor) → times (derived i (product_of_factors fs)) (once (with_name i fs)) ≡ times (product_of_factors fs) (slope (with_name i fs))
  unfolding times plus
  product_slope [] = ap (λ w. times w polys.one) derived_one ∙ zero_mul polys polys.one ∙ sym (mul_zero polys polys.one)
  product_slope (f ∷ fs) = by (has_name i f.poly) refl (product_slope fs)
    where
      w : Polynomial
      w = power f.poly f.exp

      p : Polynomial
      p = product_of_factors fs

      o : Polynomial
      o = once (with_name i fs)

      s : Polynomial
      s = slope (with_name i fs)

      k : Polynomial
      k = number (pos f.exp)

      by :
          (b : Bool) → has_name i f.poly ≡ b → times (derived i p) o ≡ times p s →
          times (derived i (times w p)) (once (cond b (f ∷ with_name i fs) (with_name i fs)))
          ≡ times (times w p) (slope (cond b (f ∷ with_name i fs) (with_name i fs)))
      by true there more =
          ap (λ v. times v (times f.poly o)) (derived-times w p)
          ∙ ring6 polys w (derived i w) p (derived i p) f.poly o (λ a b c d e g. (search reify depth 20, search reify depth 20)) refl
          ∙ ap₂ (λ u v. plus (times (times w f.poly) u) (times (times p o) v)) more (power_slope f.poly f.exp)
          ∙ ring8 polys w f.poly p s o k (derived i f.poly) polys.zero (λ a b c d e g h j. (search reify depth 20, search reify depth 20)) refl
      by false none more =
          ap (λ v. times v o) (derived-times w p ∙ ap (λ v. plus (times w (derived i p)) (times v p))
          (power_none f.poly f.exp (derived_none f.poly none)))
          ∙ ring4 polys w p (derived i p) o (λ a b c d. (search reify depth 20, search reify depth 20)) refl
          ∙ ap (times w) more
          ∙ sym (times_assoc w p s)
