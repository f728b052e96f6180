-- Arithmetic brings in no name: what is made of polynomials and of written fractions that use only the first n names uses only these.
-- Main lemmas `free-shift`, `free-derived`, `free-divided` for polynomials, and `fits_normal`, `fits_quotient`, `fits_fraction_sum`
-- and `fits_fraction_product` for fractions.
-- The factors of a divisor are names of its common monomial and its primitive part. What is left of a numerator, times the factors that
-- it has lost, is the numerator.
use Rattle.ct_border.proofs.Base.{◌≡◌, ◌≢◌, ℕ, zero, suc, ◌+◌, ◌-◌, ◌<◌, Bool, true, false, cond, eqb, List, [], ◌∷◌, ◌++◌, map, Ok}
use Rattle.ct_border.proofs.Base.{IfOk, refl, sym, ◌∙◌, ap, subst, arith, All, All-cons, All-head, All-nil, All-tail, Action}
use Rattle.ct_border.proofs.Base.{IsWithout, Mono, exp, exp-unit, exp-·, monomials, ◌·◌, unit, Name, by_symbols, exp-symbol, name_with, place}
use Rattle.ct_border.proofs.Base.{place-name_with, place_small, symbol, Polynomial, polys}
use Rattle.std.proofs.Common.{Ordering, Less, Equal, Greater, ℤ, pos, min, eqb-true, ◌*◌}
use Rattle.std.proofs.lemmas.List.Elements.{All-append}
use Rattle.ct_algebra.specs.Actions.{sigma, sigma_by, delta, delta_by, one_step}
use Rattle.ct_algebra.specs.Derivative.{derived, derived-sum, derived-term, lower, exp-lower}
use Rattle.ct_algebra.specs.FreeOf.{IsFreeOf}
use Rattle.ct_algebra.specs.Monomial.{exp-mono}
use Rattle.ct_algebra.specs.Polynomial.{degree, plus_is, poly_set}
unfoldable use Rattle.ct_algebra.specs.Polynomial.{poly_of, times}
use Rattle.ct_algebra.specs.Ring.{zero_mul}
use Rattle.ct_algebra.specs.Substitution.{P, name, name_is, number, number-*, number_is, shift, shift-name, shift_ring_hom, symbol_term, term}
use Rattle.ct_algebra.specs.Substitution.{term_is, times_one}
use Rattle.ct_algebra.specs.Sums.{EachTerm-single, EachTerm-⊕}
unfoldable use Rattle.ct_algebra.specs.Sums.{negated, none}
use Rattle.ct_algebra.specs.Terms.{EachTerm, by_order}
use Rattle.ct_algebra.specs.WholeNumbers.{int_group}
use Rattle.ct_frac.proofs.NormalLaws.{divided_out_is}
use Rattle.ct_frac.specs.Arithmetic.{all_greatest, checked_cleared, checked_common, checked_exponent, checked_fraction_product, checked_fraction_sum}
use Rattle.ct_frac.specs.Arithmetic.{checked_full_product, checked_joined, checked_joined_all, checked_often, checked_spread, checked_wider}
use Rattle.ct_frac.specs.Arithmetic.{exponent_in, has_zero, joined_greatest}
use Rattle.ct_frac.specs.declared.factor.Factor.{Factor}
use Rattle.ct_frac.specs.declared.left.Left.{Left}
use Rattle.ct_frac.specs.FractionLaws.{IsDividedOut}
use Rattle.ct_frac.specs.Normal.{Lowered, divided_out, in_lowest_terms, inserted, lowered, names_from, sorted_onto, unless_constant, with_exponent}
use Rattle.ct_frac.specs.Normal.{with_sign_of}
unfoldable use Rattle.ct_frac.specs.Normal.{factors_of, normal, quotient_of}
use Rattle.ct_frac.specs.Written.{Denominator, Written, one_den, power, whole_polynomial}
use Rattle.ct_int.specs.Divisors.{least_common}
use Rattle.ct_module.specs.Fitting.{FractionFits, PolynomialFits}
use Rattle.ct_poly.specs.Content.{content, least_exp, least_exp_from, is_negative, term_divided}
unfoldable use Rattle.ct_poly.specs.Content.{common_monomial, divided, primitive_part}
unfoldable use Rattle.ct_poly.specs.Measures.{checked_plus, checked_times}
use Rattle.ct_poly.specs.Order.{poly_cmp}
use Rattle.ct_poly.specs.Wholes.{checked_whole}
use Rattle.ct_telescoping.proofs.FreeFactors.{free-times, free_factor, free_one}
use Rattle.ct_border.proofs.KeptFacts.{hom_keeps, mapped_keeps, next_keeps, sum_keeps, then_keeps, verdict_keeps}

-- ---- polynomials without a name

module _ (i : Name) where
  free-plus : (p q : Polynomial) → IsFreeOf i p → IsFreeOf i q → IsFreeOf i (polys.◌+◌ p q)
  free-plus p q first second = EachTerm-⊕ monomials int_group (IsWithout i) p q first second

  free_none : IsFreeOf i polys.zero
  unfolding none
  free_none = tt

  free_term : (m : Mono) (c : ℤ) → IsWithout i m → IsFreeOf i (term m c)
  free_term m c without = subst (IsFreeOf i) (sym (term_is m c)) (EachTerm-single monomials int_group (IsWithout i) m c without)

  free_number : (c : ℤ) → IsFreeOf i (number c)
  free_number c = subst (IsFreeOf i) (sym (number_is c)) (free_term unit c (exp-unit (place i) (place_small i)))

  free_name : (j : Name) → place i ≢ place j → IsFreeOf i (name j)
  free_name j other =
      subst (IsFreeOf i) (sym (name_is j))
      (free_term (symbol j) (pos 1) (exp-symbol j (place i) (place_small i) ∙ by (eqb (place i) (place j)) refl))
    where
      by : (b : Bool) → eqb (place i) (place j) ≡ b → ◌≡◌ {A = ℕ} (cond b 1 0) 0
      by true same = absurd (other (eqb-true (place i) (place j) same))
      by false told = refl

  -- each term by itself
  free_terms :
      (f : Mono × ℤ → Mono × ℤ) → ((e : Mono × ℤ) → IsWithout i e.0 → IsWithout i (f e).0) → (p : Polynomial) → IsFreeOf i p →
      IsFreeOf i (poly_of (map f p.terms))
  unfolding poly_of
  free_terms f keeps p free =
      sum_keeps monomials int_group poly_set P (λ m c. IsWithout i m) (IsFreeOf i) free_none free-plus (λ q. q)
      (record { sums = λ x y. refl }) (EachTerm-single monomials int_group (IsWithout i)) (map f p.terms)
      (mapped_keeps (λ m c. IsWithout i m) f keeps p.terms free)

  free-negative : (p : Polynomial) → IsFreeOf i p → IsFreeOf i (polys.neg p)
  unfolding negated poly_of
  free-negative p free = free_terms (λ e. (e.0, int_group.neg e.1)) (λ e without. without) p free

  free-divided : (m : Mono) (c : ℤ) (p : Polynomial) → IsFreeOf i p → IsFreeOf i (divided m c p)
  unfolding divided
  free-divided m c p free =
      free_terms (term_divided m c) (λ e without. exp-mono (λ k. exp e.0 k - exp m k) (place i) (place_small i) ∙ omega (arith, without)) p free

  -- each term, by a map with sums
  free_map :
      (φ : Polynomial → Polynomial) → ((p q : Polynomial) → φ (polys.◌+◌ p q) ≡ polys.◌+◌ (φ p) (φ q)) →
      ((m : Mono) (c : ℤ) → IsWithout i m → IsFreeOf i (φ (term m c))) → (p : Polynomial) → IsFreeOf i p → IsFreeOf i (φ p)
  free_map φ sums each p free =
      hom_keeps monomials int_group poly_set P (λ m c. IsWithout i m) (IsFreeOf i) free_none free-plus φ (record { sums = sums })
      (λ m c without. subst (λ t. IsFreeOf i (φ t)) (term_is m c) (each m c without)) p free

  free-derived : (j : Name) (p : Polynomial) → IsFreeOf i p → IsFreeOf i (derived j p)
  free-derived j p free =
      free_map (derived j) (derived-sum j) (λ m c without. subst (IsFreeOf i) (sym (derived-term j m c))
      (free_term (lower j m) _ (exp-lower j m (place i) (place_small i) ∙ omega (arith, without)))) p free

  free-shift : (a : Name → ℤ) (p : Polynomial) → IsFreeOf i p → IsFreeOf i (shift a p)
  free-shift a p free = free_map (shift a) (shift_ring_hom a).sums on_term p free
    where
      monic : (m : Mono) → IsWithout i m → IsFreeOf i (shift a (term m (pos 1)))
      monic =
          by_symbols (λ m. IsWithout i m → IsFreeOf i (shift a (term m (pos 1))))
          (λ without. subst (λ p. IsFreeOf i (shift a p)) (number_is (pos 1))
          (subst (IsFreeOf i) (sym ((shift_ring_hom a).numbers (pos 1))) (free_number (pos 1))))
          (λ j m before without.
          let sum : exp (symbol j · m) (place i) ≡ exp (symbol j) (place i) + exp m (place i) = exp-· (symbol j) m (place i) (place_small i) in
          subst (λ p. IsFreeOf i (shift a p)) (sym (symbol_term j m))
          (subst (IsFreeOf i) (sym ((shift_ring_hom a).products _ _))
          (free-times i _ _ (subst (IsFreeOf i) (sym (shift-name a j)) (free-plus _ _
          (subst (IsFreeOf i) (sym (name_is j)) (free_term (symbol j) (pos 1) (omega (arith, sum, without)))) (free_number (a j))))
          (before (omega (arith, sum, without))))))

      on_term : (m : Mono) (c : ℤ) → IsWithout i m → IsFreeOf i (shift a (term m c))
      on_term m c without =
          subst (λ p. IsFreeOf i (shift a p)) (number-* c m (pos 1) ∙ ap (term m) (times_one c))
          (subst (IsFreeOf i) (sym ((shift_ring_hom a).products _ _))
          (free-times i _ _ (subst (IsFreeOf i) (sym ((shift_ring_hom a).numbers c)) (free_number c)) (monic m without)))

  free-sigma : (t : Action) (j : Name) (p : Polynomial) → IsFreeOf i p → IsFreeOf i (sigma_by t j p)
  free-sigma Action.Shift j p free = free-shift (one_step j) p free
  free-sigma Action.Derive j p free = free
  free-sigma Action.Still j p free = free

  free-delta : (t : Action) (j : Name) (p : Polynomial) → IsFreeOf i p → IsFreeOf i (delta_by t j p)
  free-delta Action.Shift j p free = free_none
  free-delta Action.Derive j p free = free-derived j p free
  free-delta Action.Still j p free = free_none

  -- the common monomial
  without_common : (p : Polynomial) → IsFreeOf i p → IsWithout i (common_monomial p)
  unfolding common_monomial
  without_common p free = exp-mono (λ k. least_exp k p.terms) (place i) (place_small i) ∙ least p.terms free
    where
      from : (es : List (Mono × ℤ)) (k : ℕ) → k ≡ 0 → least_exp_from k (place i) es ≡ 0
      from [] k none = none
      from (e ∷ es) k none = from es (min k (exp e.0 (place i))) (omega (arith, none))

      least : (es : List (Mono × ℤ)) → EachTerm (λ m c. IsWithout i m) es → least_exp (place i) es ≡ 0
      least [] free = refl
      least (e ∷ es) free = from es (exp e.0 (place i)) free.0

-- ---- polynomials that use only the first names

module _ (n : ℕ) where
  pub fits_zero : PolynomialFits n polys.zero
  fits_zero i past = free_none i

  pub fits_one : PolynomialFits n polys.one
  fits_one i past = free_one i

  pub fits_number : (c : ℤ) → PolynomialFits n (number c)
  fits_number c i past = free_number i c

  pub fits-plus : (p q : Polynomial) → PolynomialFits n p → PolynomialFits n q → PolynomialFits n (polys.◌+◌ p q)
  fits-plus p q first second i past = free-plus i p q (first i past) (second i past)

  pub fits-times : (p q : Polynomial) → PolynomialFits n p → PolynomialFits n q → PolynomialFits n (times p q)
  unfolding times
  fits-times p q first second i past = free-times i p q (first i past) (second i past)

  pub fits-negative : (p : Polynomial) → PolynomialFits n p → PolynomialFits n (polys.neg p)
  fits-negative p fits i past = free-negative i p (fits i past)

  pub fits-divided : (m : Mono) (c : ℤ) (p : Polynomial) → PolynomialFits n p → PolynomialFits n (divided m c p)
  fits-divided m c p fits i past = free-divided i m c p (fits i past)

  pub fits-sigma : (a : Name → Action) (j : Name) (p : Polynomial) → PolynomialFits n p → PolynomialFits n (sigma a j p)
  fits-sigma a j p fits i past = free-sigma i (a j) j p (fits i past)

  pub fits-delta : (a : Name → Action) (j : Name) (p : Polynomial) → PolynomialFits n p → PolynomialFits n (delta a j p)
  fits-delta a j p fits i past = free-delta i (a j) j p (fits i past)

  pub fits_name : (j : Name) → place j < n → PolynomialFits n (name j)
  fits_name j known i past = free_name i j (λ same. omega (arith, same, known, past))

  -- ---- lists of factors

  abbrev pub FactorFits : Factor → Type 0
  FactorFits f = PolynomialFits n f.poly

  abbrev FactorsFit : List Factor → Type 0
  FactorsFit fs = All FactorFits fs

  joins : (f : Factor) (fs : List Factor) → FactorFits f → FactorsFit fs → FactorsFit (f ∷ fs)
  joins f fs first rest = All-cons FactorFits f fs first rest

  by_order_keeps : {X : Type 0} (Q : X → Type 0) (o : Ordering) {x y z : X} → Q x → Q y → Q z → Q (by_order o x y z)
  by_order_keeps Q Less first second third = first
  by_order_keeps Q Equal first second third = second
  by_order_keeps Q Greater first second third = third

  fits_exponent : (p : Polynomial) (e : ℕ) (fs : List Factor) → PolynomialFits n p → FactorsFit fs → FactorsFit (with_exponent p e fs)
  fits_exponent p zero fs first rest = rest
  fits_exponent p (suc e) fs first rest = joins _ fs first rest

  fits_inserted : (f : Factor) (fs : List Factor) → FactorFits f → FactorsFit fs → FactorsFit (inserted f fs)
  fits_inserted f [] first rest = joins f [] first rest
  fits_inserted f (g ∷ gs) first rest =
      by_order_keeps FactorsFit (poly_cmp g.poly f.poly)
      (joins g _ (All-head FactorFits g gs rest) (fits_inserted f gs first (All-tail FactorFits g gs rest)))
      (joins f (g ∷ gs) first rest) (joins f (g ∷ gs) first rest)

  fits_sorted : (done fs : List Factor) → FactorsFit done → FactorsFit fs → FactorsFit (sorted_onto done fs)
  fits_sorted done [] before rest = before
  fits_sorted done (f ∷ fs) before rest =
      fits_sorted (inserted f done) fs (fits_inserted f done (All-head FactorFits f fs rest) before) (All-tail FactorFits f fs rest)

  fits_greatest : (f : Factor) (fs : List Factor) → FactorFits f → FactorsFit fs → FactorsFit (joined_greatest f fs)
  fits_greatest f [] first rest = joins f [] first rest
  fits_greatest f (g ∷ gs) first rest =
      let here = All-head FactorFits g gs rest in
      let later = All-tail FactorFits g gs rest in
      by_order_keeps FactorsFit (poly_cmp g.poly f.poly) (joins g _ here (fits_greatest f gs first later)) (joins _ gs here later)
      (joins f (g ∷ gs) first rest)

  fits_all_greatest : (done fs : List Factor) → FactorsFit done → FactorsFit fs → FactorsFit (all_greatest done fs)
  fits_all_greatest done [] before rest = before
  fits_all_greatest done (f ∷ fs) before rest =
      fits_all_greatest (joined_greatest f done) fs (fits_greatest f done (All-head FactorFits f fs rest) before) (All-tail FactorFits f fs rest)

  fits_joined : (f : Factor) (fs : List Factor) → FactorFits f → FactorsFit fs → IfOk (checked_joined f fs) FactorsFit
  fits_joined f [] first rest = joins f [] first rest
  fits_joined f (g ∷ gs) first rest =
      let here = All-head FactorFits g gs rest in
      let later = All-tail FactorFits g gs rest in
      by_order_keeps (λ c. IfOk c FactorsFit) (poly_cmp g.poly f.poly)
      (then_keeps FactorsFit FactorsFit (checked_joined f gs) _ (fits_joined f gs first later) (λ hs kept. joins g hs here kept))
      (next_keeps FactorsFit (checked_exponent (g.exp + f.exp)) _ (λ e. joins _ gs here later))
      (joins f (g ∷ gs) first rest)

  fits_joined_all : (done fs : List Factor) → FactorsFit done → FactorsFit fs → IfOk (checked_joined_all done fs) FactorsFit
  fits_joined_all done [] before rest = before
  fits_joined_all done (f ∷ fs) before rest =
      then_keeps FactorsFit FactorsFit (checked_joined f done) _ (fits_joined f done (All-head FactorFits f fs rest) before)
      (λ joined kept. fits_joined_all joined fs kept (All-tail FactorFits f fs rest))

  -- ---- fractions in normal form

  record IsLowered (l : Lowered) : Type 0 where
    numerator : PolynomialFits n l.numerator
    factors : FactorsFit l.factors

  fits_lowered :
      (p : Polynomial) (done fs : List Factor) → p ≢ polys.zero → PolynomialFits n p → FactorsFit done → FactorsFit fs →
      IsLowered (lowered p done fs)
  unfolding times
  fits_lowered p done [] some fits before rest = record { numerator = fits; factors = before }
  fits_lowered p done (f ∷ fs) some fits before rest =
      fits_lowered left.numerator (done ++ with_exponent f.poly left.exponent []) fs
      (λ none. some (is.numerator_is ∙ ap (λ w. polys.◌*◌ w (power f.poly is.lost)) none ∙ zero_mul polys _))
      (λ i past.
      (free_factor i left.numerator (power f.poly is.lost) (λ none. some (is.numerator_is ∙ none))
      (subst (IsFreeOf i) is.numerator_is (fits i past))).0)
      (All-append FactorFits done _ before (fits_exponent f.poly left.exponent [] (All-head FactorFits f fs rest) (All-nil FactorFits)))
      (All-tail FactorFits f fs rest)
    where
      left : Left
      left = divided_out f.poly p f.exp

      is : IsDividedOut f.poly p f.exp left
      is = divided_out_is f.poly p f.exp

  pub fits_normal : (p : Polynomial) (d : Denominator) → PolynomialFits n p → FactorsFit d.factors → FractionFits n (normal p d)
  unfolding normal
  fits_normal p d fits rest = by (polys.is_zero p) refl
    where
      by :
          (b : Bool) → polys.is_zero p ≡ b →
          FractionFits n (cond b (whole_polynomial polys.zero) (in_lowest_terms (lowered p [] d.factors) d.whole))
      by true told = (fits_zero, All-nil FactorFits)
      by false told =
          let some : p ≢ polys.zero = λ none. (let yes : polys.is_zero p ≡ true = ap polys.is_zero none ∙ polys.zero_true in cc) in
          let l = fits_lowered p [] d.factors some fits (All-nil FactorFits) rest in
          (fits-divided unit _ _ l.numerator, l.factors)

  fits_factors : (d : Polynomial) → PolynomialFits n d → FactorsFit (factors_of d)
  unfolding factors_of primitive_part
  fits_factors d fits =
      fits_sorted [] _ (All-nil FactorFits)
      (All-append FactorFits (names_from 6 0 m) (unless_constant (primitive_part d)) (names 6 0 (omega arith))
      (by (eqb (degree (primitive_part d)) 0)))
    where
      m : Mono
      m = common_monomial d

      names : (left k : ℕ) → left + k ≡ 6 → FactorsFit (names_from left k m)
      names zero k all = All-nil FactorFits
      names (suc left) k all = at (exp m k) refl (names left (k + 1) (omega (arith, all)))
        where
          at :
              (e : ℕ) → exp m k ≡ e → FactorsFit (names_from left (k + 1) m) →
              FactorsFit (with_exponent (name (name_with k)) e (names_from left (k + 1) m))
          at zero is rest = rest
          at (suc e) is rest =
              joins _ _
              (λ i past. free_name i (name_with k) (λ same.
              let none : exp m k ≡ 0 = ap (exp m) (sym (same ∙ place-name_with k (omega (arith, all)))) ∙ without_common i d (fits i past) in
              omega (arith, none, is)))
              rest

      by : (b : Bool) → FactorsFit (cond b [] (record { poly = primitive_part d; exp = 1 } ∷ []))
      by true = All-nil FactorFits
      by false = joins _ [] (fits-divided _ _ d fits) (All-nil FactorFits)

  pub fits_quotient : (p d : Polynomial) → PolynomialFits n p → PolynomialFits n d → FractionFits n (quotient_of p d)
  unfolding quotient_of
  fits_quotient p d fits divisor =
      fits_normal (with_sign_of d p) (record { whole = content d; factors = factors_of d }) (by (is_negative d)) (fits_factors d divisor)
    where
      by : (b : Bool) → PolynomialFits n (cond b (polys.neg p) p)
      by true = fits-negative p fits
      by false = fits

  -- ---- sums and products of fractions

  fits_common :
      (d : Denominator) (ws : List Written) → FactorsFit d.factors → All (FractionFits n) ws →
      IfOk (checked_common d ws) (λ e. FactorsFit e.factors)
  unfolding checked_wider
  fits_common d [] before all = before
  fits_common d (w ∷ ws) before all =
      then_keeps (λ e. FactorsFit e.factors) (λ e. FactorsFit e.factors) (checked_wider d w.den) _
      (next_keeps (λ e. FactorsFit e.factors) (checked_whole (least_common d.whole w.den.whole)) _
      (λ whole. fits_all_greatest d.factors w.den.factors before (All-head (FractionFits n) w ws all).1))
      (λ e kept. fits_common e ws kept (All-tail (FractionFits n) w ws all))

  fits_checked_times : (p q : Polynomial) → PolynomialFits n p → PolynomialFits n q → IfOk (checked_times p q) (PolynomialFits n)
  unfolding checked_times
  fits_checked_times p q first second = verdict_keeps (PolynomialFits n) _ _ (fits-times p q first second)

  fits_often : (f : Polynomial) (k : ℕ) (p : Polynomial) → PolynomialFits n f → PolynomialFits n p → IfOk (checked_often f k p) (PolynomialFits n)
  fits_often f zero p first fits = fits
  fits_often f (suc k) p first fits =
      then_keeps (PolynomialFits n) (PolynomialFits n) (checked_times p f) _ (fits_checked_times p f fits first)
      (λ q kept. fits_often f k q first kept)

  fits_spread : (p : Polynomial) (fs gs : List Factor) → PolynomialFits n p → FactorsFit gs → IfOk (checked_spread p fs gs) (PolynomialFits n)
  fits_spread p fs [] fits rest = fits
  fits_spread p fs (g ∷ gs) fits rest =
      then_keeps (PolynomialFits n) (PolynomialFits n) (checked_often g.poly (g.exp - exponent_in g.poly fs) p) _
      (fits_often g.poly _ p (All-head FactorFits g gs rest) fits) (λ q kept. fits_spread q fs gs kept (All-tail FactorFits g gs rest))

  fits_cleared : (w : Written) (d : Denominator) → FractionFits n w → FactorsFit d.factors → IfOk (checked_cleared w d) (PolynomialFits n)
  unfolding checked_cleared
  fits_cleared w d fits rest =
      then_keeps (PolynomialFits n) (PolynomialFits n) (checked_times w.numerator _) _
      (fits_checked_times w.numerator _ fits.0 (fits_number _)) (λ p kept. fits_spread p w.den.factors d.factors kept rest)

  pub fits_fraction_sum : (x y : Written) → FractionFits n x → FractionFits n y → IfOk (checked_fraction_sum x y) (FractionFits n)
  unfolding checked_fraction_sum checked_plus
  fits_fraction_sum x y first second =
      then_keeps (λ e. FactorsFit e.factors) (FractionFits n) (checked_common one_den (x ∷ y ∷ [])) _
      (fits_common one_den (x ∷ y ∷ []) (All-nil FactorFits)
      (All-cons (FractionFits n) x (y ∷ []) first (All-cons (FractionFits n) y [] second (All-nil (FractionFits n)))))
      (λ d common. then_keeps (PolynomialFits n) (FractionFits n) (checked_cleared x d) _ (fits_cleared x d first common)
      (λ mine one. then_keeps (PolynomialFits n) (FractionFits n) (checked_cleared y d) _ (fits_cleared y d second common)
      (λ its other. then_keeps (PolynomialFits n) (FractionFits n) (checked_plus mine its) _
      (verdict_keeps (PolynomialFits n) _ _
      (subst (PolynomialFits n) (sym (plus_is mine its)) (fits-plus mine its one other)))
      (λ p both. fits_normal p d both common))))

  pub fits_fraction_product : (x y : Written) → FractionFits n x → FractionFits n y → IfOk (checked_fraction_product x y) (FractionFits n)
  unfolding checked_fraction_product checked_full_product
  fits_fraction_product x y first second = by (has_zero x y)
    where
      by : (b : Bool) → IfOk (cond b (Ok (whole_polynomial polys.zero)) (checked_full_product x y)) (FractionFits n)
      by true = (fits_zero, All-nil FactorFits)
      by false =
          then_keeps (PolynomialFits n) (FractionFits n) (checked_times x.numerator y.numerator) _
          (fits_checked_times x.numerator y.numerator first.0 second.0)
          (λ p both. next_keeps (FractionFits n) (checked_whole (x.den.whole * y.den.whole)) _
          (λ whole. then_keeps FactorsFit (FractionFits n) (checked_joined_all x.den.factors y.den.factors) _
          (fits_joined_all x.den.factors y.den.factors first.1 second.1)
          (λ fs joined. fits_normal p (record { whole = whole; factors = fs }) both joined)))
