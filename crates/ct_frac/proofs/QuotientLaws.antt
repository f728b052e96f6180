-- The quotient of two polynomials is a written form of their quotient as values. Main lemmas `parts_den`, `quotient_of-parts`
-- and `quotient_of-value`, which `Frac::quotient` cites.
-- The factors of the divisor are the names of its common monomial and its primitive part: times its content they are the
-- divisor, but for the sign.
use Rattle.ct_frac.proofs.Base.{◌≡◌, ◌≢◌, refl, ℕ, ◌+◌, ◌<◌, ◌≤◌, ℤ, pos, negsuc, neg_ℤ, unsigned_abs, Bool, true, false, cond, eqb, List, [], ◌∷◌}
use Rattle.ct_frac.proofs.Base.{◌++◌, sym, ◌∙◌, ap, ap₂, subst, arith, Less, Equal, ◌∣◌, append-nil, dvd_refl, eq-one_of_dvd-one, pos_of_ne-zero}
use Rattle.ct_frac.proofs.Base.{neg_unique, less_is, Mono, monomials, mono_cmp, mono_same, exp-unit, same_mono, total, unit, Polynomial, polys, times}
use Rattle.ct_frac.proofs.Base.{times_assoc, degree, degree_greatest, norm, ring2, reify, term, term_is, number, number-*, number_is, one_is}
use Rattle.ct_frac.proofs.Base.{term-sum, zero_mul, one_mul, same_terms, single, none_of, has_none, EachTerm, IsCanonical, int_group, largest_degree}
use Rattle.ct_frac.proofs.Base.{largest_norm, DividesAll, content, common_monomial, is_negative, leads_below_zero, signed_content, signed}
use Rattle.ct_frac.proofs.Base.{primitive_part, content_is, content_small}
use Rattle.std.proofs.lemmas.Bool.{eqb-true, eqb-false}
use Rattle.ct_poly.proofs.PrimitiveParts.{part_whole, part_primitive}
use Rattle.ct_frac.specs.declared.factor.Factor.{Factor}
use Rattle.ct_frac.specs.Normal.{normal, names_from, sorted_onto, unless_constant, factors_of, with_sign_of, quotient_of}
use Rattle.ct_frac.specs.Written.{Denominator, AreFactors, IsFactor, IsDenominator, product_of_factors, multiplied_out, value, value_over}
use Rattle.ct_frac.proofs.Denominators.{den_nonzero}
use Rattle.ct_frac.proofs.NameFactors.{IsBounded, names_different, differs_from_names, name_divides, product_of_factors-names, total_some}
use Rattle.ct_frac.proofs.NormalLaws.{normal-value}
use Rattle.ct_frac.proofs.Products.{times_comm, times_one, product_of_factors-append, product_of_factors-sorted_onto, one_times}
use Rattle.ct_frac.proofs.Quotients.{same_over}
use Rattle.ct_frac.proofs.Sorting.{DiffersFrom, AreDifferent, AreApart, sorted_factors, apart_from_none, AreDifferent-append}
use Rattle.ct_algebra.specs.Substitution as substitution

-- ---- a constant primitive part is 1

no_total : (m : Mono) → total m ≤ 0 → m ≡ unit
no_total m none = same_mono m unit (λ i small. let there = total_some m i small in let gone = exp-unit i small in omega arith)

constant_list :
    (es : List (Mono × ℤ)) → IsCanonical monomials int_group es → EachTerm (λ m c. total m ≤ 0) es → es ≢ [] →
    (c : ℤ) × (es ≡ (unit, c) ∷ [])
constant_list [] canonical low some = absurd (some refl)
constant_list (e ∷ []) canonical low some = (e.1, ap (λ m. (m, e.1) ∷ []) (no_total e.0 low.0))
constant_list (e ∷ d ∷ es) canonical low some =
    let same : mono_cmp d.0 e.0 ≡ Equal = ap (λ m. mono_cmp m e.0) (no_total d.0 low.1.0 ∙ sym (no_total e.0 low.0)) ∙ mono_same e.0 in
    let less : mono_cmp d.0 e.0 ≡ Less = less_is monomials int_group _ canonical.1.0 in
    let both : Equal ≡ Less = sym same ∙ less in
    cc

terms-one : polys.one.terms ≡ (unit, pos 1) ∷ []
unfolding single
terms-one = ap (λ p. p.terms) (one_is ∙ number_is (pos 1) ∙ term_is unit (pos 1))

one_number : (c : ℤ) → unsigned_abs c ≡ 1 → leads_below_zero ((unit, c) ∷ []) ≡ false → c ≡ pos 1
one_number (pos n) size sign = ap pos size
one_number (negsuc n) size sign = cc

constant_is_one :
    (p : Polynomial) → p ≢ polys.zero → degree p ≡ 0 → content p ≡ 1 → is_negative p ≡ false → p ≡ polys.one
constant_is_one p some constant primitive positive = by (constant_list p.terms p.canonical low full)
  where
    low : EachTerm (λ m c. total m ≤ 0) p.terms
    low = subst (λ k. EachTerm (λ m c. total m ≤ k) p.terms) constant (degree_greatest p)

    full : p.terms ≢ []
    full empty = some (none_of monomials int_group p (ap (has_none monomials int_group) empty))

    by : (c : ℤ) × (p.terms ≡ (unit, c) ∷ []) → p ≡ polys.one
    by (c, list) =
        let all : DividesAll (unsigned_abs c) p.terms = subst (DividesAll (unsigned_abs c)) (sym list) (dvd_refl (unsigned_abs c), tt) in
        let size : unsigned_abs c ≡ 1 = eq-one_of_dvd-one (subst (λ k. unsigned_abs c ∣ k) primitive ((content_is p (unsigned_abs c)).1 all)) in
        let sign : leads_below_zero ((unit, c) ∷ []) ≡ false = ap leads_below_zero (sym list) ∙ (unfold is_negative in positive) in
        same_terms monomials int_group p polys.one (list ∙ ap (λ k. (unit, k) ∷ []) (one_number c size sign) ∙ sym terms-one)

term-none : (m : Mono) → term m (pos 0) ≡ polys.zero
unfolding single
term-none m = term_is m (pos 0) ∙ none_of monomials int_group (single monomials int_group m (pos 0)) refl

term-negative : (m : Mono) (c : ℤ) → polys.neg (term m c) ≡ term m (neg_ℤ c)
term-negative m c = sym
    (neg_unique polys.group (term m c) (term m (neg_ℤ c)) (sym (term-sum m c (neg_ℤ c)) ∙ ap (term m) (int_group.add_neg c) ∙ term-none m))

-- ---- the factors

apart_from_one : (fs : List Factor) (f : Factor) → DiffersFrom f.poly fs → AreApart fs (f ∷ [])
apart_from_one [] f differs = tt
apart_from_one (g ∷ gs) f differs = ((λ same. differs.0 (sym same), tt), apart_from_one gs f differs.1)

module _ (d : Polynomial) (some : d ≢ polys.zero) where
  abbrev m : Mono
  m = common_monomial d

  abbrev p : Polynomial
  p = primitive_part d

  abbrev names : List Factor
  names = names_from 6 0 m

  part_nonzero : p ≢ polys.zero
  part_nonzero none =
      some (sym (part_whole d) ∙ ap (times (term m (signed_content d))) none ∙ times_comm _ _ ∙ (unfold times in zero_mul polys _))

  pub divisor_factors : IsBounded m → AreFactors (factors_of d)
  unfolding factors_of
  divisor_factors bounded = by (eqb (degree p) 0) refl
    where
      six : 6 + 0 ≡ 6
      six = refl

      by : (b : Bool) → eqb (degree p) 0 ≡ b → AreFactors (sorted_onto [] (names ++ cond b [] (record { poly = p; exp = 1 } ∷ [])))
      by true told =
          sorted_factors [] (names ++ []) tt
          (subst AreDifferent (sym (append-nil names)) (names_different 6 0 m six bounded)) (apart_from_none (names ++ []))
      by false told =
          let is = part_primitive d some in
          let factor : Factor = record { poly = p; exp = 1 } in
          let is_factor : IsFactor factor = record {
            base = record { not_constant = pos_of_ne-zero (eqb-false (degree p) 0 told); primitive = is.0; positive = is.1 };
            some = omega arith;
            few = omega arith;
          } in
          let differs : DiffersFrom p names = differs_from_names p 6 0 m six (λ j low small. name_divides j small p is.2) in
          sorted_factors [] (names ++ factor ∷ []) tt
          (AreDifferent-append names (factor ∷ []) (names_different 6 0 m six bounded) (is_factor, (tt, tt)) (apart_from_one names factor differs))
          (apart_from_none (names ++ factor ∷ []))

  product_of_factors-factors : product_of_factors (factors_of d) ≡ times (term m (pos 1)) p
  unfolding factors_of
  product_of_factors-factors =
      product_of_factors-sorted_onto [] (names ++ unless_constant p) ∙ one_times _
      ∙ product_of_factors-append names (unless_constant p) ∙ ap₂ times (product_of_factors-names m) (by (eqb (degree p) 0) refl)
    where
      by : (b : Bool) → eqb (degree p) 0 ≡ b → product_of_factors (cond b [] (record { poly = p; exp = 1 } ∷ [])) ≡ p
      by false told = times_one _ ∙ times_one p
      by true told =
          let is = part_primitive d some in
          sym (constant_is_one p part_nonzero (eqb-true (degree p) 0 told) is.0 is.1)

  abbrev pub divisor : Denominator
  divisor = record { whole = content d; factors = factors_of d }

  content_positive : 0 < content d
  content_positive = pos_of_ne-zero
      (λ none. some (sym (part_whole d) ∙ ap (λ c. times (term m c) p) (sign_of none) ∙ ap (λ w. times w p) (term-none m)
      ∙ (unfold times in zero_mul polys p)))
    where
      sign_of : content d ≡ 0 → signed_content d ≡ pos 0
      sign_of none = unfold signed_content in ap (signed (is_negative d)) none ∙ by (is_negative d)
        where
          by : (b : Bool) → signed b 0 ≡ pos 0
          by true = refl
          by false = refl

  pub divisor_den : IsBounded m → content d ≤ largest_norm → IsDenominator divisor
  divisor_den bounded small = record { positive = content_positive; within = small; factors = divisor_factors bounded }

  divisor_is : multiplied_out divisor ≡ times (term m (pos (content d))) p
  unfolding multiplied_out times
  divisor_is =
      ap (times (number (pos (content d)))) product_of_factors-factors
      ∙ sym (times_assoc (number (pos (content d))) (term m (pos 1)) p)
      ∙ ap (λ w. times w p) (number-* (pos (content d)) m (pos 1) ∙ ap (term m) (substitution.times_one (pos (content d))))

  -- the divisor, but for the sign
  with_sign : polys.◌*◌ (cond (is_negative d) (polys.neg polys.one) polys.one) (multiplied_out divisor) ≡ d
  with_sign = by (is_negative d) refl
    where
      whole : (b : Bool) → is_negative d ≡ b → times (term m (signed b (content d))) p ≡ d
      whole b told = ap (λ s. times (term m (signed s (content d))) p) (sym told) ∙ (unfold signed_content in part_whole d)

      by : (b : Bool) → is_negative d ≡ b → polys.◌*◌ (cond b (polys.neg polys.one) polys.one) (multiplied_out divisor) ≡ d
      by false told = one_mul polys _ ∙ divisor_is ∙ whole false told
      by true told =
          ap (polys.◌*◌ (polys.neg polys.one)) divisor_is
          ∙ negative (term m (pos (content d)))
          ∙ ap (λ w. times w p) (term-negative m (pos (content d)))
          ∙ whole true told
        where
          negative : (x : Polynomial) → polys.◌*◌ (polys.neg polys.one) (times x p) ≡ times (polys.neg x) p
          negative x = unfold times in ring2 polys x p (λ a b. (search reify depth 12, search reify depth 12)) refl

  cross_sign : (n : Polynomial) → times (with_sign_of d n) d ≡ times n (multiplied_out divisor)
  unfolding times
  cross_sign n = ap (times (with_sign_of d n)) (sym with_sign) ∙ by (is_negative d)
    where
      by : (b : Bool) → polys.◌*◌ (cond b (polys.neg n) n) (polys.◌*◌ (cond b (polys.neg polys.one) polys.one) (multiplied_out divisor)) ≡
          polys.◌*◌ n (multiplied_out divisor)
      by true = ring2 polys n (multiplied_out divisor) (λ a b. (search reify depth 12, search reify depth 12)) refl
      by false = ring2 polys n (multiplied_out divisor) (λ a b. (search reify depth 12, search reify depth 12)) refl

  pub signed_value :
      (n : Polynomial) → IsDenominator divisor → value_over (with_sign_of d n) (multiplied_out divisor) ≡ value_over n d
  signed_value n is = same_over (with_sign_of d n) (multiplied_out divisor) n d (den_nonzero divisor is) some (cross_sign n)

-- what the code makes of the parts of the divisor
pub parts_den :
    (d : Polynomial) (some : d ≢ polys.zero) (whole : ℕ) (fs : List Factor) → whole ≡ content d → fs ≡ factors_of d →
    total (common_monomial d) ≤ largest_degree → norm d ≤ largest_norm → IsDenominator (record { whole = whole; factors = fs })
parts_den d some whole fs whole_is factors_is low small =
    subst IsDenominator (sym (ap₂ (λ k gs. record { whole = k; factors = gs }) whole_is factors_is))
    (divisor_den d some (λ i known. let there = total_some (common_monomial d) i known in omega arith) (let high = content_small d in omega arith))

pub factors_are :
    (d p : Polynomial) (m : Mono) (fs : List Factor) → fs ≡ sorted_onto [] (names_from 6 0 m ++ unless_constant p) →
    m ≡ common_monomial d → p ≡ primitive_part d → fs ≡ factors_of d
unfolding factors_of
factors_are d p m fs made mono part = made ∙ ap₂ (λ m p. sorted_onto [] (names_from 6 0 m ++ unless_constant p)) mono part

pub quotient_of-parts :
    (n d m : Polynomial) (whole : ℕ) (fs : List Factor) → m ≡ with_sign_of d n → whole ≡ content d → fs ≡ factors_of d →
    normal m (record { whole = whole; factors = fs }) ≡ quotient_of n d
unfolding quotient_of
quotient_of-parts n d m whole fs sign whole_is factors_is =
    ap₂ (λ x e. normal x e) sign (ap₂ (λ k gs. record { whole = k; factors = gs }) whole_is factors_is)

pub quotient_of-value :
    (n d : Polynomial) → d ≢ polys.zero → total (common_monomial d) ≤ largest_degree → norm d ≤ largest_norm →
    value (quotient_of n d) ≡ value_over n d
unfolding quotient_of
quotient_of-value n d some low small =
    let is = parts_den d some (content d) (factors_of d) refl refl low small in
    normal-value (with_sign_of d n) (divisor d some) is ∙ signed_value d some n is
