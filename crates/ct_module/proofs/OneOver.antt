-- The denominator of 1 over a polynomial multiplied out is the polynomial, but for the sign. Main lemma `one_over`.
-- No factor divides 1 or its negative, since its degree is not 0; so nothing is divided out, and the quotient is written over all
-- factors of the polynomial.
use Rattle.ct_module.proofs.Base.{◌≡◌, ◌≢◌, refl, ℕ, zero, suc, ◌+◌, ◌<◌, pos, Bool, true, false, cond, None, Some, Option, List, [], ◌∷◌, ◌++◌}
use Rattle.ct_module.proofs.Base.{sym, ◌∙◌, ap, ap₂, subst, arith, append_assoc, append-nil, inl, inr, ◌⊎◌}
use Rattle.std.proofs.Common.{ℤ, ◌*ℤ◌, ◌/◌}
use Rattle.std.proofs.lemmas.Nat.Gcd.{dvd_refl}
use Rattle.std.proofs.Math.Nat.{one-dvd}
use Rattle.std.specs.Int.{IsGcd, ◌∣◌}
use Rattle.ct_algebra.specs.Group.{neg_neg, neg_zero}
use Rattle.ct_algebra.specs.Leading.{leading}
use Rattle.ct_algebra.specs.Monomial.{Mono, monomials, unit, total, total-·, ◌·◌}
use Rattle.ct_algebra.specs.Polynomial.{Polynomial, polys, degree_of}
unfoldable use Rattle.ct_algebra.specs.Polynomial.{degree, times}
use Rattle.ct_algebra.specs.Ring.{neg_mul, one_mul, zero_mul}
use Rattle.ct_algebra.specs.Substitution.{one_is, number_is, term_is}
use Rattle.ct_algebra.specs.Sums.{has_none, none_of}
unfoldable use Rattle.ct_algebra.specs.Sums.{single}
use Rattle.ct_algebra.specs.WholeNumbers.{int_group}
use Rattle.ct_telescoping.proofs.RisingLists.{total_unit}
use Rattle.ct_poly.proofs.Contents.{content_only}
use Rattle.ct_poly.proofs.DivisionLaws.{quotient_is}
use Rattle.ct_poly.proofs.ProductLeads.{product_leads}
use Rattle.ct_poly.proofs.WholeDivisors.{divided_by_one}
use Rattle.ct_poly.specs.Content.{content, divided, is_negative, IsContentOf}
use Rattle.ct_poly.specs.Division.{quotient}
use Rattle.ct_frac.proofs.Denominators.{den_nonzero}
use Rattle.ct_frac.proofs.NormalLaws.{normal-nonzero, cancelled_is}
use Rattle.ct_frac.proofs.Products.{one_nonzero, one_times}
use Rattle.ct_frac.proofs.Quotients.{cross_of}
use Rattle.ct_frac.proofs.WholeParts.{content-negative}
use Rattle.ct_frac.specs.declared.factor.Factor.{Factor}
use Rattle.ct_frac.specs.Normal.{on_quotient, divided_out, with_exponent, lowered, in_lowest_terms, with_sign_of, normal, factors_of}
unfoldable use Rattle.ct_frac.specs.Normal.{quotient_of}
use Rattle.ct_frac.specs.Written.{Denominator, Written, AreFactors, IsBase, IsDenominator, multiplied_out, value_over}
unfoldable use Rattle.ct_frac.specs.Written.{value}
use Rattle.std.specs.Prelude.{length, get_or, ◌≤◌}
use Rattle.ct_mono.specs.Division.{Divides}
use Rattle.ct_algebra.specs.Terms.{EachTerm}
use Rattle.ct_poly.proofs.CommonMonomials.{common_divides}
use Rattle.ct_poly.specs.Content.{common_monomial}
use Rattle.ct_poly.specs.Terms.{entries}
use Rattle.ct_poly.specs.declared.term.Term.{Term}
use Rattle.ct_module.specs.Denominators.{IsSignedProduct}

terms-one : polys.one.terms ≡ (unit, pos 1) ∷ []
unfolding single
terms-one = ap (λ p. p.terms) (one_is ∙ number_is (pos 1) ∙ term_is unit (pos 1))

abbrev monomial_of : Option (Mono × ℤ) → Mono
monomial_of None = unit
monomial_of (Some e) = e.0

-- ---- no factor divides 1

none_divides : (q f : Polynomial) → IsBase f → times q f ≢ polys.one
unfolding times degree
none_divides q f base made = by q.terms refl f.terms refl
  where
    by : (qs : List (Mono × ℤ)) → q.terms ≡ qs → (fs : List (Mono × ℤ)) → f.terms ≡ fs → ⊥
    by [] q_is fs f_is =
        let gone : q ≡ polys.zero = none_of monomials int_group q (ap (has_none monomials int_group) q_is) in
        one_nonzero (sym made ∙ ap (λ w. times w f) gone ∙ zero_mul polys f)
    by (a ∷ more) q_is [] f_is =
        let constant : degree f ≡ 0 = ap degree_of f_is in
        let some = base.not_constant in
        omega arith
    by (a ∷ more) q_is (b ∷ bs) f_is =
        let same : Some (a.0 · b.0, a.1 *ℤ b.1) ≡ Some (unit, pos 1) =
        sym (product_leads f b bs f_is q a more q_is) ∙ ap (λ p. leading p.terms) made ∙ ap leading terms-one in
        let high : degree f ≡ total b.0 = ap degree_of f_is in
        let some = base.not_constant in
        omega (arith, total-· a.0 b.0, ap (λ o. total (monomial_of o)) same, total_unit, high, some)

-- 1 and its negative
record IsSignedOne (n : Polynomial) : Type 0 where
  apart : (q f : Polynomial) → IsBase f → times q f ≢ n
  some : n ≢ polys.zero
  primitive : content n ≡ 1

content_of_one : content polys.one ≡ 1
content_of_one = sym (content_only polys.one 1
    (subst (λ es. IsContentOf es 1) (sym terms-one) (λ d. (λ divides. (divides, tt), λ all. all.0))))

one_is_one : IsSignedOne polys.one
one_is_one = record { apart = none_divides; some = one_nonzero; primitive = content_of_one }

negative_is : IsSignedOne (polys.neg polys.one)
unfolding times
negative_is = record {
  apart = λ q f base made. none_divides (polys.neg q) f base
      (neg_mul polys q f ∙ ap polys.neg made ∙ neg_neg polys.group polys.one);
  some = λ none. one_nonzero (sym (neg_neg polys.group polys.one) ∙ ap polys.neg none ∙ neg_zero polys.group);
  primitive = content-negative polys.one ∙ content_of_one;
}

-- ---- nothing is divided out

exponent_kept : (p : Polynomial) (e : ℕ) → 0 < e → with_exponent p e [] ≡ record { poly = p; exp = e } ∷ []
exponent_kept p zero some = absurd (omega arith)
exponent_kept p (suc e) some = refl

module _ (n : Polynomial) (is : IsSignedOne n) where
  no_quotient : (f : Polynomial) → IsBase f → quotient n f ≡ None
  no_quotient f base = by (quotient n f) refl
    where
      by : (o : Option Polynomial) → quotient n f ≡ o → o ≡ None
      by None told = refl
      by (Some q) told = absurd (is.apart q f base (quotient_is n f q told))

  all_left : (f : Polynomial) (e : ℕ) → IsBase f → divided_out f n e ≡ record { numerator = n; exponent = e }
  all_left f zero base = refl
  all_left f (suc e) base = ap (λ o. on_quotient o (record { numerator = n; exponent = suc e }) (λ q. divided_out f q e)) (no_quotient f base)

  lowered_is : (done fs : List Factor) → AreFactors fs → lowered n done fs ≡ record { numerator = n; factors = done ++ fs }
  lowered_is done [] are = ap (λ l. record { numerator = n; factors = l }) (sym (append-nil done))
  lowered_is done (f ∷ fs) are =
      ap (λ l. lowered l.numerator (done ++ with_exponent f.poly l.exponent []) fs) (all_left f.poly f.exp are.0.base)
      ∙ ap (λ l. lowered n (done ++ l) fs) (exponent_kept f.poly f.exp are.0.some)
      ∙ lowered_is (done ++ f ∷ []) fs are.1.1
      ∙ ap (λ l. record { numerator = n; factors = l }) (append_assoc done (f ∷ []) fs)

  normal_is : (d : Denominator) → IsDenominator d → normal n d ≡ record { numerator = n; den = d }
  normal_is d den =
      let lowest : IsGcd (content n) d.whole 1 =
      (one-dvd _, one-dvd _, λ x first second. subst (λ k. x ∣ k) is.primitive first) in
      let over_one : d.whole / 1 ≡ d.whole = omega arith in
      sym (normal-nonzero n d is.some)
      ∙ ap (λ l. in_lowest_terms l d.whole) (lowered_is [] d.factors den.factors)
      ∙ sym (cancelled_is n (divided unit (pos 1) n) d.whole 1 d.factors den.positive lowest refl)
      ∙ ap₂ (λ m k. record { numerator = m; den = record { whole = k; factors = d.factors } }) (divided_by_one n) over_one

-- ---- the quotient

pub one_over :
    (p : Polynomial) (w : Written) → p ≢ polys.zero → IsDenominator (record { whole = content p; factors = factors_of p }) →
    w ≡ quotient_of polys.one p → value w ≡ value_over polys.one p → IsSignedProduct w.den p
unfolding quotient_of value
one_over p w some den is same = by (is_negative p) refl
  where
    d : Denominator
    d = record { whole = content p; factors = factors_of p }

    of : (n : Polynomial) → IsSignedOne n → with_sign_of p polys.one ≡ n → multiplied_out w.den ≡ times n p
    of n one told =
        let made : w ≡ record { numerator = n; den = d } = is ∙ ap (λ m. normal m d) told ∙ normal_is n one d den in
        ap (λ w. multiplied_out w.den) made
        ∙ sym (one_times (multiplied_out d))
        ∙ sym (cross_of n (multiplied_out d) polys.one p (den_nonzero d den) some
        (sym (ap (λ w. value_over w.numerator (multiplied_out w.den)) made) ∙ same))

    by : (b : Bool) → is_negative p ≡ b → IsSignedProduct w.den p
    by false told = inl (of polys.one one_is_one (ap (λ b. cond b (polys.neg polys.one) polys.one) told) ∙ one_times p)
    by true told =
        inr (of (polys.neg polys.one) negative_is (ap (λ b. cond b (polys.neg polys.one) polys.one) told)
        ∙ (unfold times in neg_mul polys polys.one p ∙ ap polys.neg (one_mul polys p)))

-- ---- the limit

pub some_terms : (p : Polynomial) (ts : List Term) → p ≢ polys.zero → entries ts ≡ p.terms → 0 < length ts
some_terms p [] some same = absurd (some (none_of monomials int_group p (ap (has_none monomials int_group) (sym same))))
some_terms p (t ∷ ts) some same = omega arith

-- the total of the common monomial is no greater than that of the first
pub common_low :
    (p : Polynomial) (ts : List Term) (t : Term) (limit : ℕ) → entries ts ≡ p.terms → 0 < length ts → t ≡ get_or ts 0 t → total t.mono ≤ limit →
    total (common_monomial p) ≤ limit
common_low p [] t limit same some first low = absurd (omega arith)
common_low p (x ∷ ts) t limit same some first low =
    let each = subst (EachTerm (λ m c. Divides (common_monomial p) m)) (sym same) (common_divides p) in
    let whole = each.0.1 in
    omega (arith, low, total-· each.0.0 (common_monomial p), ap total whole, ap (λ t. total t.mono) first)
