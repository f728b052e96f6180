-- The primitive form and the primitive part: that they are quotients of the whole, and that nothing more divides them.
-- Main lemmas `form_whole`, `part_whole`, `form_primitive` and `part_primitive`, which the laws of contents cite.
-- What divides the quotients, times the content divides the coefficients; so it divides 1. Likewise of monomials.
use Rattle.ct_poly.proofs.Base.{◌≡◌, ◌↔◌, refl, ℕ, zero, suc, ◌-◌, ◌*◌, ◌/◌, ℤ, pos, negsuc, neg_ℤ, ◌*ℤ◌, int_div, unsigned_abs, Bool, true, false}
use Rattle.ct_poly.proofs.Base.{cond, T, List, [], ◌∷◌, sym, ◌∙◌, ap, subst, arith, ◌∣◌, unsigned_abs-mul, dvd_refl, div-mul_cancel}
use Rattle.ct_poly.proofs.Base.{mul-dvd-mul_right, dvd_of_mul-dvd-mul_right, eq-one_of_dvd-one, one-mul, neg_mul, mul_neg, not_zero, Mono, monomials}
use Rattle.ct_poly.proofs.Base.{exp, exp-mono, exp-·, exp-unit, same_mono, unit, ◌·◌, has_none, none_of, EachTerm, EachTerm-weaker, IsCanonical}
use Rattle.ct_poly.proofs.Base.{int_group, int_ring, int_is_zero, term, number, number_is, Polynomial, polys, times, Divides}
use Rattle.std.proofs.Math.IntN.{negsuc-*ℤ-pos, neg_ℤ-neg_ℤ}
use Rattle.ct_poly.specs.Content.{DividesAll, TermDivides, content, common_monomial, is_negative, is_below_zero, leads_below_zero, signed}
use Rattle.ct_poly.specs.Content.{signed_content, divided, primitive_form, primitive_part}
use Rattle.ct_poly.proofs.CommonMonomials.{divides_exp, exp_divides, without, common_divides, common_greatest}
use Rattle.ct_poly.proofs.Contents.{content_is}
use Rattle.ct_poly.proofs.DividedTerms.{quotients, divisor_nonzero, divided_whole, divided_terms}
use Rattle.ct_poly.proofs.WholeQuotients.{abs_of, int_div-*, positive_abs}

-- ---- signed multiples

pub abs-signed : (b : Bool) (n : ℕ) → unsigned_abs (signed b n) ≡ n
abs-signed true n = abs_of n
abs-signed false n = refl

neg_times : (k n : ℕ) → neg_ℤ (pos k) *ℤ pos n ≡ neg_ℤ (pos (k * n))
neg_times k n = neg_mul int_ring (pos k) (pos n)

signed_multiple : (b : Bool) (k n : ℕ) (c : ℤ) → k * n ≡ unsigned_abs c → (q : ℤ) × (q *ℤ signed b n ≡ c)
signed_multiple false k n (pos c) same = (pos k, ap pos same)
signed_multiple false k n (negsuc c) same = (neg_ℤ (pos k), neg_times k n ∙ ap (λ x. neg_ℤ (pos x)) same)
signed_multiple true k n (pos c) same =
    (neg_ℤ (pos k), mul_neg int_ring (neg_ℤ (pos k)) (pos n) ∙ ap neg_ℤ (neg_times k n) ∙ neg_ℤ-neg_ℤ (pos (k * n)) ∙ ap pos same)
signed_multiple true k n (negsuc c) same = (pos k, mul_neg int_ring (pos k) (pos n) ∙ ap (λ x. neg_ℤ (pos x)) same)

goes_in : (p : Polynomial) (m : Mono) (k : Mono) (c : ℤ) → Divides m k → content p ∣ unsigned_abs c → TermDivides m (signed_content p) k c
unfolding signed_content
goes_in p m k c divides whole =
    (divides, signed_multiple (is_negative p) (unsigned_abs c / content p) (content p) c (div-mul_cancel (content p) whole))

EachTerm-both :
    (S Q : Mono → ℤ → Type 0) (es : List (Mono × ℤ)) → EachTerm S es → EachTerm Q es → EachTerm (λ m c. S m c × Q m c) es
EachTerm-both S Q [] s q = tt
EachTerm-both S Q (e ∷ es) s q = ((s.0, q.0), EachTerm-both S Q es s.1 q.1)

pub goes_each : (p : Polynomial) (m : Mono) → EachTerm (λ k c. Divides m k) p.terms → EachTerm (TermDivides m (signed_content p)) p.terms
goes_each p m each =
    EachTerm-weaker (λ k c both. goes_in p m k c both.0 both.1) p.terms
    (EachTerm-both (λ k c. Divides m k) (λ k c. content p ∣ unsigned_abs c) p.terms each ((content_is p (content p)).0 (dvd_refl (content p))))

unit_divides : (es : List (Mono × ℤ)) → EachTerm (λ k c. Divides unit k) es
unit_divides [] = tt
unit_divides (e ∷ es) = (exp_divides unit e.0 (λ i small. omega (arith, exp-unit i small)), unit_divides es)

pub form_goes : (p : Polynomial) → EachTerm (TermDivides unit (signed_content p)) p.terms
form_goes p = goes_each p unit (unit_divides p.terms)

pub part_goes : (p : Polynomial) → EachTerm (TermDivides (common_monomial p) (signed_content p)) p.terms
part_goes p = goes_each p (common_monomial p) (common_divides p)

-- ---- the parts make the whole

pub form_whole : (p : Polynomial) → times (number (signed_content p)) (primitive_form p) ≡ p
unfolding primitive_form
form_whole p =
    ap (λ w. times w (divided unit (signed_content p) p)) (number_is (signed_content p))
    ∙ divided_whole unit (signed_content p) p (form_goes p)

pub part_whole : (p : Polynomial) → times (term (common_monomial p) (signed_content p)) (primitive_part p) ≡ p
unfolding primitive_part
part_whole p = divided_whole (common_monomial p) (signed_content p) p (part_goes p)

-- ---- nothing more divides them

pub times_each :
    (x : ℕ) (m : Mono) (d : ℤ) (es : List (Mono × ℤ)) → IsCanonical monomials int_group es → EachTerm (TermDivides m d) es →
    DividesAll x (quotients m d es) → DividesAll (x * unsigned_abs d) es
times_each x m d [] canonical each all = tt
times_each x m d (e ∷ es) canonical each all = (by each.0.1, times_each x m d es canonical.2 each.1 all.1)
  where
    by : (q : ℤ) × (q *ℤ d ≡ e.1) → x * unsigned_abs d ∣ unsigned_abs e.1
    by (q, whole) =
        let same : int_div e.1 d ≡ q = ap (λ c. int_div c d) (sym whole) ∙ int_div-* q d (divisor_nonzero q d e.1 whole canonical.0) in
        let size : unsigned_abs (int_div e.1 d) * unsigned_abs d ≡ unsigned_abs e.1 =
        ap (λ k. unsigned_abs k * unsigned_abs d) same ∙ sym (unsigned_abs-mul q d) ∙ ap unsigned_abs whole in
        subst (λ n. x * unsigned_abs d ∣ n) size (mul-dvd-mul_right x all.0 (unsigned_abs d))

quotient_sign : (q c : ℤ) (n : ℕ) → q *ℤ signed (is_below_zero c) n ≡ c → (c ≡ pos 0 → ⊥) → is_below_zero q ≡ false
quotient_sign (pos k) c n whole some = refl
quotient_sign (negsuc k) (pos c) n whole some = by (suc k * n) (sym (negsuc-*ℤ-pos k n) ∙ whole)
  where
    by : (x : ℕ) → neg_ℤ (pos x) ≡ pos c → is_below_zero (negsuc k) ≡ false
    by zero same = absurd (some (sym same))
    by (suc x) same = cc
quotient_sign (negsuc k) (negsuc c) n whole some =
    let same : pos (suc k * n) ≡ negsuc c =
    sym (mul_neg int_ring (negsuc k) (pos n) ∙ ap neg_ℤ (negsuc-*ℤ-pos k n) ∙ neg_ℤ-neg_ℤ (pos (suc k * n))) ∙ whole in cc

-- a nonzero polynomial has a first term
record First (p : Polynomial) : Type 0 where
  head : Mono × ℤ
  rest : List (Mono × ℤ)
  full : p.terms ≡ head ∷ rest

first_of : (p : Polynomial) → (p ≡ polys.zero → ⊥) → First p
first_of p some = by p.terms refl
  where
    by : (es : List (Mono × ℤ)) → p.terms ≡ es → First p
    by [] empty = absurd (some (none_of monomials int_group p (ap (has_none monomials int_group) empty)))
    by (e ∷ es) full = record { head = e; rest = es; full = full }

module _ (p : Polynomial) (some : p ≡ polys.zero → ⊥) (m : Mono) (each : EachTerm (TermDivides m (signed_content p)) p.terms) where
  abbrev d : ℤ
  d = signed_content p

  nonzero : First p → d ≡ pos 0 → ⊥
  nonzero f none =
      let canonical = subst (IsCanonical monomials int_group) f.full p.canonical in
      let goes = subst (EachTerm (TermDivides m d)) f.full each in
      by goes.0.1 canonical.0
    where
      by : (q : ℤ) × (q *ℤ d ≡ f.head.1) → T (cond (int_is_zero f.head.1) false true) → ⊥
      by (q, whole) nonzero = divisor_nonzero q d f.head.1 whole nonzero none

  size : unsigned_abs d ≡ content p
  unfolding signed_content
  size = abs-signed (is_negative p) (content p)

  divided_content : content (divided m d p) ≡ 1
  divided_content =
      let x = content (divided m d p) in
      let all : DividesAll x (quotients m d p.terms) =
      subst (DividesAll x) (divided_terms m d p each) ((content_is (divided m d p) x).0 (dvd_refl x)) in
      let both : x * unsigned_abs d ∣ content p = (content_is p (x * unsigned_abs d)).1 (times_each x m d p.terms p.canonical each all) in
      eq-one_of_dvd-one (dvd_of_mul-dvd-mul_right x (positive_abs d (nonzero (first_of p some)))
      (subst (λ n. x * unsigned_abs d ∣ n) (sym (one-mul (unsigned_abs d) ∙ size)) both))

  divided_sign : is_negative (divided m d p) ≡ false
  unfolding is_negative
  divided_sign = ap leads_below_zero (divided_terms m d p each) ∙ by (first_of p some)
    where
      by : First p → leads_below_zero (quotients m d p.terms) ≡ false
      by f =
          let canonical = subst (IsCanonical monomials int_group) f.full p.canonical in
          let goes = subst (EachTerm (TermDivides m d)) f.full each in
          ap (λ es. leads_below_zero (quotients m d es)) f.full ∙ told goes.0.1 canonical.0
        where
          sign : d ≡ signed (is_below_zero f.head.1) (content p)
          sign = unfold signed_content is_negative in ap (λ es. signed (leads_below_zero es) (content p)) f.full

          told : (q : ℤ) × (q *ℤ d ≡ f.head.1) → T (cond (int_is_zero f.head.1) false true) → is_below_zero (int_div f.head.1 d) ≡ false
          told (q, whole) nonzero =
              ap is_below_zero (ap (λ c. int_div c d) (sym whole) ∙ int_div-* q d (divisor_nonzero q d f.head.1 whole nonzero))
              ∙ quotient_sign q f.head.1 (content p) (ap (λ k. q *ℤ k) (sym sign) ∙ whole) (not_zero monomials int_group f.head.1 nonzero)

divides_more :
    (t m : Mono) (d : ℤ) (es : List (Mono × ℤ)) → EachTerm (TermDivides m d) es → EachTerm (λ k c. Divides t k) (quotients m d es) →
    EachTerm (λ k c. Divides (t · m) k) es
divides_more t m d [] each all = tt
divides_more t m d (e ∷ es) each all = (
  exp_divides (t · m) e.0
      (λ i small. omega (
        arith,
        exp-· t m i small,
        divides_exp m e.0 each.0.0 i small,
        divides_exp t (without m e.0) all.0 i small,
        exp-mono (λ i. exp e.0 i - exp m i) i small,
      )),
  divides_more t m d es each.1 all.1,
)

part_monomial : (p : Polynomial) → (p ≡ polys.zero → ⊥) → common_monomial (primitive_part p) ≡ unit
unfolding primitive_part
part_monomial p some = by (first_of p some)
  where
    by : First p → common_monomial (divided (common_monomial p) (signed_content p) p) ≡ unit
    by f =
        let m = common_monomial p in
        let t = common_monomial (divided m (signed_content p) p) in
        let all = subst (EachTerm (λ k c. Divides t k)) (divided_terms m (signed_content p) p (part_goes p))
        (common_divides (divided m (signed_content p) p)) in
        let more : Divides (t · m) m =
        common_greatest p (t · m) f.head f.rest f.full (divides_more t m (signed_content p) p.terms (part_goes p) all) in
        same_mono t unit (λ i small. omega (arith, exp-· t m i small, divides_exp (t · m) m more i small, exp-unit i small))

pub form_primitive : (p : Polynomial) → (p ≡ polys.zero → ⊥) → (content (primitive_form p) ≡ 1) × (is_negative (primitive_form p) ≡ false)
unfolding primitive_form
form_primitive p some = (divided_content p some unit (form_goes p), divided_sign p some unit (form_goes p))

pub part_primitive :
    (p : Polynomial) → (p ≡ polys.zero → ⊥) →
    (content (primitive_part p) ≡ 1) × (is_negative (primitive_part p) ≡ false) × (common_monomial (primitive_part p) ≡ unit)
unfolding primitive_part
part_primitive p some = (
  divided_content p some (common_monomial p) (part_goes p),
  divided_sign p some (common_monomial p) (part_goes p),
  unfold primitive_part in part_monomial p some,
)

pub common_is : (p : Polynomial) (t : Mono) → (p ≡ polys.zero → ⊥) → Divides t (common_monomial p) ↔ EachTerm (λ m c. Divides t m) p.terms
common_is p t some = (
  λ divides. EachTerm-weaker
      (λ m c d. exp_divides t m
      (λ i small. omega (arith, divides_exp t (common_monomial p) divides i small, divides_exp (common_monomial p) m d i small))) p.terms
      (common_divides p),
  λ each. by (first_of p some) each,
)
  where
    by : First p → EachTerm (λ m c. Divides t m) p.terms → Divides t (common_monomial p)
    by f each = common_greatest p t f.head f.rest f.full each
