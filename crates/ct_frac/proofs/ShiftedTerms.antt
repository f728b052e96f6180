-- A shift keeps the leading term and the content of a polynomial, and is undone by the opposite one. Main lemmas
-- `shift_leads`, `content-shift` and `shift_injective`, which ShiftedFactors cites.
-- A shifted monomial is itself and lower ones, by induction over products of names; so the first term stays the first. A
-- number that divides each coefficient is a factor that the shift leaves as it is.
use Rattle.ct_frac.proofs.Base.{◌≡◌, ◌≢◌, refl, ℕ, zero, suc, ℤ, pos, ◌+ℤ◌, ◌*ℤ◌, neg_ℤ, unsigned_abs, T, Some, List, [], ◌∷◌, Less, sym, ◌∙◌, ap}
use Rattle.ct_frac.proofs.Base.{ap₂, subst, ◌∣◌, unsigned_abs-mul, dvd_refl, dvd_antisymm, dvd-mul_right, zero_term, hom_zero, at_below, at_head}
use Rattle.ct_frac.proofs.Base.{not_zero, less_is, AllBelow_trans, leading, Leads, Mono, monomials, mono, mono_cmp, graded, unit, ◌·◌, ·_comm, ·-unit}
use Rattle.ct_frac.proofs.Base.{Name, x0, x1, x2, x3, x4, x5, symbol, by_symbols, Polynomial, polys, poly_of, plus, plus_is, times, times_is}
use Rattle.ct_frac.proofs.Base.{terms-poly_of, zero_mul, P, term, term_is, name, name_is, number, number_is, number-*, times_one, symbol_term, shift}
use Rattle.ct_frac.proofs.Base.{shift_ring_hom, shift-name, at, at-⊕, none, EachTerm-single, AllBelow, IsCanonical, EachTerm, is_less, value_at}
use Rattle.ct_frac.proofs.Base.{int_group, plus_zero, DividesAll, content, divided, content_is}
use Rattle.ct_algebra.specs.Laws.ShiftInverse.{shift_back}
use Rattle.ct_algebra.proofs.LeadingTerms.{leads_of, leading-Leads, Leads-leading}
use Rattle.ct_algebra.proofs.PolynomialLawProofs.{sums_of_terms}
use Rattle.ct_algebra.proofs.TermLists.{row_of}
use Rattle.ct_poly.proofs.ProductLeads.{product_leads, all_below}
use Rattle.ct_poly.proofs.TermLists.{rebuilt, poly_of-single, terms-multiple, nonzero_coef}
use Rattle.ct_frac.proofs.WholeParts.{part_whole}

abbrev IsFirst : Polynomial → Mono → ℤ → Type 0
IsFirst p m c = leading p.terms ≡ Some (m, c)

-- ---- sums and products

-- a term above all others of a sum
higher_leads : (p q : Polynomial) (m : Mono) (c : ℤ) → IsFirst p m c → AllBelow monomials int_group m q.terms → IsFirst (plus p q) m c
unfolding plus at
higher_leads p q m c first below =
    leading-Leads monomials int_group (plus p q) m _ leads ∙ ap (λ d. Some (m, d)) value
  where
    led : Leads monomials int_group p m c
    led = Leads-leading monomials int_group p m c first

    falling : IsCanonical monomials int_group ((m, c) ∷ led.rest)
    falling = subst (IsCanonical monomials int_group) led.is_first p.canonical

    value : at monomials int_group (plus p q) m ≡ c
    value =
        at-⊕ monomials int_group p q m
        ∙ ap₂ ◌+ℤ◌ (ap (λ es. value_at monomials int_group es m) led.is_first ∙ at_head monomials int_group (m, c) led.rest falling.1)
        (at_below monomials int_group m q.terms below)
        ∙ plus_zero c

    above : (k : Mono) → mono_cmp m k ≡ Less → at monomials int_group (plus p q) k ≡ pos 0
    above k less =
        at-⊕ monomials int_group p q k
        ∙ ap₂ ◌+ℤ◌ (at_below monomials int_group k p.terms (subst (AllBelow monomials int_group k) (sym led.is_first)
        (all_below k ((m, c) ∷ led.rest) (less, each k less led.rest falling.1))))
        (at_below monomials int_group k q.terms (AllBelow_trans monomials int_group m k q.terms less below))
      where
        each : (k : Mono) → mono_cmp m k ≡ Less → (es : List (Mono × ℤ)) → AllBelow monomials int_group m es →
            EachTerm (λ n d. mono_cmp n k ≡ Less) es
        each k less [] low = tt
        each k less (e ∷ es) low = (monomials.trans e.0 m k (less_is monomials int_group _ low.0) less, each k less es low.1)

    leads : Leads monomials int_group (plus p q) m (at monomials int_group (plus p q) m)
    leads = leads_of monomials int_group (plus p q) m (λ gone. not_zero monomials int_group c falling.0 (sym value ∙ gone)) above

multiplied_leads :
    (p q : Polynomial) (m n : Mono) (c d : ℤ) → IsFirst p m c → IsFirst q n d → IsFirst (times p q) (m · n) (c *ℤ d)
multiplied_leads p q m n c d first second =
    let led = Leads-leading monomials int_group p m c first in
    let other = Leads-leading monomials int_group q n d second in
    product_leads q (n, d) other.rest other.is_first p (m, c) led.rest led.is_first

-- ---- one term

term_leads : (m : Mono) (c : ℤ) → c ≢ pos 0 → IsFirst (term m c) m c
term_leads m c some =
    ap (λ p. leading p.terms) (sym (poly_of-single m c))
    ∙ ap leading (terms-poly_of ((m, c) ∷ []) (nonzero_coef c some, tt, tt))

one_there : pos 1 ≢ pos 0
one_there same = cc

unit_below : (i : Name) → mono_cmp unit (symbol i) ≡ Less
unfolding mono_cmp graded unit symbol mono
unit_below x0 = refl
unit_below x1 = refl
unit_below x2 = refl
unit_below x3 = refl
unit_below x4 = refl
unit_below x5 = refl

number_below : (i : Name) (c : ℤ) → AllBelow monomials int_group (symbol i) (number c).terms
number_below i c =
    all_below (symbol i) (number c).terms
    (subst (λ p. EachTerm (λ k d. mono_cmp k (symbol i) ≡ Less) p.terms) (sym (number_is c ∙ term_is unit c))
    (EachTerm-single monomials int_group (λ k. mono_cmp k (symbol i) ≡ Less) unit c (unit_below i)))

module _ (a : Name → ℤ) where
  shifted_product : (p q : Polynomial) → shift a (polys.◌*◌ p q) ≡ times (shift a p) (shift a q)
  shifted_product p q = (shift_ring_hom a).products p q ∙ sym (times_is _ _)

  name_leads : (i : Name) → IsFirst (shift a (name i)) (symbol i) (pos 1)
  name_leads i =
      ap (λ p. leading p.terms) (shift-name a i ∙ sym (plus_is _ _))
      ∙ higher_leads (name i) (number (a i)) (symbol i) (pos 1)
      (ap (λ p. leading p.terms) (name_is i) ∙ term_leads (symbol i) (pos 1) one_there) (number_below i (a i))

  monic_leads : (m : Mono) → IsFirst (shift a (term m (pos 1))) m (pos 1)
  monic_leads =
      by_symbols (λ m. IsFirst (shift a (term m (pos 1))) m (pos 1))
      (ap (λ p. leading p.terms) (ap (shift a) (sym (number_is (pos 1))) ∙ (shift_ring_hom a).numbers (pos 1) ∙ number_is (pos 1))
      ∙ term_leads unit (pos 1) one_there)
      (λ i m before.
      ap (λ p. leading p.terms) (ap (shift a) (symbol_term i m) ∙ shifted_product _ _)
      ∙ multiplied_leads (shift a (name i)) (shift a (term m (pos 1))) (symbol i) m (pos 1) (pos 1) (name_leads i) before)

  shifted_term_leads : (m : Mono) (c : ℤ) → c ≢ pos 0 → IsFirst (shift a (term m c)) m c
  shifted_term_leads m c some =
      ap (λ p. leading p.terms) (ap (shift a) (sym (number-* c m (pos 1) ∙ ap (term m) (times_one c))) ∙ shifted_product _ _
      ∙ ap (λ w. times w (shift a (term m (pos 1)))) ((shift_ring_hom a).numbers c))
      ∙ multiplied_leads (number c) (shift a (term m (pos 1))) unit m c (pos 1) (ap (λ p. leading p.terms) (number_is c) ∙ term_leads unit c some)
      (monic_leads m)
      ∙ ap₂ (λ k d. Some (k, d)) (·_comm unit m ∙ ·-unit m) (times_one c)

  -- ---- all terms

  below_leading :
      (q : Polynomial) (m : Mono) (es : List (Mono × ℤ)) → leading q.terms ≡ leading es → AllBelow monomials int_group m es →
      AllBelow monomials int_group m q.terms
  below_leading q m es same low = by es q.terms q.canonical same low
    where
      by :
          (es fs : List (Mono × ℤ)) → IsCanonical monomials int_group fs → leading fs ≡ leading es → AllBelow monomials int_group m es →
          AllBelow monomials int_group m fs
      by es [] falling same low = tt
      by [] (f ∷ fs) falling same low = cc
      by (e ∷ es) (f ∷ fs) falling same low =
          let first : f ≡ e = cc in
          let less = less_is monomials int_group _ low.0 in
          let below : T (is_less (mono_cmp f.0 m)) = subst (λ d. T (is_less (mono_cmp d.0 m))) (sym first) low.0 in
          (below, AllBelow_trans monomials int_group f.0 m fs (less_is monomials int_group _ below) falling.1)

  list_leads : (es : List (Mono × ℤ)) → IsCanonical monomials int_group es → leading (shift a (poly_of es)).terms ≡ leading es
  unfolding none
  list_leads [] falling =
      ap (λ p. leading p.terms) (ap (shift a) sums_of_terms.of_none ∙ hom_zero {G = P} {H = P} (record { sums = (shift_ring_hom a).sums }))
  list_leads (e ∷ es) falling =
      ap (λ p. leading p.terms) (ap (shift a) (sums_of_terms.of_more e es ∙ plus_is _ _) ∙ (shift_ring_hom a).sums _ _ ∙ sym (plus_is _ _))
      ∙ higher_leads (shift a (term e.0 e.1)) (shift a (poly_of es)) e.0 e.1
      (shifted_term_leads e.0 e.1 (not_zero monomials int_group e.1 falling.0))
      (below_leading (shift a (poly_of es)) e.0 es (list_leads es falling.2) falling.1)

  pub shift_leads : (p : Polynomial) → leading (shift a p).terms ≡ leading p.terms
  shift_leads p = ap (λ q. leading (shift a q).terms) (sym (rebuilt p)) ∙ list_leads p.terms p.canonical

  pub shift_injective : (p q : Polynomial) → shift a p ≡ shift a q → p ≡ q
  shift_injective p q same = sym (shift_back a p) ∙ ap (shift (λ i. neg_ℤ (a i))) same ∙ shift_back a q

-- ---- the content

multiple_divides : (d : ℕ) (q : Polynomial) → d ∣ content (times (number (pos d)) q)
unfolding times none
multiple_divides zero q =
    (content_is _ 0).1 (subst (λ p. DividesAll 0 p.terms) (sym (ap (λ w. polys.◌*◌ w q) (number_is (pos 0) ∙ zero_term unit) ∙ zero_mul polys q)) tt)
multiple_divides (suc d) q =
    (content_is _ (suc d)).1 (subst (DividesAll (suc d))
    (sym (ap (λ w. (times w q).terms) (number_is (pos (suc d))) ∙ terms-multiple unit (pos (suc d)) q tt)) (row q.terms))
  where
    row : (es : List (Mono × ℤ)) → DividesAll (suc d) (row_of (unit, pos (suc d)) es)
    row [] = tt
    row (e ∷ es) = (subst (λ n. suc d ∣ n) (sym (unsigned_abs-mul (pos (suc d)) e.1)) (dvd-mul_right (suc d) (unsigned_abs e.1)), row es)

content_grows : (a : Name → ℤ) (p : Polynomial) → content p ∣ content (shift a p)
content_grows a p =
    let g = content p in
    let q = divided unit (pos g) p in
    subst (λ r. g ∣ content r)
    (sym (ap (shift a) (sym (part_whole g p (dvd_refl g)) ∙ times_is _ _) ∙ shifted_product a _ _
    ∙ ap (λ w. times w (shift a q)) ((shift_ring_hom a).numbers (pos g))))
    (multiple_divides g (shift a q))

pub content-shift : (a : Name → ℤ) (p : Polynomial) → content (shift a p) ≡ content p
content-shift a p =
    dvd_antisymm (subst (λ q. content (shift a p) ∣ content q) (shift_back a p) (content_grows (λ i. neg_ℤ (a i)) (shift a p)))
    (content_grows a p)
