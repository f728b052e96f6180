-- The proof of specs/Determined. Maps that keep sums are known from single terms; maps of rings and derivations from the
-- names; the product of operators and what they make from symbols, since each monomial is a product of them; and maps of the field from
-- polynomials, since a value times its denominator is its numerator, and nonzero factors cancel.
use Rattle.std.specs.Prelude.{◌≡◌, ◌≢◌, refl, ℕ, ◌+◌, ℤ, pos, ◌*ℤ◌, Bool, true, false, cond, eqb}
use Rattle.std.proofs.Common.{sym, ◌∙◌, ap, subst, arith, eqb-true, eq-eqb}
use Rattle.ct_algebra.specs.Group.{cancel}
use Rattle.ct_algebra.specs.Ring.{add_mul}
use Rattle.ct_algebra.specs.Domain.{mul_cancel}
use Rattle.ct_algebra.specs.Sums.{single, same_hom, same_hom_at}
use Rattle.ct_algebra.specs.Terms.{EachTerm-weaker}
use Rattle.ct_algebra.specs.Monomial.{Mono, exp, exp-·, monomials, ◌·◌, unit}
use Rattle.ct_algebra.specs.Names.{Name, place, place_small, same_place, symbol, exp-symbol, power, power_unit, power_symbol, by_symbols}
use Rattle.ct_algebra.specs.Polynomial.{Polynomial, polys, polys_domain, plus, times}
use Rattle.ct_algebra.specs.Substitution.{P, term, number, name, agree, same_ring_hom, term-*}
use Rattle.ct_algebra.specs.Laws.Derivations.{same_derivation}
use Rattle.ct_algebra.specs.Actions.{Action, Shift, Derive, Still, sigma, delta}
use Rattle.ct_algebra.specs.Operators.{Operator, operator_set, operator_group, term_of, sum_of_operators, product_of, symbol_before, multiple}
use Rattle.ct_algebra.specs.Operators.{product_of-sum_left}
use Rattle.ct_algebra.specs.OnPolynomials.{made_of}
use Rattle.ct_algebra.specs.FreeOf.{IsWithout, IsOver}
use Rattle.ct_algebra.specs.Fractions.{Ratio, by_values, fraction_set}
use Rattle.ct_algebra.specs.Division.{fractions_domain, embed_nonzero}
use Rattle.ct_algebra.specs.Field.{K, field, coefficients, sigma_by-nonzero}
use Rattle.ct_algebra.specs.FieldLaws.{embedded, value_of}
use Rattle.ct_algebra.specs.Determined.{OperationsAreDetermined}
use Rattle.ct_algebra.proofs.AppliedOperators.{multiple-one}
use Rattle.ct_algebra.proofs.OperatorTerms.{sums_are, term_of-single}
use Rattle.ct_algebra.proofs.ProductRule.{product_of-symbol, product_of-split, multiple-one_term, product_of-term_of, symbols_commute}
use Rattle.ct_algebra.proofs.ProductRule.{symbol_before-one}
use Rattle.ct_algebra.proofs.SymbolLawProofs.{respect_the_ring, shifts, derivations}
use Rattle.ct_algebra.proofs.OperatorLawProofs.{acts_on_polynomials}
use Rattle.ct_algebra.proofs.FieldLawProofs.{extends, fractions}

-- ---- products of polynomials

other_times :
    (other : Polynomial → Polynomial → Polynomial) →
    ((p q r : Polynomial) → other (plus p q) r ≡ plus (other p r) (other q r)) →
    ((p q r : Polynomial) → other p (plus q r) ≡ plus (other p q) (other p r)) →
    ((m n : Mono) (c d : ℤ) → other (term m c) (term n d) ≡ term (m · n) (c *ℤ d)) →
    (p q : Polynomial) → other p q ≡ times p q
unfolding plus times
other_times other left right terms p q =
    agree P (λ p. other p q) (λ p. times p q) (record { sums = λ x y. left x y q }) (record { sums = λ x y. add_mul polys x y q })
    (λ m c. agree P (λ q. other (term m c) q) (λ q. times (term m c) q)
    (record { sums = right (term m c) }) (record { sums = polys.mul_add (term m c) })
    (λ n d. terms m n c d ∙ sym (term-* m n c d)) q) p

-- ---- σ and δ

-- what holds at one name and at all others holds at each
each_name : (i : Name) (S : Name → Type 0) → S i → ((j : Name) → i ≢ j → S j) → (j : Name) → S j
each_name i S own others j = by (eqb (place i) (place j)) refl
  where
    by : (b : Bool) → eqb (place i) (place j) ≡ b → S j
    by true same = subst S (same_place i j (eqb-true (place i) (place j) same)) own
    by false differ = others j (λ same. let told : eqb (place i) (place j) ≡ true = eq-eqb (place i) (place j) (ap place same) in cc)

other_sigma :
    (a : Name → Action) (i : Name) (other : Polynomial → Polynomial) → a i ≡ Shift →
    ((p q : Polynomial) → other (plus p q) ≡ plus (other p) (other q)) →
    ((p q : Polynomial) → other (times p q) ≡ times (other p) (other q)) →
    ((c : ℤ) → other (number c) ≡ number c) →
    other (name i) ≡ plus (name i) (number (pos 1)) →
    ((j : Name) → i ≢ j → other (name j) ≡ name j) →
    (p : Polynomial) → other p ≡ sigma a i p
unfolding plus times
other_sigma a i other acts sums products numbers own others =
    same_ring_hom other (sigma a i) (record { sums = sums; products = products; numbers = numbers })
    (record {
      sums = respect_the_ring.sigma_of_sums a i;
      products = respect_the_ring.sigma_of_products a i;
      numbers = respect_the_ring.sigma_of_numbers a i;
    })
    (each_name i (λ j. other (name j) ≡ sigma a i (name j)) (own ∙ sym (shifts.itself a i acts))
    (λ j differ. others j differ ∙ sym (shifts.others a i j acts differ)))

other_delta :
    (a : Name → Action) (i : Name) (other : Polynomial → Polynomial) → a i ≡ Derive →
    ((p q : Polynomial) → other (plus p q) ≡ plus (other p) (other q)) →
    ((p q : Polynomial) → other (times p q) ≡ plus (times p (other q)) (times (other p) q)) →
    ((c : ℤ) → other (number c) ≡ polys.zero) →
    other (name i) ≡ polys.one →
    ((j : Name) → i ≢ j → other (name j) ≡ polys.zero) →
    (p : Polynomial) → other p ≡ delta a i p
unfolding plus times
other_delta a i other acts sums products numbers own others =
    same_derivation (λ p. p) other (delta a i) (record { sums = sums; products = products; numbers = numbers })
    (record {
      sums = respect_the_ring.delta_of_sums a i;
      products = λ p q.
          respect_the_ring.delta_of_products a i p q
          ∙ ap (λ s. plus (times s (delta a i q)) (times (delta a i p) q)) (derivations.no_sigma a i p acts);
      numbers = respect_the_ring.delta_of_numbers a i;
    })
    (each_name i (λ j. other (name j) ≡ delta a i (name j)) (own ∙ sym (derivations.itself a i acts))
    (λ j differ. others j differ ∙ sym (derivations.others a i j acts differ)))

-- ---- products of operators

other_product :
    (a : Name → Action) (other : Operator → Operator → Operator) →
    ((p q r : Operator) → other (sum_of_operators p q) r ≡ sum_of_operators (other p r) (other q r)) →
    ((p q r : Operator) → other (other p q) r ≡ other p (other q r)) →
    ((c : Polynomial) (p : Operator) → other (term_of unit c) p ≡ multiple a c p) →
    ((i : Name) (p : Operator) → other (term_of (symbol i) polys.one) p ≡ symbol_before a i p) →
    (p q : Operator) → other p q ≡ product_of a p q
other_product a other left assoc polynomials_before symbols_before p q =
    same_hom monomials polys.group operator_set operator_group (λ p. other p q) (λ p. product_of a p q)
    (record { sums = λ x y. ap (λ w. other w q) (sym (sums_are x y)) ∙ left x y q ∙ sums_are _ _ })
    (record { sums = λ x y. ap (λ w. product_of a w q) (sym (sums_are x y)) ∙ product_of-sum_left a x y q ∙ sums_are _ _ })
    (λ m c. subst (λ w. other w q ≡ product_of a w q) (term_of-single m c) (on_term m c)) p
  where
    -- a monomial stands for its symbols
    on_monomial : (m : Mono) → other (term_of m polys.one) q ≡ power (symbol_before a) m q
    on_monomial =
        by_symbols (λ m. other (term_of m polys.one) q ≡ power (symbol_before a) m q)
        (polynomials_before polys.one q ∙ multiple-one a q ∙ sym (power_unit (symbol_before a) q))
        (λ i m same.
        ap (λ w. other w q) (sym (symbols_before i (term_of m polys.one) ∙ symbol_before-one a i m))
        ∙ assoc _ _ q ∙ symbols_before i _ ∙ ap (symbol_before a i) same
        ∙ sym (power_symbol (symbol_before a) (symbols_commute a) i m q))

    on_term : (m : Mono) (c : Polynomial) → other (term_of m c) q ≡ product_of a (term_of m c) q
    on_term m c =
        ap (λ w. other w q) (sym (polynomials_before c (term_of m polys.one) ∙ multiple-one_term a m c))
        ∙ assoc _ _ q ∙ polynomials_before c _ ∙ ap (multiple a c) (on_monomial m)
        ∙ sym (product_of-term_of a m c q)

-- ---- what operators make of polynomials

IsOverAt : (Name → Action) → Mono → Type 0
IsOverAt a m = (i : Name) → a i ≡ Still → IsWithout i m

module _
    (a : Name → Action) (other : Operator → Polynomial → Polynomial)
    (sums : (p q : Operator) (f : Polynomial) → other (sum_of_operators p q) f ≡ plus (other p f) (other q f))
    (products : (p q : Operator) (f : Polynomial) → other (product_of a p q) f ≡ other p (other q f))
    (constants : (c f : Polynomial) → other (term_of unit c) f ≡ times c f)
    (shifted : (i : Name) (f : Polynomial) → a i ≡ Shift → other (term_of (symbol i) polys.one) f ≡ sigma a i f)
    (derived : (i : Name) (f : Polynomial) → a i ≡ Derive → other (term_of (symbol i) polys.one) f ≡ delta a i f) where
  Same : Operator → Type 0
  Same p = (f : Polynomial) → other p f ≡ made_of a p f

  same_product : (p q : Operator) → Same p → Same q → Same (product_of a p q)
  unfolding Same
  same_product p q first second f =
      products p q f ∙ ap (other p) (second f) ∙ first (made_of a q f) ∙ sym (acts_on_polynomials.products a p q f)

  same_polynomial : (c : Polynomial) → Same (term_of unit c)
  unfolding Same
  same_polynomial c f = constants c f ∙ sym (acts_on_polynomials.polynomials a c f)

  same_symbol : (i : Name) (t : Action) → t ≢ Still → a i ≡ t → Same (term_of (symbol i) polys.one)
  unfolding Same
  same_symbol i Shift acts is f = shifted i f is ∙ sym (acts_on_polynomials.shifts a i f is)
  same_symbol i Derive acts is f = derived i f is ∙ sym (acts_on_polynomials.derivations a i f is)
  same_symbol i Still acts is f = absurd (acts refl)

  same_monomial : (m : Mono) → IsOverAt a m → Same (term_of m polys.one)
  unfolding IsOverAt
  same_monomial =
      by_symbols (λ m. IsOverAt a m → Same (term_of m polys.one)) (λ over. same_polynomial polys.one)
      (λ i m same over. subst Same (product_of-symbol a i _ ∙ symbol_before-one a i m)
      (same_product _ _ (same_symbol i (a i) (λ still. has_symbol i m (over i still)) refl) (same (λ j still. rest i m j (over j still)))))
    where
      parts : (i : Name) (m : Mono) (j : Name) → exp (symbol i · m) (place j) ≡ cond (eqb (place j) (place i)) 1 0 + exp m (place j)
      parts i m j = exp-· (symbol i) m (place j) (place_small j) ∙ ap (λ n. n + exp m (place j)) (exp-symbol i (place j) (place_small j))

      has_symbol : (i : Name) (m : Mono) → IsWithout i (symbol i · m) → ⊥
      has_symbol i m none =
          let own : ◌≡◌ {A = ℕ} (cond (eqb (place i) (place i)) 1 0) 1 = ap (λ b. cond b 1 0) (eq-eqb (place i) (place i) refl) in
          omega (arith, none, parts i m i, own)

      rest : (i : Name) (m : Mono) (j : Name) → IsWithout j (symbol i · m) → IsWithout j m
      rest i m j none = omega (arith, none, parts i m j)

  other_made : (p : Operator) → IsOver a p → Same p
  unfolding Same plus IsOverAt
  other_made p over f =
      same_hom_at monomials polys.group operator_set P (λ p. other p f) (λ p. made_of a p f)
      (record { sums = λ p q. ap (λ w. other w f) (sym (sums_are p q)) ∙ sums p q f })
      (record { sums = λ p q. ap (λ w. made_of a w f) (sym (sums_are p q)) ∙ acts_on_polynomials.sums a p q f }) p
      (EachTerm-weaker (λ m c without.
      ap (λ w. other w f) (sym (split m c)) ∙ on_term m c without f ∙ ap (λ w. made_of a w f) (split m c)) p.terms over)
    where
      split : (m : Mono) (c : Polynomial) → product_of a (term_of unit c) (term_of m polys.one) ≡ single monomials polys.group m c
      split m c = product_of-split a m c ∙ term_of-single m c

      on_term : (m : Mono) (c : Polynomial) → IsOverAt a m → Same (product_of a (term_of unit c) (term_of m polys.one))
      on_term m c without = same_product _ _ (same_polynomial c) (same_monomial m without)

-- ---- maps of the field

module _ (a : Name → Action) (i : Name) where
  -- what nonzero denominators become cancels
  moved_den : (x : Ratio polys) → embedded (sigma a i x.den) ≢ field.zero
  moved_den x = embed_nonzero polys polys_domain (sigma a i x.den) (sigma_by-nonzero (a i) i x.den x.nonzero)

  own_den : (x : Ratio polys) → embedded x.den ≢ field.zero
  own_den x = embed_nonzero polys polys_domain x.den x.nonzero

  other_field_sigma :
      (other : K → K) → ((x y : K) → other (field.◌*◌ x y) ≡ field.◌*◌ (other x) (other y)) →
      ((p : Polynomial) → other (embedded p) ≡ embedded (sigma a i p)) →
      (x : K) → other x ≡ (coefficients a).σ i x
  other_field_sigma other products extended =
      by_values polys polys_domain (λ x. other x ≡ (coefficients a).σ i x) (λ x. fraction_set polys polys_domain _ _) (λ x.
      mul_cancel field (fractions_domain polys polys_domain) (embedded (sigma a i x.den)) _ _ (moved_den x)
      (field.mul_comm _ _ ∙ numerator other products extended x
      ∙ sym (field.mul_comm _ _ ∙ numerator ((coefficients a).σ i) ((coefficients a).σ_mul i) (λ p. sym (extends.sigmas a i p)) x)))
    where
      numerator :
          (φ : K → K) → ((x y : K) → φ (field.◌*◌ x y) ≡ field.◌*◌ (φ x) (φ y)) →
          ((p : Polynomial) → φ (embedded p) ≡ embedded (sigma a i p)) → (x : Ratio polys) →
          field.◌*◌ (φ (value_of x)) (embedded (sigma a i x.den)) ≡ embedded (sigma a i x.num)
      numerator φ products extended x =
          ap (field.◌*◌ (φ (value_of x))) (sym (extended x.den)) ∙ sym (products _ _)
          ∙ ap φ (fractions.quotient x) ∙ extended x.num

  other_field_delta :
      (other : K → K) →
      ((x y : K) → other (field.◌*◌ x y) ≡ field.◌+◌ (field.◌*◌ ((coefficients a).σ i x) (other y)) (field.◌*◌ (other x) y)) →
      ((p : Polynomial) → other (embedded p) ≡ embedded (delta a i p)) →
      (x : K) → other x ≡ (coefficients a).δ i x
  other_field_delta other products extended =
      by_values polys polys_domain (λ x. other x ≡ (coefficients a).δ i x) (λ x. fraction_set polys polys_domain _ _) (λ x.
      mul_cancel field (fractions_domain polys polys_domain) (embedded x.den) _ _ (own_den x)
      (field.mul_comm _ _ ∙ cancel field.group _ _ _
      (numerator other products extended x
      ∙ sym (numerator ((coefficients a).δ i) ((coefficients a).δ_mul i) (λ p. sym (extends.deltas a i p)) x))
      ∙ field.mul_comm _ _))
    where
      numerator :
          (φ : K → K) →
          ((x y : K) → φ (field.◌*◌ x y) ≡ field.◌+◌ (field.◌*◌ ((coefficients a).σ i x) (φ y)) (field.◌*◌ (φ x) y)) →
          ((p : Polynomial) → φ (embedded p) ≡ embedded (delta a i p)) → (x : Ratio polys) →
          field.◌+◌ (field.◌*◌ ((coefficients a).σ i (value_of x)) (embedded (delta a i x.den))) (field.◌*◌ (φ (value_of x)) (embedded x.den))
          ≡ embedded (delta a i x.num)
      numerator φ products extended x =
          ap (λ w. field.◌+◌ (field.◌*◌ ((coefficients a).σ i (value_of x)) w) (field.◌*◌ (φ (value_of x)) (embedded x.den))) (sym (extended x.den))
          ∙ sym (products _ _) ∙ ap φ (fractions.quotient x) ∙ extended x.num

pub determined : OperationsAreDetermined
determined = record {
  times_only = other_times;
  sigma_only = other_sigma;
  delta_only = other_delta;
  product_only = other_product;
  made_only = λ a other sums products constants shifted derived p over f.
      unfold Same in other_made a other sums products constants shifted derived p over f;
  field_sigma_only = other_field_sigma;
  field_delta_only = other_field_delta;
}
