-- The power e of a name plus a positive number has at most e + 1 terms, all of them powers of the name up to e.
-- Main lemmas `power_few` and `power_low`, which shifts cite; `first_is_power` and `next_is_power` are the rows of a table.
-- The terms of the next power are the name times those of this one, and the number times them.
use Rattle.ct_poly.proofs.Base.{◌≡◌, refl, ℕ, zero, suc, ◌+◌, ◌≤◌, ◌<◌, ℤ, pos, List, [], ◌∷◌, length, sym, ◌∙◌, ap, ap₂, subst, arith, Ordering}
use Rattle.ct_poly.proofs.Base.{Less, Equal, Mono, monomials, mono_cmp, mono_same, exp-unit, unit, ◌·◌, ·_comm, ·-unit, total, total-·, total_of_less}
use Rattle.ct_poly.proofs.Base.{name_with, symbol, Polynomial, polys, count, plus, plus_is, times, times_is, add_mul, EachTerm-⊕, EachTerm-single}
use Rattle.ct_poly.proofs.Base.{term, term_is, name_is, number_is, one_is, EachTerm, IsCanonical, AllBelow, less_is, int_group, row_of, one_exponent}
use Rattle.ct_poly.proofs.Base.{total-unit, total-with_exponent}
use Rattle.ct_poly.specs.declared.term.Term.{Term}
use Rattle.ct_poly.specs.Terms.{entries, greatest_total}
use Rattle.ct_poly.specs.Powers.{binomial, power_of, IsPower}
use Rattle.ct_poly.proofs.TermLists.{terms_of, length-entries, terms-multiple, positive_coef}

-- ---- powers of a name

abbrev raised : ℕ → ℕ → Mono
raised i zero = unit
raised i (suc k) = symbol (name_with i) · raised i k

-- a power of the name that is at most the power e
pub record IsRaised (i e : ℕ) (m : Mono) : Type 0 where
  pub exponent : ℕ
  pub within : exponent ≤ e
  pub is : m ≡ raised i exponent

module _ (i : ℕ) (known : i < 6) where
  pub total-symbol : total (symbol (name_with i)) ≡ 1
  total-symbol = ap total (sym (one_exponent i known)) ∙ omega (arith, total-with_exponent i 1 unit known, total-unit, exp-unit i known)

  total-raised : (k : ℕ) → total (raised i k) ≡ k
  total-raised zero = total-unit
  total-raised (suc k) = total-· (symbol (name_with i)) (raised i k) ∙ omega (arith, total-symbol, total-raised k)

  -- falling powers of the name are no more than the first exponent and one
  few_raised :
      (e : ℕ) (m : Mono) (c : ℤ) (es : List (Mono × ℤ)) → (r : IsRaised i e m) → EachTerm (λ k d. IsRaised i e k) es →
      AllBelow monomials int_group m es → IsCanonical monomials int_group es → length es ≤ r.exponent
  few_raised e m c [] r each below falling = omega arith
  few_raised e m c (f ∷ es) r each below falling =
      omega (arith, few_raised e f.0 f.1 es each.0 each.1 falling.1 falling.2, lower)
    where
      less : mono_cmp f.0 m ≡ Less
      less = less_is monomials int_group _ below.0

      not_same : each.0.exponent ≡ r.exponent → ⊥
      not_same same =
          let tied : mono_cmp f.0 m ≡ Equal = ap₂ mono_cmp (each.0.is ∙ ap (raised i) same) r.is ∙ mono_same (raised i r.exponent) in
          let clash : ◌≡◌ {A = Ordering} Less Equal = sym less ∙ tied in
          cc

      lower : each.0.exponent < r.exponent
      lower =
          omega (
            arith,
            not_same,
            total_of_less f.0 m less,
            ap total each.0.is ∙ total-raised each.0.exponent,
            ap total r.is
                ∙ total-raised r.exponent,
          )

  each_few : (e : ℕ) (es : List (Mono × ℤ)) → EachTerm (λ m c. IsRaised i e m) es → IsCanonical monomials int_group es → length es ≤ e + 1
  each_few e [] each falling = omega arith
  each_few e (f ∷ es) each falling = omega (arith, few_raised e f.0 f.1 es each.0 each.1 falling.1 falling.2, each.0.within)

  each_low : (e : ℕ) (ts : List Term) → EachTerm (λ m c. IsRaised i e m) (entries ts) → greatest_total ts ≤ e
  each_low e [] each = omega arith
  each_low e (t ∷ ts) each = omega (arith, each_low e ts each.1, each.0.within, ap total each.0.is ∙ total-raised each.0.exponent)

  -- ---- the terms of the powers

  more_raised : (e : ℕ) (es : List (Mono × ℤ)) → EachTerm (λ m c. IsRaised i e m) es →
      EachTerm (λ m c. IsRaised i (suc e) m) (row_of (symbol (name_with i), pos 1) es)
  more_raised e [] each = tt
  more_raised e (f ∷ es) each = (
    record { exponent = suc each.0.exponent; within = omega (arith, each.0.within); is = ap (λ m. symbol (name_with i) · m) each.0.is },
    more_raised e es each.1,
  )

  still_raised : (e : ℕ) (c : ℤ) (es : List (Mono × ℤ)) → EachTerm (λ m c. IsRaised i e m) es →
      EachTerm (λ m c. IsRaised i (suc e) m) (row_of (unit, c) es)
  still_raised e c [] each = tt
  still_raised e c (f ∷ es) each = (
    record { exponent = each.0.exponent; within = omega (arith, each.0.within); is = ·_comm unit f.0 ∙ ·-unit f.0 ∙ each.0.is },
    still_raised e c es each.1,
  )

  module _ (a : ℕ) (positive : 0 < a) where
    power_parts : (q : Polynomial) → times (binomial i a) q ≡ plus (times (term (symbol (name_with i)) (pos 1)) q) (times (term unit (pos a)) q)
    power_parts q =
        times_is _ _ ∙ ap (λ w. polys.◌*◌ w q) (plus_is _ _ ∙ ap₂ polys.◌+◌ (name_is (name_with i)) (number_is (pos a)))
        ∙ add_mul polys _ _ q ∙ sym (plus_is _ _ ∙ ap₂ polys.◌+◌ (times_is _ _) (times_is _ _))

    next_raised : (e : ℕ) → EachTerm (λ m c. IsRaised i e m) (power_of i a e).terms →
        EachTerm (λ m c. IsRaised i (suc e) m) (power_of i a (suc e)).terms
    unfolding plus
    next_raised e each =
        subst (λ p. EachTerm (λ m c. IsRaised i (suc e) m) p.terms) (sym (power_parts (power_of i a e)))
        (EachTerm-⊕ monomials int_group (IsRaised i (suc e)) _ _
        (subst (EachTerm (λ m c. IsRaised i (suc e) m)) (sym (terms-multiple (symbol (name_with i)) (pos 1) (power_of i a e) tt))
        (more_raised e _ each))
        (subst (EachTerm (λ m c. IsRaised i (suc e) m)) (sym (terms-multiple unit (pos a) (power_of i a e) (positive_coef a positive)))
        (still_raised e (pos a) _ each)))

    each_raised : (e : ℕ) → EachTerm (λ m c. IsRaised i e m) (power_of i a e).terms
    each_raised zero =
        subst (λ p. EachTerm (λ m c. IsRaised i 0 m) p.terms) (sym (one_is ∙ number_is (pos 1) ∙ term_is unit (pos 1)))
        (EachTerm-single monomials int_group (IsRaised i 0) unit (pos 1) (record { exponent = 0; within = omega arith; is = refl }))
    each_raised (suc e) = next_raised e (each_raised e)

    pub count_power : (e : ℕ) → count (power_of i a e) ≤ e + 1
    unfolding count
    count_power e = each_few e (power_of i a e).terms (each_raised e) (power_of i a e).canonical

    module _ (e : ℕ) (row : List Term) (power : IsPower i a e row) where
      row_raised : EachTerm (λ m c. IsRaised i e m) (entries row)
      row_raised = subst (EachTerm (λ m c. IsRaised i e m)) (sym (terms_of row power.falling power.value)) (each_raised e)

      pub power_few : length row ≤ e + 1
      power_few = omega (arith, each_few e (entries row) row_raised power.falling, length-entries row)

      pub power_low : greatest_total row ≤ e
      power_low = each_low e row row_raised
