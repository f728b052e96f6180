-- Polynomials without a name: products of such are such, and so are the factors of a nonzero one.
-- Main lemmas `free-times` and `free_factor`.
-- Where a name's exponents are at most d in p and at most e in q, the coefficient of its power d + e in a product without
-- the name is zero unless d + e is 0, and so one of both bounds can be lowered (`top-times` of TopCoefficients).
use Rattle.ct_telescoping.proofs.Base.{◌≡◌, ◌≢◌, ℕ, zero, suc, ◌+◌, ◌≤◌, true, List, [], ◌∷◌, ℤ, pos, ◌⊎◌, sym, ◌∙◌, ap, arith, subst, inl, inr}
use Rattle.ct_telescoping.proofs.Base.{mul_zero, zero_mul, EachTerm, EachTerm-weaker, EachTerm-single, at, at-none, same_hom_at, has_none, none_of}
use Rattle.ct_telescoping.proofs.Base.{Mono, exp, exp-unit, unit, monomials, int_group, Name, place, place_small, Polynomial, polys, polys_domain}
use Rattle.ct_telescoping.proofs.Base.{poly_set, P, term_is, one_is, number_is, IsFreeOf, outside, coefficient_in, coefficient_in_hom}
use Rattle.ct_telescoping.proofs.Base.{coefficient_in-product, coefficients_in_names, by_values}
use Rattle.std.specs.Prelude.{refl}
use Rattle.ct_telescoping.proofs.TopCoefficients.{power_at, coefficient_at, IsBounded, inside_is, coefficient-other, top-times}
use native.Mathlib.Decide.{ℕ_discrete}

module _ (j : Name) where
  -- ---- where a coefficient is zero no term has its power

  at-coefficient :
      (e : ℕ) (p : Polynomial) (m : Mono) → exp m (place j) ≡ e →
      at monomials int_group (coefficient_at j e p) (outside (j ∷ []) m) ≡ at monomials int_group p m
  at-coefficient e p m here =
      ap (λ k. at monomials int_group (coefficient_in (j ∷ []) k p) (outside (j ∷ []) m)) (sym (inside_is j m ∙ ap (power_at j) here))
      ∙ sym (coefficients_in_names.all (j ∷ []) m p)

  missing :
      (e : ℕ) (p : Polynomial) → coefficient_at j e p ≡ polys.zero → EachTerm (λ m c. exp m (place j) ≢ e) p.terms
  missing e p none =
      (by_values monomials int_group p (λ m c. exp m (place j) ≢ e)).1
      (λ m there here. there (sym (at-coefficient e p m here) ∙ ap
      (λ x. at monomials int_group x (outside (j ∷ []) m)) none ∙ at-none monomials int_group _))

  -- a bound that no term meets can be lowered
  lowered : (d : ℕ) (p : Polynomial) → IsBounded j (suc d) p → coefficient_at j (suc d) p ≡ polys.zero → IsBounded j d p
  lowered d p bound none = both p.terms bound (missing (suc d) p none)
    where
      both :
          (es : List (Mono × ℤ)) → EachTerm (λ m c. exp m (place j) ≤ suc d) es →
          EachTerm (λ m c. exp m (place j) ≢ suc d) es → EachTerm (λ m c. exp m (place j) ≤ d) es
      both [] low apart = tt
      both (t ∷ ts) low apart = (omega (arith, low.0, apart.0), both ts low.1 apart.1)

  -- ---- free polynomials

  free_bounded : (p : Polynomial) → IsFreeOf j p → IsBounded j 0 p
  free_bounded p free = EachTerm-weaker (λ m c none. omega (arith, none)) p.terms free

  bounded_free : (p : Polynomial) → IsBounded j 0 p → IsFreeOf j p
  bounded_free p bound = EachTerm-weaker (λ m c low. omega (arith, low)) p.terms bound

  -- the coefficient of a power that no term has
  absent :
      (e : ℕ) (p : Polynomial) → EachTerm (λ m c. exp m (place j) ≢ e) p.terms → coefficient_at j e p ≡ polys.zero
  absent e p none =
      same_hom_at monomials int_group poly_set P (coefficient_at j e) (λ x. polys.zero) (coefficient_in_hom (j ∷ []) (power_at j e))
      (record { sums = λ x y. sym (polys.add_zero polys.zero) }) p
      (EachTerm-weaker (λ m c other. subst (λ t. coefficient_at j e t ≡ polys.zero) (term_is m c) (coefficient-other j e m c other)) p.terms none)

  -- a polynomial with bound 0 that has coefficient zero at the power 0 is zero
  nothing_left : (p : Polynomial) → IsBounded j 0 p → coefficient_at j 0 p ≡ polys.zero → p ≡ polys.zero
  nothing_left p bound none = none_of monomials int_group p (empty p.terms bound (missing 0 p none))
    where
      empty :
          (es : List (Mono × ℤ)) → EachTerm (λ m c. exp m (place j) ≤ 0) es →
          EachTerm (λ m c. exp m (place j) ≢ 0) es → has_none monomials int_group es ≡ true
      empty [] low apart = refl
      empty (t ∷ ts) low apart = absurd (omega (arith, low.0, apart.0))

  pub free-times : (p q : Polynomial) → IsFreeOf j p → IsFreeOf j q → IsFreeOf j (polys.◌*◌ p q)
  free-times p q free also =
      (by_values monomials int_group (polys.◌*◌ p q) (λ m c. exp m (place j) ≡ 0)).1 (λ m there. by m there (ℕ_discrete (exp m (place j)) 0))
    where
      by : (m : Mono) → (at monomials int_group (polys.◌*◌ p q) m ≡ int_group.zero → ⊥) → Dec (exp m (place j) ≡ 0) →
          exp m (place j) ≡ 0
      by m there (yes none) = none
      by m there (no some) =
          absurd (there (sym (at-coefficient (exp m (place j)) (polys.◌*◌ p q) m refl)
          ∙ ap (λ x. at monomials int_group x (outside (j ∷ []) m))
          (coefficient_in-product (j ∷ []) (power_at j (exp m (place j))) p q (free, tt)
          ∙ ap (polys.◌*◌ p) (absent (exp m (place j)) q (EachTerm-weaker (λ n c none same. some (sym same ∙ none)) q.terms also))
          ∙ mul_zero polys p)
          ∙ at-none monomials int_group _))

  pub free_one : IsFreeOf j polys.one
  free_one =
      subst (IsFreeOf j) (sym (one_is ∙ number_is (pos 1) ∙ term_is unit (pos 1)))
      (EachTerm-single monomials int_group (λ m. exp m (place j) ≡ 0) unit (pos 1) (exp-unit (place j) (place_small j)))

  -- some bound
  abbrev bound_of : List (Mono × ℤ) → ℕ
  bound_of [] = 0
  bound_of (t ∷ ts) = exp t.0 (place j) + bound_of ts

  bounded : (es : List (Mono × ℤ)) → EachTerm (λ m c. exp m (place j) ≤ bound_of es) es
  bounded [] = tt
  bounded (t ∷ ts) = (omega arith, EachTerm-weaker (λ m c low. omega (arith, low)) ts (bounded ts))

  lowest :
      (n d e : ℕ) → d + e ≡ n → (p q : Polynomial) → IsBounded j d p → IsBounded j e q → polys.◌*◌ p q ≢ polys.zero →
      IsFreeOf j (polys.◌*◌ p q) → IsFreeOf j p × IsFreeOf j q
  lowest zero d e sum p q low small nonzero free = (
    bounded_free p (EachTerm-weaker (λ m c is. omega (arith, is, sum)) p.terms low),
    bounded_free q (EachTerm-weaker (λ m c is. omega (arith, is, sum)) q.terms small),
  )
  lowest (suc n) d e sum p q low small nonzero free =
      by (polys_domain.no_divisors (coefficient_at j d p) (coefficient_at j e q)
      (sym (top-times j d e p q low small)
      ∙ absent (d + e) (polys.◌*◌ p q) (EachTerm-weaker (λ m c none same. absurd (omega (arith, none, same, sum))) (polys.◌*◌ p q).terms free)))
      (lowest n)
    where
      first :
          (d : ℕ) → d + e ≡ suc n → IsBounded j d p → coefficient_at j d p ≡ polys.zero →
          ((d e : ℕ) → d + e ≡ n → (p q : Polynomial) → IsBounded j d p → IsBounded j e q → polys.◌*◌ p q ≢ polys.zero →
          IsFreeOf j (polys.◌*◌ p q) → IsFreeOf j p × IsFreeOf j q) → IsFreeOf j p × IsFreeOf j q
      first zero sum low none rest =
          absurd (nonzero (ap (λ x. polys.◌*◌ x q) (nothing_left p low none) ∙ zero_mul polys q))
      first (suc d) sum low none rest = rest d e (omega (arith, sum)) p q (lowered d p low none) small nonzero free

      second :
          (e : ℕ) → d + e ≡ suc n → IsBounded j e q → coefficient_at j e q ≡ polys.zero →
          ((d e : ℕ) → d + e ≡ n → (p q : Polynomial) → IsBounded j d p → IsBounded j e q → polys.◌*◌ p q ≢ polys.zero →
          IsFreeOf j (polys.◌*◌ p q) → IsFreeOf j p × IsFreeOf j q) → IsFreeOf j p × IsFreeOf j q
      second zero sum small none rest =
          absurd (nonzero (ap (polys.◌*◌ p) (nothing_left q small none) ∙ mul_zero polys p))
      second (suc e) sum small none rest = rest d e (omega (arith, sum)) p q low (lowered e q small none) nonzero free

      by : (coefficient_at j d p ≡ polys.zero) ⊎ (coefficient_at j e q ≡ polys.zero) →
          ((d e : ℕ) → d + e ≡ n → (p q : Polynomial) → IsBounded j d p → IsBounded j e q → polys.◌*◌ p q ≢ polys.zero →
          IsFreeOf j (polys.◌*◌ p q) → IsFreeOf j p × IsFreeOf j q) → IsFreeOf j p × IsFreeOf j q
      by (inl none) rest = first d sum low none rest
      by (inr none) rest = second e sum small none rest

  -- factors of a nonzero polynomial without the name are without it
  pub free_factor :
      (p q : Polynomial) → polys.◌*◌ p q ≢ polys.zero → IsFreeOf j (polys.◌*◌ p q) → IsFreeOf j p × IsFreeOf j q
  free_factor p q nonzero free =
      lowest (bound_of p.terms + bound_of q.terms) (bound_of p.terms) (bound_of q.terms) refl p q (bounded p.terms) (bounded q.terms) nonzero free
