-- The list of derived terms is that of the derivative: main lemma `derivative_is`, which `derivative_of_terms` cites.
-- A term without the name gives none. The others are one name lower, which keeps their order.
use Rattle.ct_poly.proofs.Base.{◌≡◌, refl, ℕ, zero, suc, ◌+◌, ◌-◌, ◌*◌, ◌≤◌, ◌<◌, ℤ, pos, negsuc, ◌*ℤ◌, nat_abs, unsigned_abs, Bool, true, false, eqb}
use Rattle.ct_poly.proofs.Base.{List, [], ◌∷◌, ◌++◌, length, sym, ◌∙◌, ap, ap₂, subst, arith, T, cond, eqb→eq, sum_by-cons, unsigned_abs-mul, derived}
use Rattle.ct_poly.proofs.Base.{derived-sum, derived-term, lower, exp-lower, plus_nat_is, power_at_is, zero_add, none_added, Mono, monomials}
use Rattle.ct_poly.proofs.Base.{mono_cmp, mono_ordered, exp, exp-·, ◌·◌, same_mono, name_with, symbol, exp-symbol, polys, term, AllBelow, is_less}
use Rattle.ct_poly.proofs.Base.{int_group, int_is_zero, with_exponent, exp-with_exponent}
use Rattle.ct_algebra.specs.Laws.Derivations.{none_at}
use Rattle.ct_poly.specs.declared.term.Term.{Term}
use Rattle.ct_poly.specs.Terms.{entries, size_of, derivative_size, IsFalling, IsListOf, poly_of_terms}
use Rattle.ct_poly.proofs.TermLists.{place-name_with, poly_of-cons, poly_of-none}
use Rattle.ct_poly.proofs.Termwise.{made_of}

-- what a term with the exponent e gives
abbrev pub lowered : ℕ → Term → ℕ → List Term
lowered i t zero = []
lowered i t (suc e) = record { mono = with_exponent i e t.mono; coef = t.coef *ℤ pos (suc e) } ∷ []

abbrev pub derivative : ℕ → Term → List Term
derivative i t = lowered i t (exp t.mono i)

pub derivative_of_name :
    (i : ℕ) (t u : Term) (e : ℕ) → 0 < e → e ≡ exp t.mono i → u.mono ≡ with_exponent i (e - 1) t.mono →
    u.coef ≡ t.coef *ℤ pos e → derivative i t ≡ u ∷ []
derivative_of_name i t u zero some is lower scaled = absurd (omega arith)
derivative_of_name i t u (suc e) some is lower scaled =
    let one_less : suc e - 1 ≡ e = omega arith in
    ap (lowered i t) (sym is) ∙ sym (λ k. record { mono = (lower ∙ ap (λ n. with_exponent i n t.mono) one_less) k; coef = scaled k } ∷ [])

module _ (i : ℕ) (known : i < 6) where
  is_lower : (m : Mono) (e : ℕ) → exp m i ≡ suc e → with_exponent i e m ≡ lower (name_with i) m
  is_lower m e raised =
      same_mono _ _ (λ k small. exp-with_exponent i e m k small ∙ by k (eqb k i) refl
      ∙ sym (exp-lower (name_with i) m k small
      ∙ ap (λ n. exp m k - n) (plus_nat_is (name_with i) k ∙ ap (λ j. cond (eqb k j) 1 0) (place-name_with i known))))
    where
      by : (k : ℕ) (b : Bool) → eqb k i ≡ b → cond b e (exp m k) ≡ exp m k - cond b 1 0
      by k true same = let here : exp m k ≡ suc e = ap (exp m) (eqb→eq _ _ (subst T (sym same) tt)) ∙ raised in omega arith
      by k false other = omega arith

  -- the name times the lower monomial is the monomial
  raised_again : (m : Mono) (e : ℕ) → exp m i ≡ suc e → with_exponent i e m · symbol (name_with i) ≡ m
  raised_again m e raised =
      same_mono _ _ (λ k small. exp-· _ _ k small
      ∙ ap₂ ◌+◌ (exp-with_exponent i e m k small) (exp-symbol (name_with i) k small ∙ ap (λ j. cond (eqb k j) 1 0) (place-name_with i known))
      ∙ by k (eqb k i) refl)
    where
      by : (k : ℕ) (b : Bool) → eqb k i ≡ b → cond b e (exp m k) + cond b 1 0 ≡ exp m k
      by k true same = let here : exp m k ≡ suc e = ap (exp m) (eqb→eq _ _ (subst T (sym same) tt)) ∙ raised in omega arith
      by k false other = omega arith

  order_kept : (m n : Mono) (d e : ℕ) → exp m i ≡ suc d → exp n i ≡ suc e → mono_cmp (with_exponent i d m) (with_exponent i e n) ≡ mono_cmp m n
  order_kept m n d e md ne =
      sym (mono_ordered.shifted (symbol (name_with i)) (with_exponent i d m) (with_exponent i e n))
      ∙ ap₂ mono_cmp (raised_again m d md) (raised_again n e ne)

  -- ---- the list falls

  below-derivatives : (m : Mono) (e : ℕ) → exp m i ≡ suc e → (ts : List Term) → AllBelow monomials int_group m (entries ts) →
      AllBelow monomials int_group (with_exponent i e m) (entries (made_of (derivative i) ts))
  below-derivatives m e raised [] below = tt
  below-derivatives m e raised (t ∷ ts) below = by (exp t.mono i) refl (below-derivatives m e raised ts below.1)
    where
      by : (d : ℕ) → exp t.mono i ≡ d → AllBelow monomials int_group (with_exponent i e m) (entries (made_of (derivative i) ts))
          → AllBelow monomials int_group (with_exponent i e m) (entries (lowered i t d ++ made_of (derivative i) ts))
      by zero is later = later
      by (suc d) is later = (subst (λ r. T (is_less r)) (sym (order_kept t.mono m d e is raised)) below.0, later)

  nonzero-product : (c : ℤ) (e : ℕ) → T (cond (int_is_zero c) false true) → T (cond (int_is_zero (c *ℤ pos (suc e))) false true)
  nonzero-product c e some = by (c *ℤ pos (suc e)) refl
    where
      positive : 0 < nat_abs c
      positive = by_cases c some
        where
          by_cases : (c : ℤ) → T (cond (int_is_zero c) false true) → 0 < nat_abs c
          by_cases (pos zero) some = absurd some
          by_cases (pos (suc n)) some = omega arith
          by_cases (negsuc n) some = omega arith

      by : (z : ℤ) → c *ℤ pos (suc e) ≡ z → T (cond (int_is_zero z) false true)
      by (pos zero) is = absurd (omega (arith, positive, sym (unsigned_abs-mul c (pos (suc e))) ∙ ap unsigned_abs is))
      by (pos (suc n)) is = tt
      by (negsuc n) is = tt

  falling-derivatives : (ts : List Term) → IsFalling ts → IsFalling (made_of (derivative i) ts)
  falling-derivatives [] falling = tt
  falling-derivatives (t ∷ ts) falling = by (exp t.mono i) refl (falling-derivatives ts falling.2)
    where
      by : (d : ℕ) → exp t.mono i ≡ d → IsFalling (made_of (derivative i) ts) → IsFalling (lowered i t d ++ made_of (derivative i) ts)
      by zero is later = later
      by (suc d) is later = (nonzero-product t.coef d falling.0, below-derivatives t.mono d is ts falling.1, later)

  -- ---- its measures and its value

  abbrev weight : Term → ℕ
  weight t = nat_abs t.coef * exp t.mono i

  size-derivatives : (ts : List Term) → size_of (made_of (derivative i) ts) ≡ derivative_size i ts
  size-derivatives [] = refl
  size-derivatives (t ∷ ts) = by (exp t.mono i) refl (size-derivatives ts)
    where
      by : (d : ℕ) → exp t.mono i ≡ d → size_of (made_of (derivative i) ts) ≡ derivative_size i ts
          → size_of (lowered i t d ++ made_of (derivative i) ts) ≡ derivative_size i (t ∷ ts)
      by zero is later = omega (arith, later, sum_by-cons weight t ts, ap (λ n. nat_abs t.coef * n) is)
      by (suc d) is later =
          omega (
            arith,
            later,
            sum_by-cons weight t ts,
            ap (λ n. nat_abs t.coef * n) is,
            unsigned_abs-mul t.coef (pos (suc d)),
            sum_by-cons (λ u. nat_abs u.coef) (record { mono = with_exponent i d t.mono; coef = t.coef *ℤ pos (suc d) })
                (made_of (derivative i) ts),
          )

  length-derivatives : (ts : List Term) → length (made_of (derivative i) ts) ≤ length ts
  length-derivatives [] = omega arith
  length-derivatives (t ∷ ts) = by (exp t.mono i) (length-derivatives ts)
    where
      by : (d : ℕ) → length (made_of (derivative i) ts) ≤ length ts → length (lowered i t d ++ made_of (derivative i) ts) ≤ suc (length ts)
      by zero later = omega arith
      by (suc d) later = omega arith

  value-derivatives : (ts : List Term) → poly_of_terms (made_of (derivative i) ts) ≡ derived (name_with i) (poly_of_terms ts)
  value-derivatives [] = poly_of-none ∙ sym (derived-none (derived-sum (name_with i) polys.zero polys.zero))
      ∙ ap (derived (name_with i)) (sym poly_of-none)
    where
      derived-none : derived (name_with i) (polys.◌+◌ polys.zero polys.zero) ≡ polys.◌+◌ (derived (name_with i) polys.zero)
          (derived (name_with i) polys.zero) → derived (name_with i) polys.zero ≡ polys.zero
      derived-none twice = none_added polys.group _ (ap (derived (name_with i)) (sym (polys.add_zero polys.zero)) ∙ twice)
  value-derivatives (t ∷ ts) =
      by (exp t.mono i) refl (value-derivatives ts)
      ∙ sym (ap (derived (name_with i)) (poly_of-cons t ts) ∙ derived-sum (name_with i) _ _)
    where
      by : (d : ℕ) → exp t.mono i ≡ d → poly_of_terms (made_of (derivative i) ts) ≡ derived (name_with i) (poly_of_terms ts)
          → poly_of_terms (lowered i t d ++ made_of (derivative i) ts) ≡ polys.◌+◌ (derived (name_with i) (term t.mono t.coef))
          (derived (name_with i) (poly_of_terms ts))
      by zero is later =
          later ∙ sym (ap (λ w. polys.◌+◌ w (derived (name_with i) (poly_of_terms ts)))
          (none_at (name_with i) t.mono t.coef (ap (exp t.mono) (place-name_with i known) ∙ is)) ∙ zero_add polys.group _)
      by (suc d) is later =
          poly_of-cons (record { mono = with_exponent i d t.mono; coef = t.coef *ℤ pos (suc d) }) (made_of (derivative i) ts)
          ∙ ap₂ polys.◌+◌ (ap₂ term (is_lower t.mono d is) (ap (λ n. t.coef *ℤ pos n) (sym is ∙ ap (exp t.mono) (sym (place-name_with i known)))
          ∙ ap (λ z. t.coef *ℤ z) (sym (power_at_is (name_with i) t.mono))) ∙ sym (derived-term (name_with i) t.mono t.coef)) later

  pub derivative_is :
      (ts v : List Term) → IsFalling ts → v ≡ made_of (derivative i) ts →
      IsListOf (derived (name_with i) (poly_of_terms ts)) (length ts) (derivative_size i ts) v
  derivative_is ts v falling made = subst (IsListOf (derived (name_with i) (poly_of_terms ts)) (length ts) (derivative_size i ts)) (sym made)
      (record {
        falling = falling-derivatives ts falling;
        value = value-derivatives ts;
        few = length-derivatives ts;
        small = omega (arith, size-derivatives ts);
      })
