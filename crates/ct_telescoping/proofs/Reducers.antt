-- Whether a leading monomial divides: main lemma `reducer_or_none`, by which a monomial has a first generator whose leading
-- monomial divides it, or is irreducible.
use Rattle.ct_telescoping.proofs.Base.{◌≡◌, ℕ, zero, suc, ◌+◌, ◌-◌, ◌<◌, ◌≤◌, List, [], ◌∷◌, get_or, ◌⊎◌, sym, ◌∙◌, ap, subst, arith, inl, inr}
use Rattle.ct_telescoping.proofs.Base.{eq-or-lt_of_le, All-cons, Mono, exp, mono, exp-mono, exp-·, same_mono, ◌·◌, Polynomial, Operator, no_operator}
use Rattle.ct_telescoping.proofs.Base.{LeadingDivides, IsIrreducible}
use Rattle.std.specs.Prelude.{refl}
use Rattle.ct_telescoping.specs.Tested.{FirstReducer}

-- the first exponents fit, or one does not
fits :
    (n m : Mono) (j : ℕ) →
    ((k : ℕ) → k < j → exp n k ≤ exp m k) ⊎ ((k : ℕ) × (k < j) × (exp m k < exp n k))
fits n m zero = inl (λ k below. absurd (omega (arith, below)))
fits n m (suc j) = by (fits n m j) (ordered (exp n j) (exp m j))
  where
    ordered : (x y : ℕ) → (x ≤ y) ⊎ (y < x)
    ordered x y = grind arith

    by : ((k : ℕ) → k < j → exp n k ≤ exp m k) ⊎ ((k : ℕ) × (k < j) × (exp m k < exp n k)) →
        (exp n j ≤ exp m j) ⊎ (exp m j < exp n j) →
        ((k : ℕ) → k < suc j → exp n k ≤ exp m k) ⊎ ((k : ℕ) × (k < suc j) × (exp m k < exp n k))
    by (inr far) last = inr (far.0, omega (arith, far.1), far.2)
    by (inl each) (inr more) = inr (j, omega arith, more)
    by (inl each) (inl less) = inl (λ k below. at k (eq-or-lt_of_le (omega (arith, below))))
      where
        at : (k : ℕ) → (k ≡ j) ⊎ (k < j) → exp n k ≤ exp m k
        at k (inl same) = subst (λ i. exp n i ≤ exp m i) (sym same) less
        at k (inr early) = each k early

pub record IsQuotient (n m : Mono) : Type 0 where
  pub quotient : Mono
  pub product : quotient · n ≡ m

quotient_or_none : (n m : Mono) → IsQuotient n m ⊎ (¬ IsQuotient n m)
quotient_or_none n m = by (fits n m 6)
  where
    by : ((k : ℕ) → k < 6 → exp n k ≤ exp m k) ⊎ ((k : ℕ) × (k < 6) × (exp m k < exp n k)) → IsQuotient n m ⊎ (¬ IsQuotient n m)
    by (inl each) = inl (record {
      quotient = mono (λ k. exp m k - exp n k);
      product = same_mono _ _ (λ k below.
          exp-· (mono (λ k. exp m k - exp n k)) n k below ∙ ap (λ e. e + exp n k) (exp-mono (λ k. exp m k - exp n k) k below)
          ∙ back k (each k below));
    })
      where
        back : (k : ℕ) → exp n k ≤ exp m k → (exp m k - exp n k) + exp n k ≡ exp m k
        back k less = omega (arith, less)
    by (inr far) = inr (λ q.
        let sum : exp m far.0 ≡ exp q.quotient far.0 + exp n far.0 = ap (λ x. exp x far.0) (sym q.product) ∙ exp-· q.quotient n far.0 far.1 in
        absurd (omega (arith, far.2)))

divides_or_not : (g : Operator) (m : Mono) → LeadingDivides g m ⊎ (¬ LeadingDivides g m)
divides_or_not g m = by g.terms refl
  where
    by : (es : List (Mono × Polynomial)) → g.terms ≡ es → LeadingDivides g m ⊎ (¬ LeadingDivides g m)
    by [] is = inr (λ divides. none (sym is ∙ divides.leads.is_first))
      where
        none : {e : Mono × Polynomial} {es : List (Mono × Polynomial)} → [] ≡ e ∷ es → ⊥
        none f = cc
    by (e ∷ es) is = decide (quotient_or_none e.0 m)
      where
        same_lead : {d : Mono × Polynomial} {ds : List (Mono × Polynomial)} → e ∷ es ≡ d ∷ ds → e.0 ≡ d.0
        same_lead f = cc

        decide : IsQuotient e.0 m ⊎ (¬ IsQuotient e.0 m) → LeadingDivides g m ⊎ (¬ LeadingDivides g m)
        decide (inl q) = inl (record {
          mono = e.0;
          coef = e.1;
          leads = record { rest = es; is_first = is };
          quotient = q.quotient;
          product = q.product;
        })
        decide (inr not) = inr (λ divides. not (record {
          quotient = divides.quotient;
          product = ap (λ n. divides.quotient · n) (same_lead (sym is ∙ divides.leads.is_first)) ∙ divides.product;
        }))

pub reducer_or_none : (gs : List Operator) (m : Mono) → FirstReducer gs m ⊎ IsIrreducible gs m
reducer_or_none [] m = inr (λ k d below. absurd (omega (arith, below)))
reducer_or_none (g ∷ gs) m = by (divides_or_not g m) (reducer_or_none gs m)
  where
    by : LeadingDivides g m ⊎ (¬ LeadingDivides g m) → FirstReducer gs m ⊎ IsIrreducible gs m →
        FirstReducer (g ∷ gs) m ⊎ IsIrreducible (g ∷ gs) m
    by (inl here) rest = inl (record { index = 0; in_range = omega arith; divides = here; earlier = λ i before. absurd (omega (arith, before)) })
    by (inr not) (inl later) = inl (record {
      index = suc later.index;
      in_range = omega (arith, later.in_range);
      divides = later.divides;
      earlier = before;
    })
      where
        before : (i : ℕ) → i < suc later.index → ¬ LeadingDivides (get_or (g ∷ gs) i no_operator) m
        before zero less = not
        before (suc i) less = later.earlier i (omega (arith, less))
    by (inr not) (inr none) = inr (All-cons (λ h. ¬ LeadingDivides h m) g gs not none)
