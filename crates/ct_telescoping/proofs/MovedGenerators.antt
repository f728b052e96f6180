-- The first generator that divides a monomial, moved there: main lemmas `lead` (the monomial leads it) and `one_moved` (there
-- is one such operator). The lower terms follow the leading one (`canonical`).
use Rattle.ct_telescoping.proofs.Base.{◌≡◌, ℕ, ◌+◌, ◌<◌, List, ◌∷◌, get_or, ◌⊎◌, sym, ◌∙◌, ap, subst, arith, inl, inr, IsCanonical, Mono, exp, exp-·}
use Rattle.ct_telescoping.proofs.Base.{same_mono, monomials, ◌·◌, Name, Polynomial, polys, Action, Operator, no_operator, term_of, product_of}
use Rattle.ct_telescoping.proofs.Base.{OperatorLeads, LeadingDivides, shifted_leads}
use Rattle.ct_telescoping.specs.Tested.{FirstReducer}

module _ (a : Name → Action) (generators : List Operator) where
  abbrev pub moved_at : (m : Mono) (i : ℕ) → LeadingDivides (get_or generators i no_operator) m → Operator
  moved_at m i x = product_of a (term_of x.quotient polys.one) (get_or generators i no_operator)

  abbrev pub moved : (m : Mono) → FirstReducer generators m → Operator
  moved m r = moved_at m r.index r.divides

  pub lead : (m : Mono) (r : FirstReducer generators m) → (c : Polynomial) × OperatorLeads (moved m r) m c
  lead m r =
      let w = shifted_leads a r.divides.quotient (get_or generators r.index no_operator) r.divides.mono r.divides.coef r.divides.leads in
      (w.0, subst (λ k. OperatorLeads (moved m r) k w.0) r.divides.product w.1)

  one_quotient : (g : Operator) (m : Mono) (x y : LeadingDivides g m) → x.quotient ≡ y.quotient
  one_quotient g m x y =
      same_mono _ _ (λ k l. count k (exp-· x.quotient x.mono k l) (exp-· y.quotient y.mono k l))
    where
      first : {e f : Mono × Polynomial} {es fs : List (Mono × Polynomial)} → e ∷ es ≡ f ∷ fs → e.0 ≡ f.0
      first same = cc

      monos : x.mono ≡ y.mono
      monos = first (sym x.leads.is_first ∙ y.leads.is_first)

      count : (k : ℕ) → exp (x.quotient · x.mono) k ≡ exp x.quotient k + exp x.mono k →
          exp (y.quotient · y.mono) k ≡ exp y.quotient k + exp y.mono k → exp x.quotient k ≡ exp y.quotient k
      count k p q = omega (arith, p, q, ap (λ n. exp n k) (x.product ∙ sym y.product), ap (λ n. exp n k) monos)

  pub one_moved : (m : Mono) (r s : FirstReducer generators m) → moved m r ≡ moved m s
  one_moved m r s = at s.index index s.divides
    where
      ordered : (i j : ℕ) → (i < j) ⊎ ((i ≡ j) ⊎ (j < i))
      ordered i j = grind arith

      by : (r.index < s.index) ⊎ ((r.index ≡ s.index) ⊎ (s.index < r.index)) → r.index ≡ s.index
      by (inl less) = absurd (s.earlier r.index less r.divides)
      by (inr (inl same)) = same
      by (inr (inr more)) = absurd (r.earlier s.index more s.divides)

      index : r.index ≡ s.index
      index = by (ordered r.index s.index)

      at : (j : ℕ) → r.index ≡ j → (y : LeadingDivides (get_or generators j no_operator) m) → moved m r ≡ moved_at m j y
      at j e =
          subst (λ j. (y : LeadingDivides (get_or generators j no_operator) m) → moved m r ≡ moved_at m j y) e
          (λ y. ap (λ t. product_of a (term_of t polys.one) (get_or generators r.index no_operator))
          (one_quotient (get_or generators r.index no_operator) m r.divides y))

  pub canonical : (m : Mono) (r : FirstReducer generators m) → IsCanonical monomials polys.group ((m, (lead m r).0) ∷ (lead m r).1.rest)
  canonical m r = subst (IsCanonical monomials polys.group) (lead m r).1.is_first (moved m r).canonical
