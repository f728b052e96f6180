-- The terms that a product makes are the product: main lemmas `product_terms-value`, and `product-value` of two operators.
-- Name after name, symbols go before a list; a polynomial before it is a multiple. An operator is known from its single terms.
use Rattle.ct_ore.proofs.Base.{◌≡◌, refl, ℕ, zero, suc, ◌≤◌, subst, arith, ℤ, ◌*ℤ◌, List, [], ◌∷◌, sym, ◌∙◌, ap, ap₂, Group, IsHom, hom_zero}
use Rattle.ct_ore.proofs.Base.{sum_over, IsAdditive, lift, lift-⊕, lift-single, same_hom, Mono, monomials, exp, ◌·◌, int_group, Name, name_with}
use Rattle.ct_ore.proofs.Base.{place, power, times_over, Polynomial, poly_set, times_is, P, term, term_is, term-sum, term-*, Action, Operator}
use Rattle.ct_ore.proofs.Base.{operator_group, operator_set, term_of, symbol_before, multiple, product_of, product_of-sum_left, sums_are}
use Rattle.ct_ore.proofs.Base.{term_of-single, operator_module, multiple-term_of, symbols_commute, product_of-term_of, place-name_with}
use Rattle.ct_ore.specs.declared.coefficient_term.CoefficientTerm.{CoefficientTerm}
use Rattle.ct_ore.specs.CoefficientTerms.{sum_of_parts, coefficient_terms}
use Rattle.ct_ore.specs.PairTerms.{raised, expanded_below, expanded, multiplied, multiplied_by, product_terms}
use Rattle.ct_ore.specs.AllNames.{number_of_names}
use Rattle.ct_ore.proofs.ChangedExponents.{power_below, power-is}
use Rattle.ct_ore.proofs.CoefficientSums.{sum_of_parts-append, sum_of_coefficients}
use Rattle.ct_ore.proofs.PairExpansion.{raised-value}
use Rattle.ct_ore.proofs.PartSums.{value_of, sum_of_parts-none, sum_of_parts-cons}

abbrev G : Group Operator
G = operator_group

module _ (a : Name → Action) where
  -- ---- symbols

  expanded_below-value :
      (n : ℕ) → n ≤ number_of_names → (m : Mono) (ts : List CoefficientTerm) →
      sum_of_parts (expanded_below a n m ts) ≡ power_below (symbol_before a) (symbols_commute a) n m (sum_of_parts ts)
  expanded_below-value zero small m ts = refl
  expanded_below-value (suc n) small m ts =
      let here : place (name_with n) ≡ n = place-name_with n (omega arith) in
      expanded_below-value n (omega arith) m (raised (a (name_with n)) n (exp m n) ts)
      ∙ ap (power_below (symbol_before a) (symbols_commute a) n m)
      (subst (λ k. sum_of_parts (raised (a (name_with n)) k (exp m n) ts) ≡ times_over (exp m n) (symbol_before a (name_with n)) (sum_of_parts ts))
      here
      (raised-value a (name_with n) (exp m n) ts))

  pub expanded-value :
      (m : Mono) (ts : List CoefficientTerm) → sum_of_parts (expanded a m ts) ≡ power (symbol_before a) m (sum_of_parts ts)
  unfolding expanded
  expanded-value m ts =
      expanded_below-value number_of_names (omega arith) m ts ∙ sym (power-is (symbol_before a) (symbols_commute a) m (sum_of_parts ts))

  -- ---- polynomials

  multiple_hom : (c : Polynomial) → IsHom G G (multiple a c)
  unfolding multiple
  multiple_hom c = record { sums = (operator_module a).scale_sum c }

  multiples_hom : (q : Operator) → IsHom P G (λ c. multiple a c q)
  unfolding multiple
  multiples_hom q = record { sums = λ b c. (operator_module a).scale_value b c q }

  multiplied-term :
      (n : Mono) (x : ℤ) (t : CoefficientTerm) →
      value_of (record { symbols = t.symbols; names = n · t.names; number = x *ℤ t.number }) ≡ multiple a (term n x) (value_of t)
  multiplied-term n x t =
      sym (multiple-term_of a (term n x) t.symbols (term t.names t.number)
      ∙ ap (term_of t.symbols) (times_is _ _ ∙ term-* n t.names x t.number))

  multiplied-value :
      (n : Mono) (x : ℤ) (ts : List CoefficientTerm) → sum_of_parts (multiplied n x ts) ≡ multiple a (term n x) (sum_of_parts ts)
  multiplied-value n x [] =
      sum_of_parts-none
      ∙ sym (ap (multiple a (term n x)) sum_of_parts-none ∙ hom_zero {G = G} {H = G} {φ = multiple a (term n x)} (multiple_hom (term n x)))
  multiplied-value n x (t ∷ ts) =
      sum_of_parts-cons _ (multiplied n x ts) ∙ ap₂ G.◌+◌ (multiplied-term n x t) (multiplied-value n x ts)
      ∙ sym (ap (multiple a (term n x)) (sum_of_parts-cons t ts) ∙ (multiple_hom (term n x)).sums _ _)

  pub sum_over-multiplied :
      (us : List (Mono × ℤ)) (ts : List CoefficientTerm) →
      sum_of_parts (multiplied_by us ts) ≡ sum_over G (λ n x. multiple a (term n x) (sum_of_parts ts)) us
  sum_over-multiplied [] ts = sum_of_parts-none
  sum_over-multiplied (u ∷ us) ts =
      sum_of_parts-append (multiplied u.0 u.1 ts) (multiplied_by us ts) ∙ sums_are _ _
      ∙ ap₂ G.◌+◌ (multiplied-value u.0 u.1 ts) (sum_over-multiplied us ts)

  number_additive : (q : Operator) → IsAdditive int_group G (λ n x. multiple a (term n x) q)
  number_additive q = record { sums = λ n x y. ap (λ c. multiple a c q) (term-sum n x y) ∙ (multiples_hom q).sums _ _ }

  sum_over-multiple : (c : Polynomial) (q : Operator) → sum_over G (λ n x. multiple a (term n x) q) c.terms ≡ multiple a c q
  unfolding lift
  sum_over-multiple c q =
      same_hom monomials int_group poly_set G (lift monomials int_group G (λ n x. multiple a (term n x) q)) (λ c. multiple a c q)
      (record { sums = lift-⊕ monomials int_group G _ (number_additive q) }) (multiples_hom q)
      (λ n x. lift-single monomials int_group G _ (number_additive q) n x ∙ ap (λ c. multiple a c q) (term_is n x)) c

  pub multiplied_by-value :
      (c : Polynomial) (ts : List CoefficientTerm) → sum_of_parts (multiplied_by c.terms ts) ≡ multiple a c (sum_of_parts ts)
  multiplied_by-value c ts = sum_over-multiplied c.terms ts ∙ sum_over-multiple c (sum_of_parts ts)

  -- ---- operators

  abbrev term_before : Operator → Mono → Polynomial → Operator
  term_before q m c = multiple a c (power (symbol_before a) m q)

  sum_over-product :
      (es : List (Mono × Polynomial)) (ts : List CoefficientTerm) →
      sum_of_parts (product_terms a es ts) ≡ sum_over G (term_before (sum_of_parts ts)) es
  sum_over-product [] ts = sum_of_parts-none
  sum_over-product (e ∷ es) ts =
      sum_of_parts-append (multiplied_by e.1.terms (expanded a e.0 ts)) (product_terms a es ts) ∙ sums_are _ _
      ∙ ap₂ G.◌+◌ (multiplied_by-value e.1 (expanded a e.0 ts) ∙ ap (multiple a e.1) (expanded-value e.0 ts)) (sum_over-product es ts)

  term_additive : (q : Operator) → IsAdditive P G (term_before q)
  term_additive q = record { sums = λ m b c. (multiples_hom (power (symbol_before a) m q)).sums b c }

  products_hom : (q : Operator) → IsHom G G (λ p. product_of a p q)
  products_hom q = record { sums = λ p r. ap (λ w. product_of a w q) (sym (sums_are p r)) ∙ product_of-sum_left a p r q ∙ sums_are _ _ }

  sum_over-products : (p q : Operator) → sum_over G (term_before q) p.terms ≡ product_of a p q
  unfolding lift
  sum_over-products p q =
      same_hom monomials P operator_set G (lift monomials P G (term_before q)) (λ p. product_of a p q)
      (record { sums = lift-⊕ monomials P G _ (term_additive q) }) (products_hom q)
      (λ m c. lift-single monomials P G _ (term_additive q) m c ∙ sym (product_of-term_of a m c q)
      ∙ ap (λ w. product_of a w q) (term_of-single m c)) p

  pub product_terms-value :
      (p : Operator) (ts : List CoefficientTerm) → sum_of_parts (product_terms a p.terms ts) ≡ product_of a p (sum_of_parts ts)
  product_terms-value p ts = sum_over-product p.terms ts ∙ sum_over-products p (sum_of_parts ts)

  pub product-value : (p q : Operator) → sum_of_parts (product_terms a p.terms (coefficient_terms q)) ≡ product_of a p q
  product-value p q = product_terms-value p (coefficient_terms q) ∙ ap (product_of a p) (sum_of_coefficients q)
