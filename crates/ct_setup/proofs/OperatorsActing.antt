-- Arithmetic on operators brings in no symbol: main lemmas `over_sum`, `over_negative`, `over_product` and `over_over_whole`. A term of a
-- product is one of the first operator with what its symbols make of the second.
use Rattle.ct_setup.proofs.Base.{◌≡◌, ap, sym, ◌∙◌, subst, ℕ, List, [], ◌∷◌, map, Name, Action, Mono, monomials, unit, Polynomial, polys}
use Rattle.ct_setup.proofs.Base.{Operator, multiple, negative, no_operator, polynomial_at, product_of, term_of, EachTerm, IsOver}
unfoldable use Rattle.ct_algebra.specs.Operators.{sum_of_operators}
unfoldable use Rattle.ct_algebra.specs.Polynomial.{times}
use Rattle.ct_algebra.proofs.AppliedOperators.{multiple-one}
use Rattle.ct_algebra.proofs.OperatorLawProofs.{finite_maps, sums_of_terms}
use Rattle.ct_algebra.proofs.OperatorTerms.{term_of-single, term_of-zero}
use Rattle.ct_algebra.proofs.ProductRule.{product_of-term_of}
use Rattle.ct_algebra.proofs.TermLawProofs.{freedom_is_of_coefficients}
use Rattle.ct_algebra.specs.Group.{neg_zero}
use Rattle.ct_algebra.specs.Monomial.{exp-unit}
use Rattle.ct_algebra.specs.Names.{place, place_small}
use Rattle.ct_algebra.specs.Operators.{operator_of, product_of-sum_left}
use Rattle.ct_algebra.specs.Ring.{mul_zero}
use Rattle.ct_algebra.specs.Sums.{EachTerm-single, EachTerm-⊕}
unfoldable use Rattle.ct_algebra.specs.Sums.{none}
use Rattle.ct_ore.specs.Wholes.{entry_over}
unfoldable use Rattle.ct_ore.specs.Wholes.{over_whole}
use Rattle.ct_telescoping.proofs.MovedOver.{moved_over}
use Rattle.ct_telescoping.specs.Staircase.{HasOperators}

module _ (a : Name → Action) where
  pub one_acts : HasOperators a unit
  one_acts j still = exp-unit (place j) (place_small j)

  pub over_none : IsOver a no_operator
  unfolding no_operator none
  over_none = tt

  pub over_sum : (p q : Operator) → IsOver a p → IsOver a q → IsOver a (sum_of_operators p q)
  unfolding sum_of_operators
  over_sum p q first second = EachTerm-⊕ monomials polys.group (HasOperators a) p q first second

  pub over_term_of : (m : Mono) (c : Polynomial) → HasOperators a m → IsOver a (term_of m c)
  over_term_of m c has = subst (IsOver a) (sym (term_of-single m c)) (EachTerm-single monomials polys.group (HasOperators a) m c has)

  -- with no coefficient but where the other operator has one
  over_within : (p q : Operator) → ((m : Mono) → polynomial_at p m ≡ polys.zero → polynomial_at q m ≡ polys.zero) → IsOver a p → IsOver a q
  over_within p q zeros over =
      (freedom_is_of_coefficients.over_actions a q).1 (λ m there.
      (freedom_is_of_coefficients.over_actions a p).0 over m (λ none. there (zeros m none)))

  pub over_negative : (p : Operator) → IsOver a p → IsOver a (negative p)
  over_negative p = over_within p (negative p) (λ m none. finite_maps.of_a_negative p m ∙ ap polys.neg none ∙ neg_zero polys.group)

  over_multiple : (c : Polynomial) (p : Operator) → IsOver a p → IsOver a (multiple a c p)
  unfolding times
  over_multiple c p = over_within p (multiple a c p) (λ m none. finite_maps.of_a_multiple a c p m ∙ ap (times c) none ∙ mul_zero polys c)

  over_term_product : (m : Mono) (c : Polynomial) (q : Operator) → HasOperators a m → IsOver a q → IsOver a (product_of a (term_of m c) q)
  over_term_product m c q has over =
      let moved = subst (IsOver a) (product_of-term_of a m polys.one q ∙ multiple-one a _) (moved_over a m q has over) in
      subst (IsOver a) (sym (product_of-term_of a m c q)) (over_multiple c _ moved)

  pub over_product : (p q : Operator) → IsOver a p → IsOver a q → IsOver a (product_of a p q)
  over_product p q first second = subst (λ p. IsOver a (product_of a p q)) (sums_of_terms.of_its_own p) (go p.terms first)
    where
      go : (es : List (Mono × Polynomial)) → EachTerm (λ m c. HasOperators a m) es → IsOver a (product_of a (operator_of es) q)
      go [] has =
          subst (λ p. IsOver a (product_of a p q)) (term_of-zero unit ∙ sym sums_of_terms.of_none)
          (over_term_product unit polys.zero q one_acts second)
      go (e ∷ es) has =
          subst (IsOver a)
          (sym (ap (λ p. product_of a p q) (sums_of_terms.of_more e es) ∙ product_of-sum_left a (term_of e.0 e.1) (operator_of es) q))
          (over_sum _ _ (over_term_product e.0 e.1 q has.0 second) (go es has.1))

  pub over_over_whole : (d : ℕ) (p : Operator) → IsOver a p → IsOver a (over_whole d p)
  unfolding over_whole
  over_over_whole d p over = go p.terms over
    where
      go : (es : List (Mono × Polynomial)) → EachTerm (λ m c. HasOperators a m) es → IsOver a (operator_of (map (entry_over d) es))
      go [] has = subst (IsOver a) (sym sums_of_terms.of_none) over_none
      go (e ∷ es) has =
          subst (IsOver a) (sym (sums_of_terms.of_more (entry_over d e) (map (entry_over d) es)))
          (over_sum _ _ (over_term_of e.0 _ has.0) (go es has.1))
