-- Multiples of operators by whole numbers: a multiple of a multiple, and of a sum, and of the quotient by the same number.
-- Main lemmas `scaled_twice`, `scaled-sum` and `scaled_quotient`.
use Rattle.ct_ore.proofs.Base.{◌≡◌, ℕ, ◌*◌, pos, ◌*ℤ◌, List, [], ◌∷◌, map, sym, ◌∙◌, ap, ap₂, Mono, unit, ·-unit, Name, Action, Polynomial, times}
use Rattle.ct_ore.proofs.Base.{times_is, number, number_is, term, term-*, Operator, operator_of, term_of, sum_of_operators, product_of}
use Rattle.ct_ore.proofs.Base.{product_of_assoc, product_of-sum, multiple-term_of, product_of-polynomial, divided, each_divides}
use Rattle.ct_poly.proofs.DividedTerms.{divided_whole}
use Rattle.ct_ore.specs.Wholes.{DividesTerms, DividesOperator, entry_over, over_whole, whole_operator}
use Rattle.ct_ore.proofs.ProductRules.{product_of-none}
use Rattle.ct_algebra.proofs.OperatorLawProofs as operator_laws

times_numbers : (m n : ℕ) → times (number (pos m)) (number (pos n)) ≡ number (pos (m * n))
times_numbers m n =
    ap₂ times (number_is (pos m)) (number_is (pos n)) ∙ times_is _ _ ∙ term-* unit unit (pos m) (pos n)
    ∙ ap (λ k. term k (pos m *ℤ pos n)) (·-unit unit) ∙ sym (number_is (pos (m * n)))

module _ (a : Name → Action) where
  -- n times an operator
  abbrev pub scaled : ℕ → Operator → Operator
  scaled n x = product_of a (whole_operator n) x

  on_term : (c : Polynomial) (m : Mono) (d : Polynomial) → product_of a (term_of unit c) (term_of m d) ≡ term_of m (times c d)
  on_term c m d = product_of-polynomial a c (term_of m d) ∙ multiple-term_of a c m d

  pub scaled_twice : (m n : ℕ) (x : Operator) → scaled m (scaled n x) ≡ scaled (m * n) x
  scaled_twice m n x =
      sym (product_of_assoc a (whole_operator m) (whole_operator n) x)
      ∙ ap (λ w. product_of a w x) (on_term (number (pos m)) unit (number (pos n)) ∙ ap (term_of unit) (times_numbers m n))

  pub scaled-sum : (n : ℕ) (x y : Operator) → scaled n (sum_of_operators x y) ≡ sum_of_operators (scaled n x) (scaled n y)
  scaled-sum n x y = product_of-sum a (whole_operator n) x y

  scaled_list : (d : ℕ) (es : List (Mono × Polynomial)) → DividesTerms d es → scaled d (operator_of (map (entry_over d) es)) ≡ operator_of es
  scaled_list d [] all =
      ap (scaled d) operator_laws.sums_of_terms.of_none ∙ product_of-none a (whole_operator d) ∙ sym operator_laws.sums_of_terms.of_none
  scaled_list d (e ∷ es) all =
      ap (scaled d) (operator_laws.sums_of_terms.of_more (entry_over d e) (map (entry_over d) es))
      ∙ scaled-sum d (term_of e.0 (divided unit (pos d) e.1)) (operator_of (map (entry_over d) es))
      ∙ ap₂ sum_of_operators
      (on_term (number (pos d)) e.0 (divided unit (pos d) e.1)
      ∙ ap (term_of e.0) (ap (λ w. times w (divided unit (pos d) e.1)) (number_is (pos d))
      ∙ divided_whole unit (pos d) e.1 (each_divides d e.1.terms all.0)))
      (scaled_list d es all.1)
      ∙ sym (operator_laws.sums_of_terms.of_more e es)

  pub scaled_quotient : (d : ℕ) (x : Operator) → DividesOperator d x → scaled d (over_whole d x) ≡ x
  unfolding over_whole
  scaled_quotient d x all = scaled_list d x.terms all ∙ operator_laws.sums_of_terms.of_its_own x
