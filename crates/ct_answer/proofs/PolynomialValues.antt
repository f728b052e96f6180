-- The value of what is printed of a polynomial, term after term. Main lemmas `Makes-polynomial` and `polynomial_written`.
--     IsSmallEntry e       a term of a polynomial within the limits
use Rattle.ct_answer.proofs.Base.{◌≡◌, ℕ, zero, suc, ◌+◌, ◌≤◌, ◌<◌, true, false, cond, T, ℤ, pos, negsuc, nat_abs, List, [], ◌∷◌, ◌++◌, length, Ok}
use Rattle.ct_answer.proofs.Base.{refl, sym, ap, ◌∙◌, subst, arith, append-nil, sum_by-cons, Mono, total, unit, Name, Polynomial, polys, plus}
use Rattle.ct_answer.proofs.Base.{poly_of, count, norm, norm_of, term, int_is_zero, Action, Operator, operator_group, sum_of_operators, negative}
use Rattle.ct_answer.proofs.Base.{term_of, negatives_are, term_of-sum, term_of-zero, term_of_hom, largest_degree, most_terms, largest_norm, over_one}
use Rattle.ct_answer.proofs.Base.{fraction_of, Each, terms-term, total_unit, term_count-one, term_norm-one}
use Rattle.ct_algebra.specs.Group.{hom_neg}
use Rattle.ct_poly.proofs.DivisionSteps.{term-neg}
use Rattle.ct_poly.proofs.TermLists.{rebuilt}
use Rattle.ct_answer.specs.declared.factors.Power.{Power}
use Rattle.ct_answer.specs.Text.{names_in}
use Rattle.ct_answer.proofs.PowerMonomials.{all_of, all_of-powers, all_are}
use Rattle.ct_answer.proofs.PowerValues.{small_term}
use Rattle.ct_answer.proofs.TermValues.{term_value}
use Rattle.ct_answer.proofs.SumValues.{TermHas, Adds, Makes, Makes-one, Makes-append, Adds-none, sum_value, zero_value}
use Rattle.ct_answer.proofs.PrintedExpressions.{signed_expression, term_expression, entry_expression, entry_expressions, sum_expression}
use Rattle.ct_algebra.proofs.PolynomialLawProofs as polynomial_laws

-- ---- terms of polynomials

pub record IsSmallEntry (e : Mono × ℤ) : Type 0 where
  pub some : T (cond (int_is_zero e.1) false true)
  pub small : nat_abs e.1 ≤ largest_norm
  pub low : total e.0 ≤ largest_degree

count-term : (n : Mono) (x : ℤ) → T (cond (int_is_zero x) false true) → count (term n x) ≡ 1
unfolding count
count-term n x some = ap (λ (es : List (Mono × ℤ)). length es) (terms-term n x some)

norm-term : (n : Mono) (x : ℤ) → T (cond (int_is_zero x) false true) → norm (term n x) ≡ nat_abs x
unfolding norm
norm-term n x some = ap norm_of (terms-term n x some) ∙ let plain : 0 + nat_abs x ≡ nat_abs x = omega arith in plain

negative-term : (m n : Mono) (k : ℕ) → negative (term_of m (term n (pos (suc k)))) ≡ term_of m (term n (negsuc k))
negative-term m n k =
    negatives_are _ ∙ sym (hom_neg {G = polys.group} {H = operator_group} {φ = term_of m} (term_of_hom m) (term n (pos (suc k))))
    ∙ ap (term_of m) (sym (term-neg n (pos (suc k))))

module _ (a : Name → Action) where
  -- one number with powers of names and symbols
  module _ (n : Mono) (qs : List Power) (symbols : Each (λ p. p.is_symbol ≡ true) qs) (low : total n ≤ largest_degree)
      (low_order : total (all_of qs) ≤ largest_degree) where
    evaluated : (k : ℕ) → suc k ≤ largest_norm →
        fraction_of a (term_expression (suc k) (names_in n ++ qs)) ≡ Ok (over_one (term_of (all_of qs) (term n (pos (suc k)))))
    evaluated k small =
        let same = all_of-powers false n in
        term_value a (suc k) (names_in n) qs (omega arith) small (all_are false n 6) symbols (omega (arith, ap total same, low)) low_order
        ∙ ap (λ (m : Mono). Ok (over_one (term_of (all_of qs) (term m (pos (suc k)))))) same

    pub signed_has : (x : ℤ) → T (cond (int_is_zero x) false true) → nat_abs x ≤ largest_norm →
        TermHas a (signed_expression x (names_in n ++ qs)) (term_of (all_of qs) (term n x)) 1 (nat_abs x)
    signed_has (pos zero) some small = absurd some
    signed_has (pos (suc k)) some small =
        let known = small_term n (pos (suc k)) tt small low in
        let counted = term_count-one (all_of qs) (term n (pos (suc k))) known.some ∙ count-term n (pos (suc k)) tt in
        let weighed = term_norm-one (all_of qs) (term n (pos (suc k))) known.some ∙ norm-term n (pos (suc k)) tt in
        record {
          value = term_of (all_of qs) (term n (pos (suc k)));
          evaluates = evaluated k small;
          sign = refl;
          few = omega (arith, counted);
          small = omega (arith, weighed);
          few_signed = omega (arith, counted);
          small_signed = omega (arith, weighed);
        }
    signed_has (negsuc k) some small =
        let known = small_term n (pos (suc k)) tt small low in
        let counted = term_count-one (all_of qs) (term n (pos (suc k))) known.some ∙ count-term n (pos (suc k)) tt in
        let weighed = term_norm-one (all_of qs) (term n (pos (suc k))) known.some ∙ norm-term n (pos (suc k)) tt in
        let other = small_term n (negsuc k) tt small low in
        let counted_other = term_count-one (all_of qs) (term n (negsuc k)) other.some ∙ count-term n (negsuc k) tt in
        let weighed_other = term_norm-one (all_of qs) (term n (negsuc k)) other.some ∙ norm-term n (negsuc k) tt in
        record {
          value = term_of (all_of qs) (term n (pos (suc k)));
          evaluates = evaluated k small;
          sign = negative-term (all_of qs) n k;
          few = omega (arith, counted);
          small = omega (arith, weighed);
          few_signed = omega (arith, counted_other);
          small_signed = omega (arith, weighed_other);
        }

  -- ---- polynomials

  entry_has : (e : Mono × ℤ) → IsSmallEntry e → TermHas a (entry_expression e) (term_of unit (term e.0 e.1)) 1 (nat_abs e.1)
  entry_has e known =
      subst (λ (ps : List Power). TermHas a (signed_expression e.1 ps) (term_of unit (term e.0 e.1)) 1 (nat_abs e.1)) (append-nil (names_in e.0))
      (signed_has e.0 [] tt known.low (omega (arith, total_unit)) e.1 known.some known.small)

  more_terms : (e : Mono × ℤ) (es : List (Mono × ℤ)) →
      sum_of_operators (term_of unit (term e.0 e.1)) (term_of unit (poly_of es)) ≡ term_of unit (poly_of (e ∷ es))
  unfolding plus
  more_terms e es = sym (ap (term_of unit) (polynomial_laws.sums_of_terms.of_more e es) ∙ term_of-sum unit (term e.0 e.1) (poly_of es))

  norm-cons : (e : Mono × ℤ) (es : List (Mono × ℤ)) → nat_abs e.1 + norm_of es ≡ norm_of (e ∷ es)
  norm-cons e es = sym (sum_by-cons (λ (d : Mono × ℤ). nat_abs d.1) e es)

  entries_make : (e : Mono × ℤ) (es : List (Mono × ℤ)) → IsSmallEntry e →
      Adds a (entry_expressions es) (term_of unit (poly_of es)) (length es) (norm_of es)
      → Makes a (entry_expressions (e ∷ es)) (term_of unit (poly_of (e ∷ es))) (length (e ∷ es)) (norm_of (e ∷ es))
  entries_make e es known later =
      let all = Makes-append a (entry_expression e ∷ []) (entry_expressions es) (term_of unit (term e.0 e.1)) (term_of unit (poly_of es)) 1
      (nat_abs e.1) (length es) (norm_of es) (Makes-one a _ _ _ _ (entry_has e known)) later in
      let one : 1 + length es ≡ length (e ∷ es) = omega arith in
      subst (λ (k : ℕ). Makes a (entry_expressions (e ∷ es)) (term_of unit (poly_of (e ∷ es))) k (norm_of (e ∷ es))) one
      (subst (λ (s : ℕ). Makes a (entry_expressions (e ∷ es)) (term_of unit (poly_of (e ∷ es))) (1 + length es) s) (norm-cons e es)
      (subst (λ (w : Operator). Makes a (entry_expressions (e ∷ es)) w (1 + length es) (nat_abs e.1 + norm_of es)) (more_terms e es) all))

  Adds-entries : (es : List (Mono × ℤ)) → Each IsSmallEntry es → Adds a (entry_expressions es) (term_of unit (poly_of es)) (length es) (norm_of es)
  Adds-entries [] known =
      subst (λ (w : Operator). Adds a [] w 0 0) (sym (ap (term_of unit) polynomial_laws.sums_of_terms.of_none ∙ term_of-zero unit)) (Adds-none a)
  Adds-entries (e ∷ es) known = (entries_make e es known.0 (Adds-entries es known.1)).adds

  -- the terms of a polynomial that is not zero
  pub Makes-polynomial : (c : Polynomial) → 0 < length c.terms → Each IsSmallEntry c.terms →
      Makes a (entry_expressions c.terms) (term_of unit c) (length c.terms) (norm_of c.terms)
  Makes-polynomial c some known =
      subst (λ (d : Polynomial). Makes a (entry_expressions c.terms) (term_of unit d) (length c.terms) (norm_of c.terms)) (rebuilt c)
      (by c.terms some known)
    where
      by : (es : List (Mono × ℤ)) → 0 < length es → Each IsSmallEntry es →
          Makes a (entry_expressions es) (term_of unit (poly_of es)) (length es) (norm_of es)
      by [] some known = absurd (omega (arith, some))
      by (e ∷ es) some known = entries_make e es known.0 (Adds-entries es known.1)

  -- a sum that is written for itself
  pub written_value : (c : Polynomial) → 0 < length c.terms → Each IsSmallEntry c.terms → length c.terms ≤ most_terms → norm_of c.terms ≤ largest_norm
      → fraction_of a (sum_expression (entry_expressions c.terms)) ≡ Ok (over_one (term_of unit c))
  written_value c some known few small =
      sum_value a (entry_expressions c.terms) (term_of unit c) (length c.terms) (norm_of c.terms) (Makes-polynomial c some known).begins few small

  -- also of zero
  pub polynomial_written : (c : Polynomial) → Each IsSmallEntry c.terms → length c.terms ≤ most_terms → norm_of c.terms ≤ largest_norm
      → fraction_of a (sum_expression (entry_expressions c.terms)) ≡ Ok (over_one (term_of unit c))
  polynomial_written c known few small =
      sum_value_of c.terms known few small ∙ ap (λ (d : Polynomial). Ok (over_one (term_of unit d))) (rebuilt c)
    where
      sum_value_of : (es : List (Mono × ℤ)) → Each IsSmallEntry es → length es ≤ most_terms → norm_of es ≤ largest_norm →
          fraction_of a (sum_expression (entry_expressions es)) ≡ Ok (over_one (term_of unit (poly_of es)))
      sum_value_of [] known few small =
          zero_value a ∙ ap (λ (x : Operator). Ok (over_one x)) (sym (ap (term_of unit) polynomial_laws.sums_of_terms.of_none ∙ term_of-zero unit))
      sum_value_of (e ∷ es) known few small =
          sum_value a (entry_expressions (e ∷ es)) (term_of unit (poly_of (e ∷ es))) (length (e ∷ es)) (norm_of (e ∷ es))
          (entries_make e es known.0 (Adds-entries es known.1)).begins few small
