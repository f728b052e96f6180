-- The value of what is printed of an operator, coefficient after coefficient. Main lemma `operator_value`.
--     IsSmallOperatorEntry e     a term of an operator within the limits
use Rattle.ct_answer.proofs.Base.{◌≡◌, ℕ, ◌+◌, ◌≤◌, ◌<◌, true, ℤ, nat_abs, List, [], ◌∷◌, ◌++◌, length, Ok, refl, sym, ap, ◌∙◌, subst, arith}
use Rattle.ct_answer.proofs.Base.{sum_by-cons, same_terms, Mono, monomials, total, unit, Name, Polynomial, count, norm, norm_of, term, int_group}
use Rattle.ct_answer.proofs.Base.{Action, Operator, term_of, operator_of, Checked, ◌>>=◌, largest_degree, most_terms, largest_norm, entries_count}
use Rattle.ct_answer.proofs.Base.{entries_norm, term_count, term_norm, Value, over_one, value_of, fraction_of, Each, terms-term, term_count-one}
use Rattle.ct_answer.proofs.Base.{term_norm-one}
use Rattle.ct_answer.specs.declared.factors.Power.{Power}
use Rattle.ct_answer.specs.Text.{names_in, symbols_in}
use Rattle.ct_answer.proofs.PowerMonomials.{all_of, all_of-powers, all_are}
use Rattle.ct_answer.proofs.PowerValues.{IsSmall}
use Rattle.ct_answer.proofs.TermValues.{before_symbols_value}
use Rattle.ct_answer.proofs.SumValues.{TermHas, Adds, Makes, Makes-one, Makes-append, Adds-none, sum_value, zero_value}
use Rattle.ct_answer.proofs.PolynomialValues.{IsSmallEntry, signed_has, Makes-polynomial, written_value}
use Rattle.ct_answer.proofs.PrintedExpressions.{signed_expression, entry_expressions, before_symbols, product_expressions, operator_entry_expressions}
use Rattle.ct_answer.proofs.PrintedExpressions.{operator_expressions, operator_expression, sum_expression}
use Rattle.ct_algebra.proofs.OperatorLawProofs as operator_laws

pub record IsSmallOperatorEntry (e : Mono × Polynomial) : Type 0 where
  pub some : 0 < length e.1.terms
  pub entries : Each IsSmallEntry e.1.terms
  pub coefficient : IsSmall e.1
  pub low : total e.0 ≤ largest_degree

count_is : (c : Polynomial) (es : List (Mono × ℤ)) → c.terms ≡ es → count c ≡ length es
unfolding count
count_is c es same = ap (λ (ds : List (Mono × ℤ)). length ds) same

norm_is : (c : Polynomial) (es : List (Mono × ℤ)) → c.terms ≡ es → norm c ≡ norm_of es
unfolding norm
norm_is c es same = ap norm_of same

module _ (a : Name → Action) where
  -- a coefficient before symbols has the term of both
  before_has : (c : Polynomial) (es : List (Mono × ℤ)) (qs : List Power) → c.terms ≡ es → 0 < length es → Each IsSmallEntry es → IsSmall c →
      Each (λ p. p.is_symbol ≡ true) qs → total (all_of qs) ≤ largest_degree
      → TermHas a (before_symbols es qs) (term_of (all_of qs) c) (length es) (norm_of es)
  before_has c [] qs same some entries known symbols low = absurd (omega (arith, some))
  before_has c (e ∷ []) qs same some entries known symbols low =
      let alone : term e.0 e.1 ≡ c = same_terms monomials int_group _ _ (terms-term e.0 e.1 entries.0.some ∙ sym same) in
      let sized : nat_abs e.1 ≡ norm_of (e ∷ []) = let plain : nat_abs e.1 + 0 ≡ nat_abs e.1 = omega arith in
      sym plain ∙ sym (sum_by-cons (λ (d : Mono × ℤ). nat_abs d.1) e []) in
      subst (λ (s : ℕ). TermHas a (signed_expression e.1 (names_in e.0 ++ qs)) (term_of (all_of qs) c) 1 s) sized
      (subst (λ (d : Polynomial). TermHas a (signed_expression e.1 (names_in e.0 ++ qs)) (term_of (all_of qs) d) 1 (nat_abs e.1)) alone
      (signed_has a e.0 qs symbols entries.0.low low e.1 entries.0.some entries.0.small))
  before_has c (e ∷ f ∷ es) qs same some entries known symbols low =
      let counted : term_count (term_of (all_of qs) c) ≡ length (e ∷ f ∷ es) = term_count-one (all_of qs) c known.some
      ∙ count_is c (e ∷ f ∷ es) same in
      let weighed : term_norm (term_of (all_of qs) c) ≡ norm_of (e ∷ f ∷ es) = term_norm-one (all_of qs) c known.some ∙ norm_is c (e ∷ f ∷ es) same in
      let few : length (e ∷ f ∷ es) ≤ most_terms = subst (λ (n : ℕ). n ≤ most_terms) (count_is c (e ∷ f ∷ es) same) known.few in
      let small : norm_of (e ∷ f ∷ es) ≤ largest_norm = subst (λ (n : ℕ). n ≤ largest_norm) (norm_is c (e ∷ f ∷ es) same) known.small in
      let value = subst (λ (ds : List (Mono × ℤ)). 0 < length ds → Each IsSmallEntry ds → length ds ≤ most_terms → norm_of ds ≤ largest_norm →
      fraction_of a (sum_expression (entry_expressions ds)) ≡ Ok (over_one (term_of unit c))) same (written_value a c) some entries few small in
      record {
        value = term_of (all_of qs) c;
        evaluates = before_symbols_value a (sum_expression (entry_expressions (e ∷ f ∷ es))) c qs value known symbols low;
        sign = refl;
        few = omega (arith, counted);
        small = omega (arith, weighed);
        few_signed = omega (arith, counted);
        small_signed = omega (arith, weighed);
      }

  -- a coefficient with its symbols, or in their absence its terms
  product_makes : (c : Polynomial) (qs : List Power) → 0 < length c.terms → Each IsSmallEntry c.terms → IsSmall c →
      Each (λ p. p.is_symbol ≡ true) qs → total (all_of qs) ≤ largest_degree
      → Makes a (product_expressions c.terms qs) (term_of (all_of qs) c) (length c.terms) (norm_of c.terms)
  product_makes c [] some entries known symbols low = Makes-polynomial a c some entries
  product_makes c (q ∷ qs) some entries known symbols low =
      Makes-one a (before_symbols c.terms (q ∷ qs)) (term_of (all_of (q ∷ qs)) c) (length c.terms) (norm_of c.terms)
      (before_has c c.terms (q ∷ qs) refl some entries known symbols low)

  entry_makes : (e : Mono × Polynomial) → IsSmallOperatorEntry e →
      Makes a (operator_entry_expressions e) (term_of e.0 e.1) (length e.1.terms) (norm_of e.1.terms)
  entry_makes e known =
      let same = all_of-powers true e.0 in
      let low = known.low in
      subst (λ (m : Mono). Makes a (operator_entry_expressions e) (term_of m e.1) (length e.1.terms) (norm_of e.1.terms)) same
      (product_makes e.1 (symbols_in e.0) known.some known.entries known.coefficient (all_are true e.0 6) (omega (arith, ap total same, low)))

  counted : (e : Mono × Polynomial) (es : List (Mono × Polynomial)) → length e.1.terms + entries_count es ≡ entries_count (e ∷ es)
  unfolding count
  counted e es = sym (sum_by-cons (λ (d : Mono × Polynomial). count d.1) e es)

  weighed : (e : Mono × Polynomial) (es : List (Mono × Polynomial)) → norm_of e.1.terms + entries_norm es ≡ entries_norm (e ∷ es)
  unfolding norm
  weighed e es = sym (sum_by-cons (λ (d : Mono × Polynomial). norm d.1) e es)

  entries_make : (e : Mono × Polynomial) (es : List (Mono × Polynomial)) → IsSmallOperatorEntry e →
      Adds a (operator_expressions es) (operator_of es) (entries_count es) (entries_norm es)
      → Makes a (operator_expressions (e ∷ es)) (operator_of (e ∷ es)) (entries_count (e ∷ es)) (entries_norm (e ∷ es))
  entries_make e es known later =
      let all = Makes-append a (operator_entry_expressions e) (operator_expressions es) (term_of e.0 e.1) (operator_of es) (length e.1.terms)
      (norm_of e.1.terms) (entries_count es) (entries_norm es) (entry_makes e known) later in
      subst (λ (k : ℕ). Makes a (operator_expressions (e ∷ es)) (operator_of (e ∷ es)) k (entries_norm (e ∷ es))) (counted e es)
      (subst (λ (s : ℕ). Makes a (operator_expressions (e ∷ es)) (operator_of (e ∷ es)) (length e.1.terms + entries_count es) s) (weighed e es)
      (subst (λ (w : Operator). Makes a (operator_expressions (e ∷ es)) w (length e.1.terms + entries_count es)
      (norm_of e.1.terms + entries_norm es)) (sym (operator_laws.sums_of_terms.of_more e es)) all))

  entries_add : (es : List (Mono × Polynomial)) → Each IsSmallOperatorEntry es →
      Adds a (operator_expressions es) (operator_of es) (entries_count es) (entries_norm es)
  entries_add [] known = subst (λ (w : Operator). Adds a [] w 0 0) (sym operator_laws.sums_of_terms.of_none) (Adds-none a)
  entries_add (e ∷ es) known = (entries_make e es known.0 (entries_add es known.1)).adds

  list_value : (es : List (Mono × Polynomial)) → Each IsSmallOperatorEntry es → entries_count es ≤ most_terms → entries_norm es ≤ largest_norm
      → fraction_of a (sum_expression (operator_expressions es)) ≡ Ok (over_one (operator_of es))
  list_value [] known few small = zero_value a ∙ ap (λ (x : Operator). Ok (over_one x)) (sym operator_laws.sums_of_terms.of_none)
  list_value (e ∷ es) known few small =
      sum_value a (operator_expressions (e ∷ es)) (operator_of (e ∷ es)) (entries_count (e ∷ es)) (entries_norm (e ∷ es))
      (entries_make e es known.0 (entries_add es known.1)).begins few small

  pub operator_value : (p : Operator) → Each IsSmallOperatorEntry p.terms → term_count p ≤ most_terms → term_norm p ≤ largest_norm →
      value_of a (operator_expression p) ≡ Ok p
  unfolding term_count term_norm value_of
  operator_value p known few small = ap (λ (c : Checked Value). c >>= (λ v. Ok v.operator)) (list_value p.terms known few small)
      ∙ ap Ok (operator_laws.sums_of_terms.of_its_own p)
