-- How many coefficient terms an operator has and how large they are: what a value of code keeps of its operator.
-- Main lemmas `fits_of_terms` (terms in code are within the limits where their operator is) and `term_fits`, of one term;
-- `count-coefficient_terms` and `norm-coefficient_terms` tie the code's lists to the measures.
use Rattle.ct_ore.proofs.Base.{◌≡◌, refl, ℕ, ◌+◌, ◌≤◌, nat_abs, ℤ, List, [], ◌∷◌, length, sym, ◌∙◌, ap, subst, arith, cond, Bool, true, false}
use Rattle.ct_ore.proofs.Base.{append-nil, suc, lit≤, ap₂, length-append, sum_by-cons, sum_by-append, has_none, none_of, single, Mono, monomials}
use Rattle.ct_ore.proofs.Base.{Polynomial, polys, count, norm, norm_of, int_group, Operator, term_of, no_operator, most_terms, largest_norm}
use Rattle.ct_ore.specs.declared.coefficient_term.CoefficientTerm.{CoefficientTerm}
use Rattle.ct_ore.specs.declared.op.OpTerm.{OpTerm}
use Rattle.ct_ore.specs.Terms.{op_entries, operator_of_terms, IsOperator}
use Rattle.ct_ore.specs.CoefficientTerms.{size_of, row_of, all_terms, coefficient_terms}
use Rattle.ct_ore.specs.Measures.{term_count, term_norm}
use Rattle.ct_ore.specs.Lists.{Fits}
use Rattle.ct_ore.specs.TermSums.{entries_count, entries_norm}
use Rattle.ct_ore.proofs.WrittenForm.{coefficients_written}
use Rattle.ct_ore.proofs.WrittenOperators.{value_of_terms, canonical_terms, terms-no_operator}

-- ---- the measures of a list of terms are those of its coefficients

pub length-row : (m : Mono) (es : List (Mono × ℤ)) → length (row_of m es) ≡ length es
length-row m [] = refl
length-row m (e ∷ es) = ap (λ n. suc n) (length-row m es)

pub size-row : (m : Mono) (es : List (Mono × ℤ)) → size_of (row_of m es) ≡ norm_of es
size-row m [] = refl
size-row m (e ∷ es) =
    sum_by-cons (λ (u : CoefficientTerm). nat_abs u.number) (record { symbols = m; names = e.0; number = e.1 }) (row_of m es)
    ∙ ap (λ n. nat_abs e.1 + n) (size-row m es) ∙ sym (sum_by-cons (λ (d : Mono × ℤ). nat_abs d.1) e es)

abbrev counted : Mono × Polynomial → ℕ
counted e = count e.1

abbrev normed : Mono × Polynomial → ℕ
normed e = norm e.1

pub count-all_terms : (es : List (Mono × Polynomial)) → length (all_terms es) ≡ entries_count es
unfolding count
count-all_terms [] = refl
count-all_terms (e ∷ es) =
    length-append (row_of e.0 e.1.terms) (all_terms es) ∙ ap₂ ◌+◌ (length-row e.0 e.1.terms) (count-all_terms es)
    ∙ sym (sum_by-cons counted e es)

pub norm-all_terms : (es : List (Mono × Polynomial)) → size_of (all_terms es) ≡ entries_norm es
unfolding norm
norm-all_terms [] = refl
norm-all_terms (e ∷ es) =
    sum_by-append (λ (t : CoefficientTerm). nat_abs t.number) (row_of e.0 e.1.terms) (all_terms es)
    ∙ ap₂ ◌+◌ (size-row e.0 e.1.terms) (norm-all_terms es) ∙ sym (sum_by-cons normed e es)

pub count-coefficient_terms : (p : Operator) → length (coefficient_terms p) ≡ term_count p
unfolding term_count coefficient_terms
count-coefficient_terms p = count-all_terms p.terms

pub norm-coefficient_terms : (p : Operator) → size_of (coefficient_terms p) ≡ term_norm p
unfolding term_norm coefficient_terms
norm-coefficient_terms p = norm-all_terms p.terms

-- what code counts and adds up
pub listed_count : (p : Operator) (es : List (Mono × Polynomial)) → es ≡ p.terms → length (all_terms es) ≡ term_count p
unfolding term_count
listed_count p es same = count-all_terms es ∙ ap entries_count same

pub listed_norm : (p : Operator) (es : List (Mono × Polynomial)) → es ≡ p.terms → entries_norm es ≡ term_norm p
unfolding term_norm
listed_norm p es same = ap entries_norm same

-- ---- what a value of code keeps

-- an operator within the limits, as the invariant of `Op` says it
pub fits_of_terms :
    (p : Operator) (ts : List OpTerm) → op_entries ts ≡ p.terms → Fits (coefficient_terms p) →
    IsOperator ts × (term_count (operator_of_terms ts) ≤ most_terms) × (term_norm (operator_of_terms ts) ≤ largest_norm)
fits_of_terms p ts same fits =
    let value : operator_of_terms ts ≡ p = value_of_terms ts same in (
      canonical_terms p ts same,
      subst (λ q. term_count q ≤ most_terms) (sym value) (omega (arith, fits.few, count-coefficient_terms p)),
      subst (λ q. term_norm q ≤ largest_norm) (sym value) (omega (arith, fits.small, norm-coefficient_terms p)),
    )

-- and back
pub fits_of_invariant :
    {p : Operator} (ts : List OpTerm) → operator_of_terms ts ≡ p → term_count (operator_of_terms ts) ≤ most_terms →
    term_norm (operator_of_terms ts) ≤ largest_norm → Fits (coefficient_terms p)
fits_of_invariant {p} ts value few small = record {
  written = coefficients_written p;
  few = omega (arith, count-coefficient_terms p, subst (λ q. term_count q ≤ most_terms) value few);
  small = omega (arith, norm-coefficient_terms p, subst (λ q. term_norm q ≤ largest_norm) value small);
}

pub no_operator_fits : Fits (coefficient_terms no_operator)
unfolding coefficient_terms
no_operator_fits = record {
  written = coefficients_written no_operator;
  few = subst (λ es. length (all_terms es) ≤ most_terms) (sym terms-no_operator) (lit≤ tt);
  small = subst (λ es. size_of (all_terms es) ≤ largest_norm) (sym terms-no_operator) (lit≤ tt);
}

-- ---- one term

-- a nonzero polynomial before symbols is one term
pub terms-term_of : (m : Mono) (c : Polynomial) → (c ≡ polys.zero → ⊥) → (term_of m c).terms ≡ (m, c) ∷ []
unfolding term_of single
terms-term_of m c some = by (has_none monomials int_group c.terms) refl
  where
    by :
        (b : Bool) → has_none monomials int_group c.terms ≡ b →
        cond {A = List (Mono × Polynomial)} (has_none monomials int_group c.terms) [] ((m, c) ∷ []) ≡ (m, c) ∷ []
    by true e = absurd (some (none_of monomials int_group c e))
    by false e = ap (λ b. cond {A = List (Mono × Polynomial)} b [] ((m, c) ∷ [])) e

pub term_fits :
    (m : Mono) (c : Polynomial) → (c ≡ polys.zero → ⊥) → count c ≤ most_terms → norm c ≤ largest_norm →
    Fits (coefficient_terms (term_of m c))
unfolding coefficient_terms count norm
term_fits m c some few small =
    let terms : coefficient_terms (term_of m c) ≡ row_of m c.terms = ap all_terms (terms-term_of m c some) ∙ append-nil (row_of m c.terms) in
    record {
      written = coefficients_written (term_of m c);
      few = omega (arith, few, ap length terms, length-row m c.terms);
      small = omega (arith, small, ap size_of terms, size-row m c.terms);
    }
