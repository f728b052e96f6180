-- What a list of terms in code says of the operator that it stands for: its terms and its measures.
-- Main lemmas `terms_of`, `is_none`, `value_of_terms`. A canonical list is the terms of its operator.
use Rattle.ct_ore.proofs.Base.{◌≡◌, ◌↔◌, refl, List, [], ◌∷◌, ◌++◌, length, sym, ◌∙◌, ap, subst, arith, IsCanonical, same_list, IsCanonical-merged}
use Rattle.ct_ore.proofs.Base.{sum_over-merged, pick-IsAdditive, same_terms, sum_of, none, Mono, monomials, Polynomial, polys, Operator, operator_of}
use Rattle.ct_ore.proofs.Base.{no_operator}
use Rattle.ct_ore.specs.declared.op.OpTerm.{OpTerm}
use Rattle.ct_ore.specs.Terms.{op_entries, operator_of_terms, IsOperator}

pub terms-operator_of :
    (es : List (Mono × Polynomial)) → IsCanonical monomials polys.group es → (operator_of es).terms ≡ es
unfolding operator_of sum_of
terms-operator_of es h =
    same_list monomials polys.group _ _ (IsCanonical-merged monomials polys.group es [] tt) h
    (λ k. sum_over-merged (pick-IsAdditive monomials polys.group k) monomials es [] ∙ polys.group.add_zero _)

pub terms_of : {p : Operator} (ts : List OpTerm) → IsOperator ts → operator_of_terms ts ≡ p → op_entries ts ≡ p.terms
unfolding operator_of_terms
terms_of ts h value = sym (terms-operator_of (op_entries ts) h) ∙ ap (λ q. q.terms) value

-- the terms of an operator stand for it
pub value_of_terms : {p : Operator} (ts : List OpTerm) → op_entries ts ≡ p.terms → operator_of_terms ts ≡ p
unfolding operator_of_terms
value_of_terms {p} ts same =
    same_terms monomials polys.group _ p (ap (λ es. (operator_of es).terms) same ∙ terms-operator_of p.terms p.canonical)

pub canonical_terms : (p : Operator) (ts : List OpTerm) → op_entries ts ≡ p.terms → IsOperator ts
canonical_terms p ts same = subst (IsCanonical monomials polys.group) (sym same) p.canonical

pub terms-no_operator : no_operator.terms ≡ []
unfolding no_operator none
terms-no_operator = refl

-- no terms stand for 0, and nothing else does
pub is_none : {p : Operator} (ts : List OpTerm) → IsOperator ts → operator_of_terms ts ≡ p → (length ts ≡ 0) ↔ (p ≡ no_operator)
is_none {p} ts h value = (
  λ empty. sym value ∙ value_of_terms {p = no_operator} ts (empty_entries ts empty ∙ sym terms-no_operator),
  λ zero. no_entries ts (terms_of ts h (value ∙ zero) ∙ terms-no_operator),
)
  where
    empty_entries : (ts : List OpTerm) → length ts ≡ 0 → op_entries ts ≡ []
    empty_entries [] e = refl
    empty_entries (t ∷ ts) e = absurd (omega arith)

    no_entries : (ts : List OpTerm) → op_entries ts ≡ [] → length ts ≡ 0
    no_entries [] e = refl
    no_entries (t ∷ ts) e = cc

pub op_entries-append : (ts us : List OpTerm) → op_entries (ts ++ us) ≡ op_entries ts ++ op_entries us
op_entries-append [] us = refl
op_entries-append (t ∷ ts) us = ap (λ es. (t.mono, t.coef) ∷ es) (op_entries-append ts us)
