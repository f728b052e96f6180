-- The coefficient of 1 among the terms of an operator, term by term: `one_is_there` where it stands, `one_is_later` past
-- another term, and `one_is_nowhere` at the end.
use Rattle.ct_expr.proofs.Base.{◌≡◌, ℕ, ◌+◌, ◌<◌, ◌≤◌, true, false, List, ◌∷◌, length, drop, get_or, sym, ap, ◌∙◌, subst, drop_all, false≢true}
use Rattle.ct_expr.proofs.Base.{zero_add, Mono, monomials, unit, Polynomial, polys, Operator, polynomial_at, pick-other, mono_eq, mono_eq_decides}
use Rattle.ct_algebra.specs.Terms.{value_at, pick, IsCanonical}
use Rattle.ct_algebra.specs.Laws.Terms.{at_head}
use Rattle.ct_algebra.specs.Sums.{at}
use Rattle.ct_ore.specs.declared.op.OpTerm.{OpTerm}
use Rattle.ct_ore.specs.Terms.{op_entries, IsOperator}
use Rattle.ct_expr.proofs.Turns.{next_item}

abbrev pub coefficient_in : List OpTerm → Polynomial
coefficient_in ts = value_at monomials polys.group (op_entries ts) unit

-- what is known of the terms that are left
pub record IsLeft (p : Operator) (ts : List OpTerm) : Type 0 where
  pub value : coefficient_in ts ≡ polynomial_at p unit
  pub canonical : IsOperator ts

pub all_left : (p : Operator) (ts : List OpTerm) → op_entries ts ≡ p.terms → IsLeft p ts
unfolding at
all_left p ts e = record {
  value = ap (λ (es : List (Mono × Polynomial)). value_at monomials polys.group es unit) e;
  canonical = subst (IsCanonical monomials polys.group) (sym e) p.canonical;
}

module _ (p : Operator) (ts : List OpTerm) (at : ℕ) (t : OpTerm) where
  here : at < length ts → t ≡ get_or ts at t → IsLeft p (drop at ts) → IsLeft p (t ∷ drop (at + 1) ts)
  here below is left = subst (IsLeft p) (next_item ts at t below is) left

  pub one_is_there : at < length ts → t ≡ get_or ts at t → mono_eq t.mono unit ≡ true → IsLeft p (drop at ts) → t.coef ≡ polynomial_at p unit
  one_is_there below is one left =
      let known = here below is left in
      let same : t.mono ≡ unit = (mono_eq_decides t.mono unit).0 one in
      sym (at_head monomials polys.group (t.mono, t.coef) (op_entries (drop (at + 1) ts)) known.canonical.1)
      ∙ ap (value_at monomials polys.group (op_entries (t ∷ drop (at + 1) ts))) same ∙ known.value

  pub one_is_later : at < length ts → t ≡ get_or ts at t → mono_eq t.mono unit ≡ false → IsLeft p (drop at ts) → IsLeft p (drop (at + 1) ts)
  one_is_later below is other left =
      let known = here below is left in
      let rest = coefficient_in (drop (at + 1) ts) in
      let none : pick monomials polys.group unit t.mono t.coef ≡ polys.zero =
      pick-other unit t.mono t.coef (λ same. let yes = (mono_eq_decides t.mono unit).1 same in false≢true (sym other ∙ yes)) in
      record {
        value = sym (ap (λ (c : Polynomial). polys.group.◌+◌ c rest) none ∙ zero_add polys.group rest) ∙ known.value;
        canonical = known.canonical.2;
      }

pub one_is_nowhere : (p : Operator) (ts : List OpTerm) (at : ℕ) → length ts ≤ at → IsLeft p (drop at ts) → polys.zero ≡ polynomial_at p unit
one_is_nowhere p ts at done left = ap coefficient_in (sym (drop_all at ts done)) ∙ left.value
