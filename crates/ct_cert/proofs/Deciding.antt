-- Truth values that decide facts. Main lemmas `decided`, `same_polynomial_decides`, `same_operator_decides`: the tests for
-- equality hold exactly where the values are equal, by the laws of a group. Cited by the tests' code and by `Passing`.
use Rattle.ct_cert.proofs.Base.{◌≡◌, refl, Bool, true, false, IsTrue, ◌↔◌, Decides, sym, ◌∙◌, ap, Polynomial, polys, Operator, operator_group}
use Rattle.ct_algebra.specs.Group.{Group, neg_unique, neg_neg}
use Rattle.ct_cert.specs.Arithmetic.{same_polynomial, same_operator}

-- two truth values of one fact
pub decided : {P : Type 0} (r b : Bool) → (IsTrue r ↔ P) → Decides b P → r ≡ b
decided true true told decides = refl
decided true false told decides = sym (decides.1 (told.0 refl))
decided false true told decides = told.1 (decides.0 refl)
decided false false told decides = refl

module _ {A : Type 0} (G : Group A) where
  zero_decides : (x : A) → Decides (G.is_zero x) (x ≡ G.zero)
  zero_decides x = (G.true_zero x, λ none. ap G.is_zero none ∙ G.zero_true)

  difference_decides : (x y : A) → Decides (G.is_zero (G.◌+◌ x (G.neg y))) (x ≡ y)
  difference_decides x y =
      (λ equal. equal_of (G.true_zero _ equal), λ same. ap (λ z. G.is_zero (G.◌+◌ z (G.neg y))) same ∙ ap G.is_zero (G.add_neg y) ∙ G.zero_true)
    where
      equal_of : G.◌+◌ x (G.neg y) ≡ G.zero → x ≡ y
      equal_of none =
          sym (neg_neg G x) ∙ sym (ap G.neg (neg_unique G x (G.neg y) none)) ∙ neg_neg G y

pub same_polynomial_decides : (p q : Polynomial) → Decides (same_polynomial p q) (p ≡ q)
unfolding same_polynomial
same_polynomial_decides p q = difference_decides polys.group p q

pub same_operator_decides : (p q : Operator) → Decides (same_operator p q) (p ≡ q)
unfolding same_operator
same_operator_decides p q = difference_decides operator_group p q

pub polynomial_zero_decides : (p : Polynomial) → Decides (polys.is_zero p) (p ≡ polys.zero)
polynomial_zero_decides p = zero_decides polys.group p

pub operator_zero_decides : (p : Operator) → Decides (operator_group.is_zero p) (p ≡ operator_group.zero)
operator_zero_decides p = zero_decides operator_group p
