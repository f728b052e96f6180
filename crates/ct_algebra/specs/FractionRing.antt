-- The values of fractions as a ring in which zero can be told.
--     is_zero_value p     whether the numerator is zero, however the value is written
--     fractions R D       the ring: sums, products and negatives of values
-- Each law is that of ratios, an identity of their cross products. Inverses are in Division.
use Rattle.std.specs.Prelude.{◌≡◌, refl, Bool, true, false}
use Rattle.std.proofs.Common.{sym, ◌∙◌, ap, ap₂}
use Rattle.std.proofs.Math.Bool.{Bool-set}
use mathlib.Core.HLevel.{Π_prop}
use mathlib.Core.Quot.Quotient as quotient
use Rattle.ct_algebra.specs.Group.{Group}
use Rattle.ct_algebra.specs.Ring.{Ring, zero_mul}
use Rattle.ct_algebra.specs.Domain.{IsDomain, zero_factor}
use Rattle.ct_algebra.specs.RingTactic.{reify, ring2, ring4, ring6}
use Rattle.ct_algebra.specs.Fractions.{Ratio, SameValue, Fraction, fraction_set, ratios, value, same_value, value_same, by_values, same_maps, same_maps2, same_maps3, ratio_sum, ratio_product, ratio_negative, whole, ◌⊞◌, ◌⊠◌, negated, embed, value-sum, value-product, value-negation}

module _ {A : Type 0} (R : Ring A) (D : IsDomain R) where
  open R use {zero, one, ◌*◌, mul_comm, mul_one}

  infixl 70 ◌*◌
  -- ---- the laws of the ring

  pub ⊞_comm : (p q : Fraction R D) → ◌⊞◌ R D p q ≡ ◌⊞◌ R D q p
  ⊞_comm =
      same_maps2 R D (λ p q. ◌⊞◌ R D p q) (λ p q. ◌⊞◌ R D q p) (λ x y. value-sum R D x y ∙ same_value R D _ _ (cross x y) ∙ sym (value-sum R D y x))
    where
      cross : (x y : Ratio R) → SameValue R D (ratio_sum R D x y) (ratio_sum R D y x)
      cross x y = ring4 R x.num x.den y.num y.den (λ a b c d. (search reify depth 20, search reify depth 20)) refl

  pub ⊞_assoc : (p q r : Fraction R D) → ◌⊞◌ R D (◌⊞◌ R D p q) r ≡ ◌⊞◌ R D p (◌⊞◌ R D q r)
  ⊞_assoc = same_maps3 R D (λ p q r. ◌⊞◌ R D (◌⊞◌ R D p q) r) (λ p q r. ◌⊞◌ R D p (◌⊞◌ R D q r)) (λ x y z.
      ap (λ w. ◌⊞◌ R D w (value R D z)) (value-sum R D x y) ∙ value-sum R D _ z ∙ same_value R D _ _ (cross x y z)
      ∙ sym (ap (◌⊞◌ R D (value R D x)) (value-sum R D y z) ∙ value-sum R D x _))
    where
      cross : (x y z : Ratio R) → SameValue R D (ratio_sum R D (ratio_sum R D x y) z) (ratio_sum R D x (ratio_sum R D y z))
      cross x y z =
          ring6 R x.num x.den y.num y.den z.num z.den (λ a b c d e f. (search reify depth 20, search reify depth 20)) refl

  pub ⊠-⊞ : (p q r : Fraction R D) → ◌⊠◌ R D p (◌⊞◌ R D q r) ≡ ◌⊞◌ R D (◌⊠◌ R D p q) (◌⊠◌ R D p r)
  ⊠-⊞ = same_maps3 R D (λ p q r. ◌⊠◌ R D p (◌⊞◌ R D q r)) (λ p q r. ◌⊞◌ R D (◌⊠◌ R D p q) (◌⊠◌ R D p r)) (λ x y z.
      ap (◌⊠◌ R D (value R D x)) (value-sum R D y z) ∙ value-product R D x _ ∙ same_value R D _ _ (cross x y z)
      ∙ sym (ap₂ (◌⊞◌ R D) (value-product R D x y) (value-product R D x z) ∙ value-sum R D _ _))
    where
      cross : (x y z : Ratio R) → SameValue R D (ratio_product R D x (ratio_sum R D y z))
          (ratio_sum R D (ratio_product R D x y) (ratio_product R D x z))
      cross x y z =
          ring6 R x.num x.den y.num y.den z.num z.den (λ a b c d e f. (search reify depth 20, search reify depth 20)) refl

  pub ⊠_comm : (p q : Fraction R D) → ◌⊠◌ R D p q ≡ ◌⊠◌ R D q p
  ⊠_comm =
      same_maps2 R D (λ p q. ◌⊠◌ R D p q) (λ p q. ◌⊠◌ R D q p) (λ x y. value-product R D x y
      ∙ same_value R D _ _ (cross x y) ∙ sym (value-product R D y x))
    where
      cross : (x y : Ratio R) → SameValue R D (ratio_product R D x y) (ratio_product R D y x)
      cross x y = ring4 R x.num x.den y.num y.den (λ a b c d. (search reify depth 12, search reify depth 12)) refl

  pub ⊠_assoc : (p q r : Fraction R D) → ◌⊠◌ R D (◌⊠◌ R D p q) r ≡ ◌⊠◌ R D p (◌⊠◌ R D q r)
  ⊠_assoc = same_maps3 R D (λ p q r. ◌⊠◌ R D (◌⊠◌ R D p q) r) (λ p q r. ◌⊠◌ R D p (◌⊠◌ R D q r)) (λ x y z.
      ap (λ w. ◌⊠◌ R D w (value R D z)) (value-product R D x y) ∙ value-product R D _ z
      ∙ same_value R D _ _ (cross x y z)
      ∙ sym (ap (◌⊠◌ R D (value R D x)) (value-product R D y z) ∙ value-product R D x _))
    where
      cross : (x y z : Ratio R) → SameValue R D (ratio_product R D (ratio_product R D x y) z) (ratio_product R D x (ratio_product R D y z))
      cross x y z =
          ring6 R x.num x.den y.num y.den z.num z.den (λ a b c d e f. (search reify depth 12, search reify depth 12)) refl

  pub ⊞-zero : (p : Fraction R D) → ◌⊞◌ R D p (embed R D zero) ≡ p
  unfolding embed
  ⊞-zero =
      same_maps R D (fraction_set R D) (λ p. ◌⊞◌ R D p (value R D (whole R D zero))) (λ p. p) (λ x. value-sum R D x _ ∙ same_value R D _ _ (cross x))
    where
      cross : (x : Ratio R) → SameValue R D (ratio_sum R D x (whole R D zero)) x
      cross x = ring2 R x.num x.den (λ a b. (search reify depth 12, search reify depth 12)) refl

  pub ⊠-one : (p : Fraction R D) → ◌⊠◌ R D p (embed R D one) ≡ p
  unfolding embed
  ⊠-one =
      same_maps R D (fraction_set R D) (λ p. ◌⊠◌ R D p (value R D (whole R D one))) (λ p. p) (λ x. value-product R D x _
      ∙ same_value R D _ _ (cross x))
    where
      cross : (x : Ratio R) → SameValue R D (ratio_product R D x (whole R D one)) x
      cross x = ring2 R x.num x.den (λ a b. (search reify depth 12, search reify depth 12)) refl

  pub ⊞-negated : (p : Fraction R D) → ◌⊞◌ R D p (negated R D p) ≡ embed R D zero
  unfolding embed
  ⊞-negated = same_maps R D (fraction_set R D) (λ p. ◌⊞◌ R D p (negated R D p)) (λ p. value R D (whole R D zero))
      (λ x. ap (◌⊞◌ R D (value R D x)) (value-negation R D x) ∙ value-sum R D x _ ∙ same_value R D _ _ (cross x))
    where
      cross : (x : Ratio R) → SameValue R D (ratio_sum R D x (ratio_negative R D x)) (whole R D zero)
      cross x = ring2 R x.num x.den (λ a b. (search reify depth 12, search reify depth 12)) refl

  -- ---- zero can be told

  pub zero_num : (x : Ratio R) → x.num ≡ zero → value R D x ≡ embed R D zero
  unfolding embed
  zero_num x e = same_value R D x (whole R D zero) (mul_one _ ∙ e ∙ sym (zero_mul R x.den))

  pub num_zero : (x : Ratio R) → value R D x ≡ embed R D zero → x.num ≡ zero
  unfolding embed
  num_zero x e = sym (mul_one x.num) ∙ value_same R D x (whole R D zero) e ∙ zero_mul R x.den

  same_test : (a b : A) → (a ≡ zero → b ≡ zero) → (b ≡ zero → a ≡ zero) → R.is_zero a ≡ R.is_zero b
  same_test a b f g = by (R.is_zero a) (R.is_zero b) refl refl
    where
      by : (s t : Bool) → R.is_zero a ≡ s → R.is_zero b ≡ t → s ≡ t
      by true true p q = refl
      by false false p q = refl
      by true false p q = sym (sym q ∙ ap R.is_zero (f (R.true_zero a p)) ∙ R.zero_true)
      by false true p q = sym p ∙ ap R.is_zero (g (R.true_zero b q)) ∙ R.zero_true

  pub zero_same : (x y : Ratio R) → SameValue R D x y → x.num ≡ zero → y.num ≡ zero
  zero_same x y e z =
      zero_factor R D x.den y.num x.nonzero (mul_comm _ _ ∙ sym e ∙ ap (λ w. w * y.den) z ∙ zero_mul R _)

  pub is_zero_value : Fraction R D → Bool
  unfolding ratios
  is_zero_value p =
      quotient.lift_on (ratios R D) Bool-set p (λ x. R.is_zero x.num) (λ x y e. same_test x.num y.num (zero_same x y e) (zero_same y x (sym e)))

  pub is_zero_value-value : (x : Ratio R) → is_zero_value (value R D x) ≡ R.is_zero x.num
  unfolding is_zero_value value quotient.lift_on ratios
  is_zero_value-value x = refl

  pub is_zero_value-zero : is_zero_value (embed R D zero) ≡ true
  unfolding embed
  is_zero_value-zero = is_zero_value-value (whole R D zero) ∙ R.zero_true

  pub zero_of_test : (p : Fraction R D) → is_zero_value p ≡ true → p ≡ embed R D zero
  zero_of_test = by_values R D (λ p. is_zero_value p ≡ true → p ≡ embed R D zero) (λ p. Π_prop (λ e. fraction_set R D _ _))
      (λ x e. zero_num x (R.true_zero x.num (sym (is_zero_value-value x) ∙ e)))

  abbrev pub fraction_group : Group (Fraction R D)
  fraction_group = record {
    is_set = fraction_set R D;
    zero = embed R D zero;
    ◌+◌ = ◌⊞◌ R D;
    neg = negated R D;
    add_assoc = ⊞_assoc;
    add_comm = ⊞_comm;
    add_zero = ⊞-zero;
    add_neg = ⊞-negated;
    is_zero = is_zero_value;
    zero_true = is_zero_value-zero;
    true_zero = zero_of_test;
  }

  abbrev pub fractions : Ring (Fraction R D)
  fractions = record {
    group = fraction_group;
    one = embed R D one;
    ◌*◌ = ◌⊠◌ R D;
    mul_assoc = ⊠_assoc;
    mul_comm = ⊠_comm;
    mul_one = ⊠-one;
    mul_add = ⊠-⊞;
  }
