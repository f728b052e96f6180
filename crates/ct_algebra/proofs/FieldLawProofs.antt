-- The proofs of specs/FieldLaws. That no value is missed is the induction on values of a quotient.
use Rattle.std.specs.Prelude.{◌≡◌, refl}
use Rattle.std.proofs.Common.{sym, ◌∙◌, ap}
use mathlib.Core.HLevel.{Π_prop, ⊥_prop}
use Rattle.ct_algebra.specs.RingTactic.{reify, ring2}
use Rattle.ct_algebra.specs.Polynomial.{polys, polys_domain, plus_is, times_is, times}
use Rattle.ct_algebra.specs.Actions.{polynomials}
use Rattle.ct_algebra.specs.Fractions.{Ratio, same_value, value_same, by_values, whole, embed_is, value-product, ratio_product}
use Rattle.ct_algebra.specs.Division.{embed-sum, embed-product, embed_injective, mul-inverse, fractions_domain}
use Rattle.ct_algebra.specs.FractionOre.{embed-σ, embed-δ}
use Rattle.ct_algebra.specs.Field.{field, plain, coefficients}
use Rattle.ct_algebra.specs.FieldLaws.{FieldIsARing, FieldExtendsPolynomials, FieldHasInverses, FieldIsFractions, SymbolsRespectTheField, embedded}
use Rattle.ct_algebra.specs.FieldLaws.{value_of}

pub ring : FieldIsARing
ring = record {
  sum_is_associative = field.add_assoc;
  sum_is_commutative = field.add_comm;
  sum_with_zero = field.add_zero;
  sum_with_negative = field.add_neg;
  product_is_associative = field.mul_assoc;
  product_is_commutative = field.mul_comm;
  product_with_one = field.mul_one;
  product_distributes = field.mul_add;
  one_is_not_zero = (fractions_domain polys polys_domain).proper;
  no_zero_divisors = (fractions_domain polys polys_domain).no_divisors;
}

pub extends : FieldExtendsPolynomials
extends = record {
  sums = λ p q. ap embedded (plus_is p q) ∙ embed-sum polys polys_domain p q;
  products = λ p q. ap embedded (times_is p q) ∙ embed-product polys polys_domain p q;
  sigmas = λ a i p. sym (embed-σ polys polys_domain (polynomials a) (plain a) i p);
  deltas = λ a i p. sym (embed-δ polys polys_domain (polynomials a) (plain a) i p);
  injective = λ p q same. embed_injective polys polys_domain p q same;
}

pub inverses : FieldHasInverses
inverses x nonzero = mul-inverse polys polys_domain x nonzero

value-times_den : (x : Ratio polys) → field.◌*◌ (value_of x) (embedded x.den) ≡ embedded x.num
value-times_den x =
    ap (field.◌*◌ (value_of x)) (embed_is polys polys_domain x.den)
    ∙ value-product polys polys_domain x (whole polys polys_domain x.den)
    ∙ same_value polys polys_domain (ratio_product polys polys_domain x (whole polys polys_domain x.den)) (whole polys polys_domain x.num)
    (ring2 polys x.num x.den (λ num den. (search reify depth 12, search reify depth 12)) refl)
    ∙ sym (embed_is polys polys_domain x.num)

pub fractions : FieldIsFractions
unfolding times
fractions = record {
  equal = same_value polys polys_domain;
  equal_only = value_same polys polys_domain;
  no_others = λ z missed.
      by_values polys polys_domain (λ w. w ≡ z → ⊥) (λ w. Π_prop (λ same. ⊥_prop)) missed z refl;
  quotient = value-times_den;
}

pub respect_the_field : SymbolsRespectTheField
respect_the_field = record {
  sigma_of_sums = λ a i x y. (coefficients a).σ_add i x y;
  sigma_of_products = λ a i x y. (coefficients a).σ_mul i x y;
  delta_of_sums = λ a i x y. (coefficients a).δ_add i x y;
  delta_of_products = λ a i x y. (coefficients a).δ_mul i x y;
}
