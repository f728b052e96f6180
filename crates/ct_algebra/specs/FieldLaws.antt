-- What the laws of the field of fractions say; the functions of src/laws.rt prove them.
--     FieldIsARing                the laws of a commutative ring with one ≠ zero and without zero divisors
--     FieldHasInverses            a nonzero value times its inverse is one
--     FieldIsFractions            each value is one of a ratio; two are equal exactly where the cross products are; the
--                                 value of a ratio times its denominator is its numerator
--     FieldExtendsPolynomials     embedding keeps sums, products, σ and δ, and loses nothing
--     SymbolsRespectTheField      σ keeps sums and products; δ keeps sums and has the product rule
-- So the field is the least one in which the polynomials are, and σ and δ on it are known from those of polynomials
-- (`field_sigma_only`, `field_delta_only` of Determined).
use Rattle.std.specs.Prelude.{◌≡◌, ◌≢◌, ◌⊎◌}
use Rattle.ct_algebra.specs.Names.{Name}
use Rattle.ct_algebra.specs.Polynomial.{Polynomial, polys, polys_domain, plus, times}
use Rattle.ct_algebra.specs.Actions.{Action, sigma, delta}
use Rattle.ct_algebra.specs.Fractions.{Ratio, value, embed}
use Rattle.ct_algebra.specs.Division.{inverse}
use Rattle.ct_algebra.specs.Field.{K, field, coefficients}

-- a polynomial as a value of the field
abbrev pub embedded : Polynomial → K
embedded p = embed polys polys_domain p

-- the value of a ratio of polynomials
abbrev pub value_of : Ratio polys → K
value_of x = value polys polys_domain x

pub record FieldIsARing : Type 0 where
  pub sum_is_associative : (x y z : K) → field.◌+◌ (field.◌+◌ x y) z ≡ field.◌+◌ x (field.◌+◌ y z)
  pub sum_is_commutative : (x y : K) → field.◌+◌ x y ≡ field.◌+◌ y x
  pub sum_with_zero : (x : K) → field.◌+◌ x field.zero ≡ x
  pub sum_with_negative : (x : K) → field.◌+◌ x (field.neg x) ≡ field.zero
  pub product_is_associative : (x y z : K) → field.◌*◌ (field.◌*◌ x y) z ≡ field.◌*◌ x (field.◌*◌ y z)
  pub product_is_commutative : (x y : K) → field.◌*◌ x y ≡ field.◌*◌ y x
  pub product_with_one : (x : K) → field.◌*◌ x field.one ≡ x
  pub product_distributes :
      (x y z : K) → field.◌*◌ x (field.◌+◌ y z) ≡ field.◌+◌ (field.◌*◌ x y) (field.◌*◌ x z)
  pub one_is_not_zero : field.one ≢ field.zero
  pub no_zero_divisors : (x y : K) → field.◌*◌ x y ≡ field.zero → (x ≡ field.zero) ⊎ (y ≡ field.zero)

pub record FieldExtendsPolynomials : Type 0 where
  pub sums : (p q : Polynomial) → embedded (plus p q) ≡ field.◌+◌ (embedded p) (embedded q)
  pub products : (p q : Polynomial) → embedded (times p q) ≡ field.◌*◌ (embedded p) (embedded q)
  pub sigmas :
      (a : Name → Action) (i : Name) (p : Polynomial) → embedded (sigma a i p) ≡ (coefficients a).σ i (embedded p)
  pub deltas :
      (a : Name → Action) (i : Name) (p : Polynomial) → embedded (delta a i p) ≡ (coefficients a).δ i (embedded p)
  pub injective : (p q : Polynomial) → embedded p ≡ embedded q → p ≡ q

abbrev pub FieldHasInverses : Type 0
FieldHasInverses = (x : K) → x ≢ field.zero → field.◌*◌ x (inverse polys polys_domain x) ≡ field.one

pub record FieldIsFractions : Type 0 where
  pub equal : (x y : Ratio polys) → times x.num y.den ≡ times y.num x.den → value_of x ≡ value_of y
  pub equal_only : (x y : Ratio polys) → value_of x ≡ value_of y → times x.num y.den ≡ times y.num x.den
  pub no_others : (z : K) → ((x : Ratio polys) → value_of x ≢ z) → ⊥
  pub quotient : (x : Ratio polys) → field.◌*◌ (value_of x) (embedded x.den) ≡ embedded x.num

pub record SymbolsRespectTheField : Type 0 where
  pub sigma_of_sums :
      (a : Name → Action) (i : Name) (x y : K) →
      (coefficients a).σ i (field.◌+◌ x y) ≡ field.◌+◌ ((coefficients a).σ i x) ((coefficients a).σ i y)
  pub sigma_of_products :
      (a : Name → Action) (i : Name) (x y : K) →
      (coefficients a).σ i (field.◌*◌ x y) ≡ field.◌*◌ ((coefficients a).σ i x) ((coefficients a).σ i y)
  pub delta_of_sums :
      (a : Name → Action) (i : Name) (x y : K) →
      (coefficients a).δ i (field.◌+◌ x y) ≡ field.◌+◌ ((coefficients a).δ i x) ((coefficients a).δ i y)
  pub delta_of_products :
      (a : Name → Action) (i : Name) (x y : K) →
      (coefficients a).δ i (field.◌*◌ x y) ≡
      field.◌+◌ (field.◌*◌ ((coefficients a).σ i x) ((coefficients a).δ i y)) (field.◌*◌ ((coefficients a).δ i x) y)
