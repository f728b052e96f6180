-- That the laws say all of an operation: any other that meets them is the same. A function of src/laws.rt proves it.
--     times_only         a product of polynomials that distributes and multiplies terms is `times`
--     sigma_only         a map of rings that moves one name by one and no other is σ of a shift
--     delta_only         a derivation that is one at its name and zero at the others is δ of a derivation
--     product_only       a product of operators that follows the rule, is associative and distributes is `product_of`
--     made_only          a map by which operators make polynomials of polynomials, with sums, products, polynomials, shifts and
--                        derivations as `made_of` has them, is `made_of` of operators over the actions
--     field_sigma_only   a map of the field that keeps products and is σ on polynomials is σ
--     field_delta_only   a map of the field with the product rule that is δ on polynomials is δ
use Rattle.std.specs.Prelude.{◌≡◌, ◌≢◌, ℤ, pos, ◌*ℤ◌}
use Rattle.ct_algebra.specs.Monomial.{Mono, ◌·◌, unit}
use Rattle.ct_algebra.specs.Names.{Name, symbol}
use Rattle.ct_algebra.specs.Polynomial.{Polynomial, polys, plus, times}
use Rattle.ct_algebra.specs.Substitution.{term, number, name}
use Rattle.ct_algebra.specs.Actions.{Action, Shift, Derive, sigma, delta}
use Rattle.ct_algebra.specs.Operators.{Operator, term_of, sum_of_operators, product_of, symbol_before, multiple}
use Rattle.ct_algebra.specs.OnPolynomials.{made_of}
use Rattle.ct_algebra.specs.FreeOf.{IsOver}
use Rattle.ct_algebra.specs.Field.{K, field, coefficients}
use Rattle.ct_algebra.specs.FieldLaws.{embedded}

pub record OperationsAreDetermined : Type 0 where
  pub times_only :
      (other : Polynomial → Polynomial → Polynomial) →
      ((p q r : Polynomial) → other (plus p q) r ≡ plus (other p r) (other q r)) →
      ((p q r : Polynomial) → other p (plus q r) ≡ plus (other p q) (other p r)) →
      ((m n : Mono) (c d : ℤ) → other (term m c) (term n d) ≡ term (m · n) (c *ℤ d)) →
      (p q : Polynomial) → other p q ≡ times p q
  pub sigma_only :
      (a : Name → Action) (i : Name) (other : Polynomial → Polynomial) → a i ≡ Shift →
      ((p q : Polynomial) → other (plus p q) ≡ plus (other p) (other q)) →
      ((p q : Polynomial) → other (times p q) ≡ times (other p) (other q)) →
      ((c : ℤ) → other (number c) ≡ number c) →
      other (name i) ≡ plus (name i) (number (pos 1)) →
      ((j : Name) → i ≢ j → other (name j) ≡ name j) →
      (p : Polynomial) → other p ≡ sigma a i p
  pub delta_only :
      (a : Name → Action) (i : Name) (other : Polynomial → Polynomial) → a i ≡ Derive →
      ((p q : Polynomial) → other (plus p q) ≡ plus (other p) (other q)) →
      ((p q : Polynomial) → other (times p q) ≡ plus (times p (other q)) (times (other p) q)) →
      ((c : ℤ) → other (number c) ≡ polys.zero) →
      other (name i) ≡ polys.one →
      ((j : Name) → i ≢ j → other (name j) ≡ polys.zero) →
      (p : Polynomial) → other p ≡ delta a i p
  pub product_only :
      (a : Name → Action) (other : Operator → Operator → Operator) →
      ((p q r : Operator) → other (sum_of_operators p q) r ≡ sum_of_operators (other p r) (other q r)) →
      ((p q r : Operator) → other (other p q) r ≡ other p (other q r)) →
      ((c : Polynomial) (p : Operator) → other (term_of unit c) p ≡ multiple a c p) →
      ((i : Name) (p : Operator) → other (term_of (symbol i) polys.one) p ≡ symbol_before a i p) →
      (p q : Operator) → other p q ≡ product_of a p q
  pub made_only :
      (a : Name → Action) (other : Operator → Polynomial → Polynomial) →
      ((p q : Operator) (f : Polynomial) → other (sum_of_operators p q) f ≡ plus (other p f) (other q f)) →
      ((p q : Operator) (f : Polynomial) → other (product_of a p q) f ≡ other p (other q f)) →
      ((c f : Polynomial) → other (term_of unit c) f ≡ times c f) →
      ((i : Name) (f : Polynomial) → a i ≡ Shift → other (term_of (symbol i) polys.one) f ≡ sigma a i f) →
      ((i : Name) (f : Polynomial) → a i ≡ Derive → other (term_of (symbol i) polys.one) f ≡ delta a i f) →
      (p : Operator) → IsOver a p → (f : Polynomial) → other p f ≡ made_of a p f
  pub field_sigma_only :
      (a : Name → Action) (i : Name) (other : K → K) →
      ((x y : K) → other (field.◌*◌ x y) ≡ field.◌*◌ (other x) (other y)) →
      ((p : Polynomial) → other (embedded p) ≡ embedded (sigma a i p)) →
      (x : K) → other x ≡ (coefficients a).σ i x
  pub field_delta_only :
      (a : Name → Action) (i : Name) (other : K → K) →
      ((x y : K) → other (field.◌*◌ x y) ≡ field.◌+◌ (field.◌*◌ ((coefficients a).σ i x) (other y)) (field.◌*◌ (other x) y)) →
      ((p : Polynomial) → other (embedded p) ≡ embedded (delta a i p)) →
      (x : K) → other x ≡ (coefficients a).δ i x
