-- The proofs of specs/CertificateLaws: main lemmas `difference_cleared`, `operator_difference_cleared`,
-- `certificate_telescopes` and `certificate_telescopes_over_field`. The symbol passes d by the commutation rule, and what δ(d) leaves cancels; so H·E makes
-- h times a difference. The combination of the cofactors makes nothing of a vector that the generators kill, and h cancels.
-- An operator over the field is what it makes of one there.
use Rattle.std.specs.Prelude.{◌≡◌, ◌≢◌, refl, List, [], ◌∷◌, map}
use Rattle.std.specs.List.{All}
use Rattle.std.proofs.Common.{sym, ◌∙◌, ap, ap₂, subst}
use Rattle.std.proofs.lemmas.List.Elements.{All-head, All-tail}
use Rattle.ct_algebra.specs.Ring.{Ring}
use Rattle.ct_algebra.specs.Ore.{Ore, Module}
use Rattle.ct_algebra.specs.Monomial.{Mono, monomials, products, unit}
use Rattle.ct_algebra.specs.Names.{Name, symbols, power}
use Rattle.ct_algebra.specs.Polynomial.{Polynomial, polys, polys_domain, times, times_is}
use Rattle.ct_algebra.specs.Actions.{Action, Shift, Derive, Still, by_action, polynomials, sigma, delta, sigma_by, delta_by}
use Rattle.ct_algebra.specs.Operators.{Operator, term_of, sum_of_operators, negative, multiple, symbol_before, combination, apply, EachKills}
use Rattle.ct_algebra.specs.Operators.{product_of}
use Rattle.ct_algebra.specs.OreAlgebra.{◌∘◌}
use Rattle.ct_algebra.specs.FieldOperators.{FieldOperator, field_operator_set, field_operator_group, field_term, field_operators, over_field}
use Rattle.ct_algebra.specs.FieldLaws.{embedded}
use Rattle.ct_algebra.specs.Sums.{lift}
use Rattle.ct_algebra.specs.OreAlgebra.{act, one_term, op_scale-one_term}
use Rattle.ct_algebra.specs.Field.{field, coefficients, plain}
use Rattle.ct_algebra.specs.Restriction.{restricted_cancel, divided, scale-divided}
use Rattle.ct_algebra.specs.Certificate.{Summand, Certificate, difference_numerator, difference_denominator, differences, Certifies}
use Rattle.ct_algebra.specs.Telescoping.{difference, sum_of_differences, EachCleared, Telescopes, TelescopesUpTo, over_polynomials}
use Rattle.ct_algebra.specs.CertificateLaws.{DifferenceIsCleared, OperatorDifferenceIsCleared, CertificateTelescopes}
use Rattle.ct_algebra.specs.CertificateLaws.{CertificateTelescopesOverField}
use Rattle.ct_algebra.proofs.AppliedOperators.{apply-sum, apply-negative, apply-no_operator, apply-multiple, apply-symbol_before, apply-combination}
use Rattle.ct_algebra.proofs.ProductRule.{operator_module, power-one, product_of-one}
use Rattle.ct_algebra.proofs.ModuleLaws.{scale-zero_value, scale-zero, scale-neg, scale-scale}

-- ---- in any module, for a coefficient d and vectors v and r

module _ {A I V : Type 0} {R : Ring A} {E : Ore I R} (W : Module R E V) where
  open W.group use {◌+◌, neg}

  infixl 60 ◌+◌
  -- of a shift: v is what the symbol makes of r
  cleared_shift :
      (d e : A) (v r : V) →
      W.scale d (W.scale e v + W.scale R.zero r) + neg (W.scale e (W.scale d r)) ≡ W.scale (R.◌*◌ d e) (v + neg r)
  cleared_shift d e v r =
      ap₂ ◌+◌
      (ap (W.scale d) (ap (λ w. W.scale e v + w) (scale-zero_value W r) ∙ W.group.add_zero _) ∙ sym (W.scale_mul d e v))
      (ap neg (scale-scale W e d r ∙ sym (W.scale_mul d e r)) ∙ sym (scale-neg W (R.◌*◌ d e) r))
      ∙ sym (W.scale_sum (R.◌*◌ d e) v (neg r))

  -- of a derivation
  cleared_derivation :
      (d e : A) (v r : V) →
      W.scale d (W.scale d v + W.scale e r) + neg (W.scale e (W.scale d r)) ≡ W.scale (R.◌*◌ d d) v
  cleared_derivation d e v r =
      ap₂ ◌+◌ (W.scale_sum d _ _) (ap neg (scale-scale W e d r))
      ∙ W.group.add_assoc _ _ _ ∙ ap (λ w. W.scale d (W.scale d v) + w) (W.group.add_neg _)
      ∙ W.group.add_zero _ ∙ sym (W.scale_mul d d v)

-- ---- in a module over the polynomials

module _ (a : Name → Action) {V : Type 0} (W : Module polys (polynomials a) V) where
  open W.group use {◌+◌, neg}

  infixl 60 ◌+◌
  cleared_by :
      (t : Action) (i : Name) (d : Polynomial) (v r : V) →
      W.scale d (W.scale (sigma_by t i d) v + W.scale (delta_by t i d) r)
      + neg (W.scale (by_action t (sigma_by t i d) (delta_by t i d) polys.zero) (W.scale d r)) ≡
      W.scale (by_action t (times d (sigma_by t i d)) (times d d) (times d d)) (by_action t (v + neg r) v v)
  unfolding times
  cleared_by Shift i d v r = cleared_shift W d (sigma_by Shift i d) v r
  cleared_by Derive i d v r = cleared_derivation W d (delta_by Derive i d) v r
  cleared_by Still i d v r = cleared_derivation W d polys.zero v r

  apply-difference_numerator :
      (s : Summand) (v w : V) → W.scale s.denominator w ≡ apply a W s.numerator v →
      apply a W (difference_numerator a s) v ≡ W.scale (difference_denominator a s) (difference a W s.name w)
  apply-difference_numerator s v w exact =
      apply-sum a W _ _ v
      ∙ ap₂ ◌+◌
      (apply-multiple a W d _ v
      ∙ ap (W.scale d) (apply-symbol_before a W s.name s.numerator v ∙ ap (W.D s.name) (sym exact) ∙ W.D_scale s.name d w))
      (apply-negative a W _ v ∙ ap neg (apply-multiple a W passed s.numerator v ∙ ap (W.scale passed) (sym exact)))
      ∙ cleared_by (a s.name) s.name d (W.D s.name w) w
    where
      d : Polynomial
      d = s.denominator

      passed : Polynomial
      passed = by_action (a s.name) (sigma a s.name d) (delta a s.name d) polys.zero

  abbrev pub Divides : Polynomial → Summand → Type 0
  Divides h s = h ≡ times s.factor (difference_denominator a s)

  -- what the sum of all H·E makes is h times the sum of the differences
  pub apply-differences :
      (h : Polynomial) (v : V) (ss : List Summand) (ws : List V) → All (Divides h) ss →
      EachCleared a W (λ p. apply a W p v) ss ws → apply a W (differences a ss) v ≡ W.scale h (sum_of_differences a W ss ws)
  apply-differences h v [] [] divides exact = apply-no_operator a W v ∙ sym (scale-zero W h)
  apply-differences h v [] (w ∷ ws) divides exact = absurd exact
  apply-differences h v (s ∷ ss) [] divides exact = absurd exact
  apply-differences h v (s ∷ ss) (w ∷ ws) divides exact =
      apply-sum a W _ _ v
      ∙ ap₂ ◌+◌
      (apply-multiple a W s.factor _ v ∙ ap (W.scale s.factor) (apply-difference_numerator s v w exact.0)
      ∙ sym (W.scale_mul s.factor (difference_denominator a s) _)
      ∙ ap (λ c. W.scale c (difference a W s.name w)) (sym (All-head (Divides h) s ss divides ∙ times_is _ _)))
      (apply-differences h v ss ws (All-tail (Divides h) s ss divides) exact.1)
      ∙ sym (W.scale_sum h _ _)

pub difference_cleared : {V : Type 0} → DifferenceIsCleared V
difference_cleared a W s v w exact = apply-difference_numerator a W s v w exact

-- of operators, as what they make of one
pub operator_difference_cleared : OperatorDifferenceIsCleared
unfolding product_of ◌∘◌ apply multiple symbol_before sum_of_operators negative
operator_difference_cleared a s r exact =
    sym (product_of-one a (difference_numerator a s))
    ∙ difference_cleared a (operator_module a) s (term_of unit polys.one) r (sym exact ∙ sym (product_of-one a s.numerator))

-- ---- in a module over the field

module _ (a : Name → Action) {V : Type 0} (F : Module field (coefficients a) V) (v : V) where
  abbrev W : Module polys (polynomials a) V
  W = over_polynomials a F

  abbrev made : Operator → V
  made p = apply a W p v

  cancels : (d : Polynomial) → d ≢ polys.zero → (w u : V) → W.scale d w ≡ W.scale d u → w ≡ u
  cancels = restricted_cancel polys polys_domain (polynomials a) (plain a) F

  abbrev Nonzero : Summand → Type 0
  Nonzero s = s.denominator ≢ polys.zero

  abbrev quotient : Summand → V
  quotient s = divided polys polys_domain (polynomials a) (plain a) F s.denominator (made s.numerator)

  multiple_quotient : (s : Summand) → Nonzero s → W.scale s.denominator (quotient s) ≡ made s.numerator
  multiple_quotient s nonzero = scale-divided polys polys_domain (polynomials a) (plain a) F s.denominator nonzero _

  each_cleared : (ss : List Summand) → All Nonzero ss → EachCleared a W made ss (map quotient ss)
  each_cleared [] nonzero = tt
  each_cleared (s ∷ ss) nonzero = (multiple_quotient s (All-head Nonzero s ss nonzero), each_cleared ss (All-tail Nonzero s ss nonzero))

  cleared_once :
      (ss : List Summand) (ws us : List V) → All Nonzero ss → EachCleared a W made ss ws → EachCleared a W made ss us → ws ≡ us
  cleared_once [] [] [] nonzero first second = refl
  cleared_once [] (w ∷ ws) us nonzero first second = absurd first
  cleared_once [] [] (u ∷ us) nonzero first second = absurd second
  cleared_once (s ∷ ss) [] us nonzero first second = absurd first
  cleared_once (s ∷ ss) (w ∷ ws) [] nonzero first second = absurd second
  cleared_once (s ∷ ss) (w ∷ ws) (u ∷ us) nonzero first second =
      ap₂ ◌∷◌ (cancels s.denominator (All-head Nonzero s ss nonzero) w u (first.0 ∙ sym second.0))
      (cleared_once ss ws us (All-tail Nonzero s ss nonzero) first.1 second.1)

  telescoped_up_to :
      (summed : List Name) (generators : List Operator) (c : Certificate) → Certifies a summed generators c →
      TelescopesUpTo a W made generators c
  telescoped_up_to summed generators c shown = record {
    quotients = map quotient c.summands;
    are_quotients = record { cleared = cleared; no_others = λ us others. cleared_once c.summands us _ shown.denominators_nonzero others cleared };
    telescopes =
        sym (apply-multiple a W c.scale c.telescoper v) ∙ ap made shown.relation.identity ∙ apply-sum a W _ _ v
        ∙ ap (λ w. W.group.◌+◌ w (made (combination a c.cofactors generators)))
        (apply-differences a W c.scale v c.summands _ shown.relation.divides cleared);
  }
    where
      cleared : EachCleared a W made c.summands (map quotient c.summands)
      cleared = each_cleared c.summands shown.denominators_nonzero

  telescoped :
      (summed : List Name) (generators : List Operator) (c : Certificate) → EachKills a W generators v →
      Certifies a summed generators c → Telescopes a W made c
  telescoped summed generators c killed shown =
      let up_to = telescoped_up_to summed generators c shown in record {
        quotients = up_to.quotients;
        are_quotients = up_to.are_quotients;
        telescopes = cancels c.scale shown.relation.scale_nonzero _ _
            (up_to.telescopes ∙ ap (W.group.◌+◌ _) (apply-combination a W c.cofactors generators v killed) ∙ W.group.add_zero _);
      }

pub certificate_telescopes : {V : Type 0} → CertificateTelescopes V
certificate_telescopes a W summed generators c v killed shown = telescoped a W v summed generators c killed shown

-- ---- as operators over the field

module _ (a : Name → Action) where
  abbrev F : Module field (coefficients a) FieldOperator
  F = field_operators a

  term_over_field :
      (m : Mono) (c : Polynomial) →
      field_term m (embedded c) ≡ (over_polynomials a F).scale c (power (over_polynomials a F).D m (field_term unit field.one))
  unfolding one_term
  term_over_field m c =
      ap (field_term m) (sym (field.mul_one (embedded c)))
      ∙ sym (op_scale-one_term monomials products field (coefficients a) symbols field_operator_set (embedded c) m field.one)
      ∙ ap (F.scale (embedded c)) (sym (power-one monomials products field (coefficients a) symbols field_operator_set m))

  -- over the field an operator is what it makes of the operator one
  over_field-is : (p : Operator) → over_field p ≡ apply a (over_polynomials a F) p (field_term unit field.one)
  unfolding apply act
  over_field-is p = ap (λ f. lift monomials polys.group field_operator_group f p) (λ i m c. term_over_field m c i)

pub certificate_telescopes_over_field : CertificateTelescopesOverField
certificate_telescopes_over_field a summed generators c shown =
    subst (λ made. TelescopesUpTo a (over_polynomials a (field_operators a)) made generators c) (λ i p. sym (over_field-is a p) i)
    (telescoped_up_to a (field_operators a) (field_term unit field.one) summed generators c shown)
