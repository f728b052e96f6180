-- σ and δ of the field where the action of a name is known: σ is the identity unless it is a shift, and δ is zero unless it is a derivation.
use Rattle.ct_module.proofs.Base.{◌≡◌, sym, ◌∙◌, ap, ap₂, Polynomial, polys, polys_domain, Name, K, field, coefficients}
use Rattle.ct_algebra.specs.Actions.{Action, Shift, Derive, Still, polynomials, sigma_by, delta_by}
use Rattle.ct_algebra.specs.Field.{plain}
use Rattle.ct_algebra.specs.FractionOre.{σ_value-value, δ_value-value, sigma_of, delta_of}
use Rattle.ct_algebra.specs.FractionRing.{zero_num}
use Rattle.ct_algebra.specs.Fractions.{Ratio, fraction_set, same_maps, same_value}
use Rattle.ct_algebra.specs.Group.{neg_zero}
use Rattle.ct_algebra.specs.Ring.{mul_zero, zero_mul}

module _ (a : Name → Action) (i : Name) where
  σ-same : ((p : Polynomial) → (polynomials a).σ i p ≡ p) → (x : K) → (coefficients a).σ i x ≡ x
  σ-same same =
      same_maps polys polys_domain (fraction_set polys polys_domain) ((coefficients a).σ i) (λ x. x) (λ x.
      σ_value-value polys polys_domain (polynomials a) (plain a) i x
      ∙ same_value polys polys_domain (sigma_of polys polys_domain (polynomials a) (plain a) i x) x
      (ap₂ polys.◌*◌ (same x.num) (sym (same x.den))))

  δ-none : ((p : Polynomial) → (polynomials a).δ i p ≡ polys.zero) → (x : K) → (coefficients a).δ i x ≡ field.zero
  δ-none none =
      same_maps polys polys_domain (fraction_set polys polys_domain) ((coefficients a).δ i) (λ x. field.zero) (λ x.
      δ_value-value polys polys_domain (polynomials a) (plain a) i x
      ∙ zero_num polys polys_domain (delta_of polys polys_domain (polynomials a) (plain a) i x)
      (ap₂ (λ u v. polys.◌+◌ (polys.◌*◌ u ((polynomials a).σ i x.den)) (polys.neg (polys.◌*◌ ((polynomials a).σ i x.num) v)))
      (none x.num) (none x.den)
      ∙ ap₂ (λ u v. polys.◌+◌ u (polys.neg v)) (zero_mul polys _) (mul_zero polys _)
      ∙ ap (polys.◌+◌ polys.zero) (neg_zero polys.group) ∙ polys.add_zero polys.zero))

  pub σ-derive : a i ≡ Derive → (x : K) → (coefficients a).σ i x ≡ x
  σ-derive is = σ-same (λ p. ap (λ t. sigma_by t i p) is)

  pub σ-still : a i ≡ Still → (x : K) → (coefficients a).σ i x ≡ x
  σ-still is = σ-same (λ p. ap (λ t. sigma_by t i p) is)

  pub δ-shift : a i ≡ Shift → (x : K) → (coefficients a).δ i x ≡ field.zero
  δ-shift is = δ-none (λ p. ap (λ t. delta_by t i p) is)

  pub δ-still : a i ≡ Still → (x : K) → (coefficients a).δ i x ≡ field.zero
  δ-still is = δ-none (λ p. ap (λ t. delta_by t i p) is)
