-- Names without operator in the module of a staircase. Main lemma `commute_of_tests`: where their rows are zero, and the
-- tests of the other names hold, all symbols commute on the rows.
-- δ of such a name is zero on the field, so with zero rows its symbol makes zero of each vector.
use Rattle.ct_telescoping.proofs.Base.{◌≡◌, ℕ, ◌<◌, sym, ◌∙◌, ap, ap₂, refl, neg_zero, mul_zero, zero_mul, σ_zero, δ_zero, Name, place, Polynomial}
use Rattle.ct_telescoping.proofs.Base.{polys, polys_domain, Action, Shift, Derive, Still, polynomials, delta_by, fraction_set, same_maps, K, field}
use Rattle.ct_telescoping.proofs.Base.{coefficients, plain}
use Rattle.ct_telescoping.specs.Laws.SumsBelow.{sum_below-zero}
use Rattle.ct_algebra.specs.FractionRing.{zero_num}
use Rattle.ct_algebra.specs.FractionOre.{δ_value-value, delta_of}
use Rattle.ct_telescoping.specs.RowAction.{action}
use Rattle.ct_telescoping.specs.Laws.ActionLaws.{action-same}
use Rattle.ct_telescoping.specs.StaircaseModule.{Rows, RowsCommute}
use Rattle.ct_telescoping.specs.Tested.{PassesTests}
use Rattle.ct_telescoping.proofs.PairsCommute.{RowsCommute-pairs}

module _ (a : Name → Action) where
  δ-still : (i : Name) → a i ≡ Still → (x : K) → (coefficients a).δ i x ≡ field.zero
  δ-still i still =
      same_maps polys polys_domain (fraction_set polys polys_domain) ((coefficients a).δ i) (λ x. field.zero)
      (λ x. δ_value-value polys polys_domain (polynomials a) (plain a) i x
      ∙ zero_num polys polys_domain (delta_of polys polys_domain (polynomials a) (plain a) i x)
      (ap₂ (λ u v. polys.◌+◌ (polys.◌*◌ u ((polynomials a).σ i x.den))
      (polys.neg (polys.◌*◌ ((polynomials a).σ i x.num) v))) (none x.num) (none x.den)
      ∙ ap₂ (λ u v. polys.◌+◌ u (polys.neg v)) (zero_mul polys _) (mul_zero polys _)
      ∙ ap (polys.◌+◌ polys.zero) (neg_zero polys.group) ∙ polys.add_zero polys.zero))
    where
      none : (p : Polynomial) → (polynomials a).δ i p ≡ polys.zero
      none p = ap (λ t. delta_by t i p) still

  module _ (d : ℕ) (M : Rows) where
    abbrev act_at : Name → (ℕ → K) → ℕ → K
    act_at = action field (coefficients a) d M

    action-zero : (i : Name) (c : ℕ) → c < d → act_at i (λ b. field.zero) c ≡ field.zero
    action-zero i c within =
        ap₂ field.◌+◌
        (sum_below-zero field.group d _ (λ b l. ap (λ u. field.◌*◌ u (M i b c)) (σ_zero (coefficients a) i) ∙ zero_mul field _))
        (δ_zero (coefficients a) i)
        ∙ field.add_zero field.zero

    action-still :
        (i : Name) → a i ≡ Still → ((b c : ℕ) → b < d → c < d → M i b c ≡ field.zero) →
        (x : ℕ → K) (c : ℕ) → c < d → act_at i x c ≡ field.zero
    action-still i still none x c within =
        ap₂ field.◌+◌
        (sum_below-zero field.group d _ (λ b l. ap (field.◌*◌ ((coefficients a).σ i (x b))) (none b c l within) ∙ mul_zero field _))
        (δ-still i still (x c))
        ∙ field.add_zero field.zero

    -- a name with operator, or without
    abbrev pub IsStill : Name → Type 0
    IsStill i = Dec (a i ≡ Still)

    pub is_still : (i : Name) → IsStill i
    is_still i = by (a i) refl
      where
        by : (t : Action) → a i ≡ t → IsStill i
        by Shift e = no (λ same. clash (sym e ∙ same))
          where
            clash : Shift ≡ Still → ⊥
            clash f = cc
        by Derive e = no (λ same. clash (sym e ∙ same))
          where
            clash : Derive ≡ Still → ⊥
            clash f = cc
        by Still e = yes e

    pub commute_of_tests :
        ((i : Name) → a i ≡ Still → (b c : ℕ) → b < d → c < d → M i b c ≡ field.zero) → PassesTests a d M →
        RowsCommute a d M
    commute_of_tests none tests =
        RowsCommute-pairs a d M (λ i j less b below c within. by i j less b below c within (is_still i) (is_still j))
      where
        -- a still name's row, acted on by any name, and any row, acted on by a still name
        of_still : (i j : Name) → a i ≡ Still → (b : ℕ) → b < d → (c : ℕ) → c < d → act_at j (M i b) c ≡ act_at i (M j b) c
        of_still i j still b below c within =
            action-same field (coefficients a) d M j (M i b) (λ k. field.zero) c within (λ k l. none i still b k below l)
            ∙ action-zero j c within ∙ sym (action-still i still (none i still) (M j b) c within)

        by : (i j : Name) → place i < place j → (b : ℕ) → b < d → (c : ℕ) → c < d → IsStill i → IsStill j →
            act_at j (M i b) c ≡ act_at i (M j b) c
        by i j less b below c within (yes still) other = of_still i j still b below c within
        by i j less b below c within (no acts) (yes still) = sym (of_still j i still b below c within)
        by i j less b below c within (no acts) (no also) = tests i j acts also less b below c within
