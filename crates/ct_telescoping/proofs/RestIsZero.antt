-- An operator on the staircase that makes zero of the start is zero: main lemma `rest_is_zero`.
-- It is the sum of its terms at the elements, each of which makes a multiple of its unit vector. So membership is decided
-- by what an operator makes of the start: `zero_of_member` and `rest_of_zero`.
use Rattle.ct_telescoping.proofs.Base.{◌≡◌, ℕ, ◌<◌, List, cond, eqb, sym, ◌∙◌, ap, refl, eq-eqb, ne_eqb, IsHom, zero_add, mul_zero, sum_below}
use Rattle.ct_telescoping.proofs.Base.{sum_below-same, hom-sum_below, EachTerm-weaker, at, at-⊕, at-single, single, same_hom_at, Module, Mono}
use Rattle.ct_telescoping.proofs.Base.{monomials, Name, Polynomial, polys, polys_domain, Action, polynomials, Operator, operator_set, operator_group}
use Rattle.ct_telescoping.proofs.Base.{no_operator, term_of, sum_of_operators, apply, Kills, EachKills, embed, embed_injective, K, field, plain}
use Rattle.ct_telescoping.proofs.Base.{restricted_cancel, pick-other, pick-same, term_of-zero, term_of-sum, term_of-single, apply-sum, apply_hom}
use Rattle.ct_telescoping.proofs.Base.{apply-multiple, apply-term_of, apply-combination, scale-zero}
use Rattle.ct_telescoping.specs.Laws.SumsBelow.{sum_below-zero, sum_below-sum, sum_below-one}
use Rattle.ct_algebra.specs.Membership.{Reduction, IsMember, ReducesTo}
use Rattle.ct_telescoping.specs.Vector.{Vector, entry, entry-plus_vector, entry-zero_vector, entry-unit_vector, vector_group}
use Rattle.ct_telescoping.specs.VectorModule.{entry-scale_vector}
use Rattle.ct_telescoping.specs.StaircaseModule.{Rows, RowsCommute, over_field, staircase_module, start}
use Rattle.ct_telescoping.specs.Staircase.{GrowsFromOne, StartsUnits, IsElement, IsAmong}
use Rattle.ct_telescoping.proofs.StaircaseUnits.{power-start}

module _ (d : ℕ) (element : ℕ → Mono) (h : GrowsFromOne d element) where
  -- the terms of an operator at the elements
  abbrev at_elements : Operator → Operator
  at_elements p = sum_below operator_group d (λ k. term_of (element k) (at monomials polys.group p (element k)))

  at_elements_hom : IsHom operator_group operator_group at_elements
  unfolding sum_of_operators
  at_elements_hom = record {
    sums = λ p q.
        sum_below-same operator_group d _ _ (λ k l. ap (term_of (element k))
        (at-⊕ monomials polys.group p q (element k)) ∙ term_of-sum (element k) _ _)
        ∙ sum_below-sum operator_group d (λ k. term_of (element k) (at monomials polys.group p (element k)))
        (λ k. term_of (element k) (at monomials polys.group q (element k)));
  }

  at_elements-single :
      (m : Mono) (c : Polynomial) → IsElement d element m →
      at_elements (single monomials polys.group m c) ≡ single monomials polys.group m c
  unfolding no_operator
  at_elements-single m c e =
      sum_below-one operator_group d e.place (λ k. term_of (element k)
      (at monomials polys.group (single monomials polys.group m c) (element k))) e.in_range
      (λ k l ne. ap (term_of (element k)) (at-single monomials polys.group m (element k) c
      ∙ pick-other (element k) m c (λ q. ne (h.distinct k e.place l e.in_range (sym q ∙ e.is)))) ∙ term_of-zero (element k))
      ∙ ap (term_of (element e.place)) (at-single monomials polys.group m (element e.place) c ∙ pick-same (element e.place) m c e.is)
      ∙ ap (λ k. term_of k c) (sym e.is) ∙ term_of-single m c

  pub at_elements-is : (p : Operator) → IsAmong d element p → at_elements p ≡ p
  at_elements-is p on =
      same_hom_at monomials polys.group operator_set operator_group at_elements (λ q. q) at_elements_hom (record { sums = λ q r. refl }) p
      (EachTerm-weaker at_elements-single p.terms on)

module _ (a : Name → Action) (d : ℕ) (M : Rows) (commutes : RowsCommute a d M) (element : ℕ → Mono)
    (h : GrowsFromOne d element) (units : StartsUnits d element M) where
  abbrev W : Module polys (polynomials a) (Vector K d)
  W = staircase_module a d M commutes

  entry_hom : (j : ℕ) → j < d → IsHom (vector_group field.group d) field.group (λ v. entry field.group d v j)
  entry_hom j l = record { sums = λ v w. entry-plus_vector field.group d v w j l }

  -- the entry at an element of what an operator makes of the start
  entry-apply : (p : Operator) → IsAmong d element p → (j : ℕ) → j < d
      → entry field.group d (apply a W p (start a d M commutes)) j ≡ embed polys polys_domain (at monomials polys.group p (element j))
  entry-apply p on j l =
      ap (λ q. entry field.group d (apply a W q (start a d M commutes)) j) (sym (at_elements-is d element h p on))
      ∙ ap (λ v. entry field.group d v j) (hom-sum_below (apply_hom a W (start a d M commutes)) d
      (λ k. term_of (element k) (at monomials polys.group p (element k))))
      ∙ hom-sum_below (entry_hom j l) d (λ k. apply a W (term_of (element k) (at monomials polys.group p (element k))) (start a d M commutes))
      ∙ sum_below-same field.group d _ _ (λ k q. one_term k q)
      ∙ sum_below-one field.group d j (λ k. field.◌*◌ (value k) (cond (eqb j k) field.one field.zero)) l
      (λ k q ne. ap (λ t. field.◌*◌ (value k) (cond t field.one field.zero)) (ne_eqb j k (λ e. ne (sym e))) ∙ mul_zero field _)
      ∙ ap (λ t. field.◌*◌ (value j) (cond t field.one field.zero)) (eq-eqb j j refl)
      ∙ field.mul_one (value j)
    where
      value : ℕ → K
      value k = embed polys polys_domain (at monomials polys.group p (element k))

      one_term : (k : ℕ) → k < d
          → entry field.group d (apply a W (term_of (element k) (at monomials polys.group p (element k))) (start a d M commutes)) j
          ≡ field.◌*◌ (value k) (cond (eqb j k) field.one field.zero)
      one_term k q =
          ap (λ v. entry field.group d v j) (apply-term_of a W (element k) _ _ ∙ ap (W.scale _) (power-start a d M commutes element h units k q))
          ∙ entry-scale_vector field d (value k) _ j l
          ∙ ap (field.◌*◌ (value k)) (entry-unit_vector field d k j l)

  pub rest_is_zero :
      (rest : Operator) → IsAmong d element rest → Kills a W rest (start a d M commutes) → rest ≡ no_operator
  unfolding no_operator
  rest_is_zero rest on kills =
      sym (at_elements-is d element h rest on)
      ∙ sum_below-zero operator_group d _ (λ k l. ap (term_of (element k)) (none k l) ∙ term_of-zero (element k))
    where
      none : (k : ℕ) → k < d → at monomials polys.group rest (element k) ≡ polys.zero
      none k l =
          embed_injective polys polys_domain _ _ (sym (entry-apply rest on k l) ∙ ap
          (λ v. entry field.group d v k) kills ∙ entry-zero_vector field.group d k l)

  pub rest_of_zero :
      (generators : List Operator) (p : Operator) (r : Reduction) → EachKills a W generators (start a d M commutes) →
      ReducesTo a generators p r → IsAmong d element r.rest → Kills a W p (start a d M commutes) → r.rest ≡ no_operator
  rest_of_zero generators p r kills reduction among zero =
      rest_is_zero r.rest among
      (sym (zero_add W.group _)
      ∙ ap (λ v. W.group.◌+◌ v (apply a W r.rest (start a d M commutes))) (sym (apply-combination a W r.cofactors generators _ kills))
      ∙ sym (apply-sum a W _ r.rest _)
      ∙ sym (ap (λ q. apply a W q (start a d M commutes)) reduction.identity)
      ∙ apply-multiple a W r.scale p _ ∙ ap (W.scale r.scale) zero ∙ scale-zero W r.scale)

-- ---- membership

module _ (a : Name → Action) (d : ℕ) (M : Rows) (commutes : RowsCommute a d M) where
  pub zero_of_member :
      (generators : List Operator) (p : Operator) → IsMember a generators p →
      EachKills a (staircase_module a d M commutes) generators (start a d M commutes) →
      Kills a (staircase_module a d M commutes) p (start a d M commutes)
  zero_of_member generators p member kills =
      restricted_cancel polys polys_domain (polynomials a) (plain a) (over_field a d M commutes) member.scale member.scale_nonzero _ _
      (sym (apply-multiple a (staircase_module a d M commutes) member.scale p _)
      ∙ ap (λ q. apply a (staircase_module a d M commutes) q (start a d M commutes)) member.identity
      ∙ apply-combination a (staircase_module a d M commutes) member.cofactors generators _ kills
      ∙ sym (scale-zero (staircase_module a d M commutes) member.scale))
