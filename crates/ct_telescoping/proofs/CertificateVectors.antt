-- A certificate by the vectors of its names: main lemma `relation_telescopes`. Where the generators kill x, and each name's
-- vector, times the denominator, is what the numerator makes of x, the telescoper makes the sum of the differences.
-- The law `certificate_telescopes` of ct_algebra says so of what certifies; here the telescoper may be zero.
use Rattle.ct_telescoping.proofs.Base.{◌≡◌, List, [], ◌∷◌, map, All, sym, ◌∙◌, ap, refl, All-head, All-tail, Module, Name, Polynomial, polys}
use Rattle.ct_telescoping.proofs.Base.{polys_domain, times, Action, polynomials, Operator, apply, EachKills, field, coefficients, plain}
use Rattle.ct_telescoping.proofs.Base.{restricted_cancel, Summand, Certificate, difference_denominator, differences, IsRelation, over_polynomials}
use Rattle.ct_telescoping.proofs.Base.{difference, sum_of_differences, EachCleared, apply-sum, apply-multiple, apply-combination}
use Rattle.ct_algebra.proofs.CertificateLawProofs.{apply-differences}
use Rattle.ct_telescoping.proofs.NameSums.{sum_of_names}

module _ (a : Name → Action) {V : Type 0} (F : Module field (coefficients a) V) (x : V) (vectors : Name → V) where
  abbrev W : Module polys (polynomials a) V
  W = over_polynomials a F

  -- the vector of the summand's name is what the certificate makes of x
  abbrev pub HasVector : Summand → Type 0
  HasVector s = W.scale s.denominator (vectors s.name) ≡ apply a W s.numerator x

  abbrev vectors_of : List Summand → List V
  vectors_of ss = map (λ s. vectors s.name) ss

  each_cleared : (ss : List Summand) → All HasVector ss → EachCleared a W (λ p. apply a W p x) ss (vectors_of ss)
  each_cleared [] has = tt
  each_cleared (s ∷ ss) has = (All-head HasVector s ss has, each_cleared ss (All-tail HasVector s ss has))

  abbrev pub name_differences : List Name → V
  name_differences js = sum_of_names W.group (λ j. difference a W j (vectors j)) js

  by_names : (ss : List Summand) → sum_of_differences a W ss (vectors_of ss) ≡ name_differences (map (λ s. s.name) ss)
  by_names [] = refl
  by_names (s ∷ ss) = ap (W.group.◌+◌ (difference a W s.name (vectors s.name))) (by_names ss)

  -- the sum of all H·E makes the scale times the differences
  pub differences_make :
      (scale : Polynomial) (ss : List Summand) → All (λ s. scale ≡ times s.factor (difference_denominator a s)) ss →
      All HasVector ss → apply a W (differences a ss) x ≡ W.scale scale (name_differences (map (λ s. s.name) ss))
  differences_make scale ss divides has =
      apply-differences a W scale x ss (vectors_of ss) divides (each_cleared ss has) ∙ ap (W.scale scale) (by_names ss)

  pub relation_telescopes :
      (generators : List Operator) (c : Certificate) → IsRelation a generators c → EachKills a W generators x →
      All HasVector c.summands → apply a W c.telescoper x ≡ name_differences (map (λ s. s.name) c.summands)
  relation_telescopes generators c relation kills has =
      restricted_cancel polys polys_domain (polynomials a) (plain a) F c.scale relation.scale_nonzero _ _
      (sym (apply-multiple a W c.scale c.telescoper x) ∙ ap (λ p. apply a W p x) relation.identity ∙ apply-sum a W _ _ x
      ∙ ap (W.group.◌+◌ _) (apply-combination a W c.cofactors generators x kills) ∙ W.group.add_zero _
      ∙ differences_make c.scale c.summands relation.divides has)
