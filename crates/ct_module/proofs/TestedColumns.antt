-- For a tested module the vectors of columns are those of ct_telescoping: main lemma `column_vectors`, which the law cites. The symbols of
-- a monomial act names in order (`made_by_symbols`), and they commute, so their order plays no part; and what a staircase element makes
-- of the start is its unit vector.
use Rattle.ct_module.proofs.Base.{◌≡◌, ◌≢◌, refl, sym, ◌∙◌, ap, ap₂, ℕ, zero, suc, pos, List, [], ◌∷◌, ◌++◌}
use Rattle.std.specs.Prelude.{replicate}
use Rattle.ct_algebra.specs.Actions.{Action, Shift, Derive, Still, by_action, polynomials}
use Rattle.ct_algebra.specs.Field.{K, field, coefficients, plain}
use Rattle.ct_algebra.specs.FieldLaws.{embedded}
use Rattle.ct_algebra.specs.Group.{neg_neg, neg_sum}
use Rattle.ct_algebra.specs.Monomial.{Mono, exp}
use Rattle.ct_algebra.specs.Names.{Name, name_with, power, times_over, x0, x1, x2, x3, x4, x5}
use Rattle.ct_algebra.specs.Operators.{Operator}
use Rattle.ct_algebra.specs.Ore.{Module}
use Rattle.ct_algebra.specs.Polynomial.{Polynomial, polys, polys_domain}
use Rattle.ct_algebra.proofs.FieldLawProofs.{fractions}
use Rattle.ct_algebra.specs.Restriction.{restricted_cancel, scale-divided}
use Rattle.ct_algebra.specs.Substitution.{term}
use Rattle.ct_algebra.specs.Telescoping.{difference}
use Rattle.ct_frac.proofs.Quotients.{ratio, value_over-ratio}
use Rattle.ct_frac.specs.Written.{value_over}
use Rattle.ct_ore.specs.Naming.{actions_of}
use Rattle.ct_telescoping.proofs.StaircaseUnits.{power-start}
use Rattle.ct_telescoping.proofs.SymbolsBackward.{backward-power}
use Rattle.ct_telescoping.proofs.TestedModule.{tested_grows, tested_units}
use Rattle.ct_telescoping.specs.ColumnVectors.{column_vector, over_denominator}
use Rattle.ct_telescoping.specs.StaircaseModule.{Rows, RowsCommute, over_field, staircase_module, start}
use Rattle.ct_telescoping.specs.Tested.{acted}
use Rattle.ct_telescoping.specs.Vector.{Vector, vector_group, unit_vector, plus_vector, plus_vector_comm}
use Rattle.ct_telescoping.specs.VectorModule.{scale_vector, scale_mul}
use Rattle.ct_module.specs.declared.key.Key.{Key}
use Rattle.ct_module.specs.declared.key.Key.TheVariants.{Free, Cert}
use Rattle.ct_module.specs.ColumnLaws.{TestedColumnsAreVectors, column_of}
use Rattle.ct_module.specs.Columns.{symbols_of}
use Rattle.ct_module.specs.Modules.{dimension}
use Rattle.ct_module.specs.Tested.{element_of}
use Rattle.ct_module.specs.Values.{vector_of, rows_by_value, made_by, negative_difference, summand_vector, denominator_at}

module _ (a : Name → Action) (d : ℕ) (M : Rows) where
  -- a symbol several times, and then others
  made_often :
      (n : ℕ) (i : Name) (is : List Name) (x : Vector K d) → made_by a d M (replicate n i ++ is) x ≡ made_by a d M is (times_over n (acted a d M i) x)
  made_often zero i is x = refl
  made_often (suc n) i is x = made_often n i is (acted a d M i x) ∙ ap (made_by a d M is) (inner n x)
    where
      inner : (n : ℕ) (x : Vector K d) → times_over n (acted a d M i) (acted a d M i x) ≡ acted a d M i (times_over n (acted a d M i) x)
      inner zero x = refl
      inner (suc n) x = ap (acted a d M i) (inner n x)

  pub made_by_symbols :
      (γ : Mono) (x : Vector K d) →
      made_by a d M (symbols_of γ) x ≡
      times_over (exp γ 5) (acted a d M x5) (times_over (exp γ 4) (acted a d M x4) (times_over (exp γ 3) (acted a d M x3)
      (times_over (exp γ 2) (acted a d M x2) (times_over (exp γ 1) (acted a d M x1) (times_over (exp γ 0) (acted a d M x0) x)))))
  made_by_symbols γ x =
      made_often (exp γ 0) x0 _ x ∙ made_often (exp γ 1) x1 _ _ ∙ made_often (exp γ 2) x2 _ _ ∙ made_often (exp γ 3) x3 _ _
      ∙ made_often (exp γ 4) x4 _ _ ∙ made_often (exp γ 5) x5 [] _

module _ (a : Name → Action) (d : ℕ) (M : Rows) (commutes : RowsCommute a d M) where
  abbrev W : Module polys (polynomials a) (Vector K d)
  W = staircase_module a d M commutes

  made-power : (γ : Mono) (x : Vector K d) → made_by a d M (symbols_of γ) x ≡ power W.D γ x
  made-power γ x = made_by_symbols a d M γ x ∙ backward-power W.D W.D_D γ x

  opposite : (j : Name) (x : Vector K d) → negative_difference a d M j x ≡ W.group.neg (difference a W j x)
  opposite j x = by (a j)
    where
      by :
          (t : Action) →
          by_action t (W.group.◌+◌ x (W.group.neg (W.D j x))) (W.group.neg (W.D j x)) (W.group.neg (W.D j x)) ≡
          W.group.neg (by_action t (W.group.◌+◌ (W.D j x) (W.group.neg x)) (W.D j x) (W.D j x))
      by Shift =
          W.group.add_comm x (W.group.neg (W.D j x)) ∙ ap (W.group.◌+◌ (W.group.neg (W.D j x))) (sym (neg_neg W.group x))
          ∙ sym (neg_sum W.group (W.D j x) (W.group.neg x))
      by Derive = refl
      by Still = refl

  times_denominator : (n D : Polynomial) → D ≢ polys.zero → field.◌*◌ (embedded D) (value_over n D) ≡ embedded n
  times_denominator n D some =
      field.mul_comm _ _ ∙ ap (λ v. field.◌*◌ v (embedded D)) (value_over-ratio n D some) ∙ fractions.quotient (ratio n D some)

  summand :
      (κ : Mono) (b : ℕ) (m : Mono) (denominators : Name → Polynomial) (j : Name) → denominators j ≢ polys.zero →
      power W.D m (start a d M commutes) ≡ unit_vector field d b →
      summand_vector d b κ (denominators j) ≡ over_denominator a (over_field a d M commutes) denominators (start a d M commutes) j m κ
  summand κ b m denominators j some there =
      let D = denominators j in
      restricted_cancel polys polys_domain (polynomials a) (plain a) (over_field a d M commutes) D some _ _
      (sym (scale_mul field d (embedded D) (value_over (term κ (pos 1)) D) (unit_vector field d b))
      ∙ ap (λ c. scale_vector field d c (unit_vector field d b)) (times_denominator (term κ (pos 1)) D some)
      ∙ ap (scale_vector field d (embedded (term κ (pos 1)))) (sym there)
      ∙ sym (scale-divided polys polys_domain (polynomials a) (plain a) (over_field a d M commutes) D some _))

pub column_vectors : TestedColumnsAreVectors
column_vectors s generators tested commutes r some (Free γ) is of =
    let a = actions_of s.names in
    let d = dimension s.space in
    let M = rows_by_value s.space in
    ap (made_by a d M (symbols_of γ)) tested.start ∙ made-power a d M commutes γ (unit_vector field d 0)
column_vectors s generators tested commutes r some (Cert order name element mono) is of =
    let a = actions_of s.names in
    let d = dimension s.space in
    let M = rows_by_value s.space in
    let j = name_with name in
    let there = power-start a d M commutes (element_of s.space) (tested_grows a generators d (element_of s.space) M tested.tested)
    (tested_units a generators d (element_of s.space) M tested.tested) element is.in_range in
    ap (negative_difference a d M j)
    (ap (λ k. summand_vector d element mono (denominator_at s k j)) of
    ∙ summand a d M commutes mono element (element_of s.space element) (denominator_at s r) j (some j) there)
    ∙ opposite a d M commutes j _
