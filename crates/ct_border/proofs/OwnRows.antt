-- Rows that agree below the dimension: main lemma `own_pass`, by which a tested list passes the tests with whatever rows are its own.
use Rattle.ct_border.proofs.Base.{◌≡◌, ℕ, ◌<◌, ◌∙◌, refl, ap, ap₂, sym, subst, List, All, Name, Action, Operator}
use Rattle.ct_algebra.specs.Field.{K, field, coefficients}
use Rattle.ct_algebra.specs.Laws.RangeSums.{sum_below-same}
use Rattle.ct_algebra.specs.Monomial.{Mono, exp}
use Rattle.ct_algebra.specs.Names.{times_over, x0, x1, x2, x3, x4, x5}
use Rattle.ct_telescoping.proofs.StaircaseLawProofs.{rows_are_determined}
use Rattle.ct_telescoping.specs.RowAction.{action}
use Rattle.ct_telescoping.specs.StaircaseModule.{Rows}
use Rattle.ct_telescoping.specs.Tested.{PassesTests, combined, acted, image}
unfoldable use Rattle.ct_telescoping.specs.Tested.{free_column}
use Rattle.ct_telescoping.specs.Vector.{Vector, entry, same_vector, unit_vector}
use Rattle.ct_telescoping.specs.VectorModule.{entry-act_vector}
use Rattle.ct_border.specs.BuildMeans.{AreItsRows, IsKilled, IsTestedList}

module _ (a : Name → Action) (d : ℕ) (M N : Rows) (same : (i : Name) (b c : ℕ) → b < d → c < d → M i b c ≡ N i b c) where
  action_same : (i : Name) (x y : ℕ → K) → ((b : ℕ) → b < d → x b ≡ y b) → (c : ℕ) → c < d →
      action field (coefficients a) d M i x c ≡ action field (coefficients a) d N i y c
  action_same i x y values c within =
      ap₂ field.◌+◌
      (sum_below-same field.group d _ _
      (λ b below. ap₂ (λ u w. field.◌*◌ ((coefficients a).σ i u) w) (values b below) (same i b c below within)))
      (ap ((coefficients a).δ i) (values c within))

  acted_same : (i : Name) (v : Vector K d) → acted a d M i v ≡ acted a d N i v
  acted_same i v =
      let x = entry field.group d v in
      same_vector field.group d _ _ (λ k below.
      entry-act_vector field d (coefficients a) M i v k below ∙ action_same i x x (λ b within. refl) k below
      ∙ sym (entry-act_vector field d (coefficients a) N i v k below))

  free_column_same : (m : Mono) → free_column a d M m ≡ free_column a d N m
  unfolding free_column
  free_column_same m =
      ap {A = Name → Vector K d → Vector K d} (λ act.
      times_over (exp m 5) (act x5) (times_over (exp m 4) (act x4) (times_over (exp m 3) (act x3)
      (times_over (exp m 2) (act x2) (times_over (exp m 1) (act x1) (times_over (exp m 0) (act x0) (unit_vector field d 0)))))))
      (λ k i v. acted_same i v k)

  image_same : (g : Operator) → image a d M g ≡ image a d N g
  image_same g = ap (λ (forms : Mono → Vector K d). combined forms g) (λ k m. free_column_same m k)

  passes_same : PassesTests a d N → PassesTests a d M
  passes_same passes i j acts also less b below c within =
      action_same j (M i b) (N i b) (λ k. same i b k below) c within ∙ passes i j acts also less b below c within
      ∙ sym (action_same i (M j b) (N j b) (λ k. same j b k below) c within)

module _ (a : Name → Action) (gs : List Operator) (d : ℕ) (element : ℕ → Mono) (M : Rows) where
  pub own_pass : AreItsRows a gs d element M → IsTestedList a gs → PassesTests a d M × All (IsKilled a d M) gs
  own_pass own list =
      let t = list.tested in
      let N = list.rows in
      let same = rows_are_determined a gs t.over d list.dimension element list.element M N own.staircase own.rows t.staircase t.rows in (
        passes_same a d M N same.rows (subst (λ n. PassesTests a n N) (sym same.sizes) t.closed),
        λ k g below.
            image_same a d M N same.rows _ ∙ subst (λ n. All (IsKilled a n N) gs) (sym same.sizes) t.killed k g below,
      )
