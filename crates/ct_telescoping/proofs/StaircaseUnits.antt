-- The staircase in its module: main lemma `power-start`, by which each element makes its unit vector of the start.
-- The rows of a step are unit rows, and a symbol makes row b of the unit vector at b.
use Rattle.ct_telescoping.proofs.Base.{◌≡◌, ℕ, zero, suc, ◌<◌, ◌≤◌, Bool, true, false, cond, eqb, sym, ◌∙◌, ap, ap₂, refl, arith, eq-eqb, ne_eqb}
use Rattle.ct_telescoping.proofs.Base.{Ring, one_mul, zero_mul, Ore, Module, σ_zero, δ_zero, δ_one, Mono, ◌·◌, Name, symbol, power, power_unit}
use Rattle.ct_telescoping.proofs.Base.{power_symbol, polys, Action, polynomials, K, field, coefficients}
use Rattle.ct_telescoping.specs.Laws.SumsBelow.{sum_below-one}
use Rattle.ct_telescoping.specs.Vector.{Vector, entry, same_vector, unit_vector, entry-unit_vector}
use Rattle.ct_telescoping.specs.VectorModule.{act_vector, entry-act_vector}
use Rattle.ct_telescoping.specs.StaircaseModule.{Rows, RowsCommute, staircase_module, start}
use Rattle.ct_telescoping.specs.Staircase.{GrowsFromOne, IsStep, StartsUnits}

module _ {A I : Type 0} (R : Ring A) (E : Ore I R) (d : ℕ) (M : I → ℕ → ℕ → A) where
  σ-one_or_zero : (i : I) (b : Bool) → E.σ i (cond b R.one R.zero) ≡ cond b R.one R.zero
  σ-one_or_zero i true = E.σ_one i
  σ-one_or_zero i false = σ_zero E i

  δ-one_or_zero : (i : I) (b : Bool) → E.δ i (cond b R.one R.zero) ≡ R.zero
  δ-one_or_zero i true = δ_one E i
  δ-one_or_zero i false = δ_zero E i

  -- a symbol makes its row of a unit vector
  pub entry-act_unit_vector :
      (i : I) (b : ℕ) → b < d → (c : ℕ) → c < d → entry R.group d (act_vector R d E M i (unit_vector R d b)) c ≡ M i b c
  entry-act_unit_vector i b l c q =
      entry-act_vector R d E M i _ c q
      ∙ ap₂ R.◌+◌
      (sum_below-one R.group d b (λ b'. R.◌*◌ (E.σ i (entry R.group d (unit_vector R d b) b')) (M i b' c)) l
      (λ b' q' ne. ap (λ w. R.◌*◌ w (M i b' c)) (at b' q' ∙ ap (λ t. cond t R.one R.zero) (ne_eqb b' b ne)) ∙ zero_mul R _)
      ∙ ap (λ w. R.◌*◌ w (M i b c)) (at b l ∙ ap (λ t. cond t R.one R.zero) (eq-eqb b b refl)) ∙ one_mul R _)
      (ap (E.δ i) (entry-unit_vector R d b c q) ∙ δ-one_or_zero i (eqb c b))
      ∙ R.add_zero _
    where
      at : (b' : ℕ) → b' < d → E.σ i (entry R.group d (unit_vector R d b) b') ≡ cond (eqb b' b) R.one R.zero
      at b' q' = ap (E.σ i) (entry-unit_vector R d b b' q') ∙ σ-one_or_zero i (eqb b' b)

module _ (a : Name → Action) (d : ℕ) (M : Rows) (commutes : RowsCommute a d M) (element : ℕ → Mono)
    (h : GrowsFromOne d element) (units : StartsUnits d element M) where
  abbrev W : Module polys (polynomials a) (Vector K d)
  W = staircase_module a d M commutes

  step :
      (i : Name) (b k : ℕ) → b < d → k < d → element k ≡ symbol i · element b →
      W.D i (unit_vector field d b) ≡ unit_vector field d k
  step i b k l q e = same_vector field.group d _ _ (λ c r.
      entry-act_unit_vector field (coefficients a) d M i b l c r ∙ units i b k l q e c r ∙ sym (entry-unit_vector field d k c r))

  -- all elements up to a number
  up_to : (n k : ℕ) → k ≤ n → k < d → power W.D (element k) (start a d M commutes) ≡ unit_vector field d k
  up_to n zero l q = ap (λ m. power W.D m (start a d M commutes)) h.first ∙ power_unit W.D _
  up_to zero (suc k) l q = absurd (omega arith)
  up_to (suc n) (suc k) l q =
      let s : IsStep d element (suc k) = h.steps (suc k) (omega arith) q in
      let low : s.before < suc k = s.earlier in
      ap (λ m. power W.D m (start a d M commutes)) s.product
      ∙ power_symbol W.D W.D_D s.name (element s.before) _
      ∙ ap (W.D s.name) (up_to n s.before (omega arith) (omega arith))
      ∙ step s.name s.before (suc k) (omega arith) q s.product

  pub power-start : (k : ℕ) → k < d → power W.D (element k) (start a d M commutes) ≡ unit_vector field d k
  power-start k l = up_to k k (omega arith) l
