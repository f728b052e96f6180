-- The vectors of the columns of certificates. Main lemmas `only_at-vector` and `certificate_vector`.
use Rattle.ct_module.proofs.Base.{◌≡◌, refl, ℕ, zero, suc, ◌+◌, ◌<◌, Bool, true, false, cond, eqb, pos, List, [], ◌∷◌, length, map, get_or}
use Rattle.ct_module.proofs.Base.{Ok, sym, ◌∙◌, ap, ap₂, subst, arith, zip}
use Rattle.std.proofs.Math.ListN.{get_or-map}
use Rattle.std.proofs.lemmas.List.FromFn.{get_or-map-range_with_len}
use Rattle.ct_algebra.specs.Actions.{Action, Shift, Derive, Still, by_action}
use Rattle.ct_algebra.specs.Field.{K, field}
use Rattle.ct_algebra.specs.Names.{Name}
use Rattle.ct_algebra.specs.Polynomial.{polys}
use Rattle.ct_algebra.specs.Ring.{mul_zero}
use Rattle.ct_frac.proofs.Fractions.{whole-value}
use Rattle.ct_frac.specs.Written.{Written, value}
use Rattle.ct_telescoping.specs.StaircaseModule.{Rows}
use Rattle.ct_telescoping.specs.Tested.{acted}
use Rattle.ct_telescoping.specs.Vector.{Vector, same_vector, entry-vector, entry-plus_vector, entry-neg_vector, entry-unit_vector, unit_vector}
use Rattle.ct_telescoping.specs.Vector.{plus_vector, neg_vector}
use Rattle.ct_telescoping.specs.Vector as vectors
use Rattle.ct_telescoping.specs.VectorModule.{scale_vector, entry-scale_vector}
use Rattle.ct_module.specs.Columns.{only_at}
use Rattle.ct_module.specs.Modules.{entry, written_zero}
use Rattle.ct_module.specs.Values.{vector_of, differences_of, negatives_of, negative_difference}

zero-value : value written_zero ≡ field.zero
zero-value = whole-value polys.zero

abbrev difference : K → K → K
difference x y = field.◌+◌ x (field.neg y)

differences_at :
    (v w : List Written) (k : ℕ) (z : K) → k < length v → length v ≡ length w →
    get_or (differences_of v w) k z ≡ difference (value (entry v k)) (value (entry w k))
differences_at [] w k z small same = absurd (omega arith)
differences_at (x ∷ v) [] k z small same = absurd (omega arith)
differences_at (x ∷ v) (y ∷ w) zero z small same = refl
differences_at (x ∷ v) (y ∷ w) (suc k) z small same = differences_at v w k z (omega arith) (omega arith)

negatives_at : (w : List Written) (k : ℕ) (z : K) → k < length w → get_or (negatives_of w) k z ≡ field.neg (value (entry w k))
negatives_at [] k z small = absurd (omega arith)
negatives_at (y ∷ w) zero z small = refl
negatives_at (y ∷ w) (suc k) z small = negatives_at w k z (omega arith)

value_at : (u : List Written) (xs : List K) (k : ℕ) → map value u ≡ xs → value (entry u k) ≡ get_or xs k (value written_zero)
value_at u xs k same = sym (get_or-map value u k written_zero) ∙ ap (λ l. get_or l k (value written_zero)) same

-- a fraction at one element
pub only_at-vector :
    (d b : ℕ) (w : Written) → vector_of d (only_at d b w) ≡ scale_vector field d (value w) (unit_vector field d b)
only_at-vector d b w = same_vector field.group d _ _ (λ k small.
    entry-vector field.group d (λ b'. value (entry (only_at d b w) b')) k small
    ∙ ap value (get_or-map-range_with_len (λ k. cond (eqb k b) w written_zero) 0 d k k written_zero small (omega arith))
    ∙ by (eqb k b)
    ∙ sym (entry-scale_vector field d (value w) (unit_vector field d b) k small
    ∙ ap (field.◌*◌ (value w)) (entry-unit_vector field d b k small)))
  where
    by : (t : Bool) → value (cond t w written_zero) ≡ field.◌*◌ (value w) (cond t field.one field.zero)
    by true = sym (field.mul_one (value w))
    by false = zero-value ∙ sym (mul_zero field (value w))

pub certificate_vector :
    (a : Name → Action) (d : ℕ) (M : Rows) (j : Name) (v w u : List Written) → length v ≡ d → length w ≡ d →
    map value u ≡ by_action (a j) (differences_of v w) (negatives_of w) (negatives_of w) →
    vector_of d w ≡ acted a d M j (vector_of d v) → vector_of d u ≡ negative_difference a d M j (vector_of d v)
certificate_vector a d M j v w u first second values act = by (a j) values
  where
    differs : map value u ≡ differences_of v w → vector_of d u ≡ plus_vector field.group d (vector_of d v) (neg_vector field.group d (acted a d M j (vector_of d v)))
    differs same = same_vector field.group d _ _ (λ k small.
        entry-vector field.group d (λ b. value (entry u b)) k small
        ∙ value_at u (differences_of v w) k same
        ∙ differences_at v w k (value written_zero) (omega arith) (omega arith)
        ∙ sym (entry-plus_vector field.group d (vector_of d v) _ k small
        ∙ ap₂ field.◌+◌ (entry-vector field.group d (λ b. value (entry v b)) k small)
        (entry-neg_vector field.group d _ k small ∙ ap field.neg (ap (λ x. vectors.entry field.group d x k) (sym act)
        ∙ entry-vector field.group d (λ b. value (entry w b)) k small))))

    opposite : map value u ≡ negatives_of w → vector_of d u ≡ neg_vector field.group d (acted a d M j (vector_of d v))
    opposite same = same_vector field.group d _ _ (λ k small.
        entry-vector field.group d (λ b. value (entry u b)) k small
        ∙ value_at u (negatives_of w) k same
        ∙ negatives_at w k (value written_zero) (omega arith)
        ∙ sym (entry-neg_vector field.group d _ k small ∙ ap field.neg (ap (λ x. vectors.entry field.group d x k) (sym act)
        ∙ entry-vector field.group d (λ b. value (entry w b)) k small)))

    by :
        (t : Action) → map value u ≡ by_action t (differences_of v w) (negatives_of w) (negatives_of w) →
        vector_of d u ≡ by_action t (plus_vector field.group d (vector_of d v) (neg_vector field.group d (acted a d M j (vector_of d v))))
        (neg_vector field.group d (acted a d M j (vector_of d v))) (neg_vector field.group d (acted a d M j (vector_of d v)))
    by Shift same = differs same
    by Derive same = opposite same
    by Still same = opposite same
