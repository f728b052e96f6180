-- The vector that an action makes, from its entries: main lemma `acted-is`, which `act` cites.
use Rattle.ct_module.proofs.Base.{◌≡◌, sym, ◌∙◌, ap, subst, ℕ, ◌<◌, List, length, Name, field, coefficients}
use Rattle.ct_algebra.specs.Actions.{Action}
use Rattle.ct_algebra.specs.RangeSum.{sum_below}
use Rattle.ct_frac.specs.Written.{Written}
use Rattle.ct_telescoping.specs.Laws.ActionLaws.{action-same}
use Rattle.ct_telescoping.specs.Tested.{acted}
use Rattle.ct_telescoping.specs.Vector.{entry-vector, same_vector}
use Rattle.ct_telescoping.specs.VectorModule.{entry-act_vector}
use Rattle.ct_module.specs.Modules.{WrittenModule, dimension, rows_of}
use Rattle.ct_module.specs.Values.{values, row_values, vector_of, rows_by_value, acted_entry}

pub acted-is :
    (a : Name → Action) (m : WrittenModule) (i : Name) (v w : List Written) (rows : List (List Written)) →
    rows ≡ rows_of m i → length v ≡ dimension m → ((c : ℕ) → c < length v → values w c ≡ acted_entry a i v rows c) →
    vector_of (dimension m) w ≡ acted a (dimension m) (rows_by_value m) i (vector_of (dimension m) v)
acted-is a m i v w rows rows_is long entries =
    same_vector field.group (dimension m) _ _ (λ k within.
    entry-vector field.group (dimension m) (values w) k within
    ∙ entries k (subst (λ n. k < n) (sym long) within)
    ∙ ap (λ rs. acted_entry a i v rs k) rows_is
    ∙ ap (λ n. field.◌+◌ (sum_below field.group n (λ b. field.◌*◌ ((coefficients a).σ i (values v b)) (row_values (rows_of m i) b k)))
    ((coefficients a).δ i (values v k))) long
    ∙ sym (entry-act_vector field (dimension m) (coefficients a) (rows_by_value m) i (vector_of (dimension m) v) k within
    ∙ action-same field (coefficients a) (dimension m) (rows_by_value m) i _ _ k within
    (λ b below. entry-vector field.group (dimension m) (values v) b below)))
