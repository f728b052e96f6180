-- What every run keeps, complete or not. It names no worker and no order of the views.
--     Fits count least view         what is true of each worker
--     Kept count next least views   what is true of all of them
-- That each number below `next` stands once in the claims of one view, and no other number stands there, is
-- said of every weight h at once: `sum_over h claims`, over all views, is `sum_below h next`.
-- `ct_pool` keeps the same over the views of all its seats.
use Rattle.std.specs.Prelude.{◌≡◌, ℕ, ◌<◌, ◌≤◌, List, [], ◌∷◌, ◌++◌, true, ◌||◌, Option, Some, None, is_some, IfSome}
use Rattle.ct_core.specs.Machine.{Sight}
use Rattle.ct_core.specs.Steps.{may_stop}
use Rattle.ct_core.specs.Counting.{sum_over, sum_below, Each}
use Rattle.ct_core.specs.CompleteList.{has_hit}

-- the number, if there is one
abbrev pub list_of : Option ℕ → List ℕ
list_of None = []
list_of (Some x) = x ∷ []

-- there is a least hit, and it is at most x
abbrev pub Reaches : Option ℕ → ℕ → Type 0
Reaches None x = ⊥
Reaches (Some m) x = m ≤ x

-- what is true of each worker
pub record Fits (count : ℕ) (least : Option ℕ) (v : Sight) : Type 0 where
  pub claims_are : v.claims ≡ v.refuted ++ list_of v.pending
  pub refuted_below : Each (λ x. x < count) v.refuted
  pub looked_below : v.looked ≡ true → IfSome v.pending (λ p. p < count)
  pub hit_is : IfSome v.hit (λ h. (v.pending ≡ Some h) × (h < count) × Reaches least h × (v.stopped ≡ true))
  pub seen_is : IfSome v.seen (λ s. Reaches least s)
  pub stopped_is : v.stopped ≡ true → (is_some v.hit || may_stop count v) ≡ true

-- what is true of all of them
pub record Kept (count next : ℕ) (least : Option ℕ) (views : List Sight) : Type 0 where
  pub claimed : (h : ℕ → ℕ) → sum_over (λ v. sum_over h v.claims) views ≡ sum_below h next
  pub fits : Each (Fits count least) views
  pub least_hit : IfSome least (λ m. 1 ≤ sum_over (has_hit m) views)
