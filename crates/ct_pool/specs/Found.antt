-- What the workers bring back, and how it is put in order.
--     IsFound              one worker's misses and hit are the outcomes of what it refuted and hit, and it has ended
--     IsLeftOpen           a worker without a hit has the misses of what it refuted, and its index is still to be decided
--     AreFound             they are outcomes of their indices
--     key_of, key_found    the indices of a view, and of what its worker brings back
--     Covers               each index below the bound is a miss of someone, and the least hit is someone's
--     AreSlots, LeftEmpty  misses in the slots of their indices
use Rattle.std.specs.Prelude.{◌≡◌, ℕ, ◌<◌, ◌≤◌, List, map, true, false, Option, Some, None, slice_get, ◌==◌, IfSome}
use Rattle.ct_core.specs.Counting.{Each, sum_over, times, one_if}
use Rattle.ct_core.specs.Steps.{some_and}
use Rattle.ct_core.specs.Machine.{Sight}
use Rattle.ct_core.specs.CompleteList.{has_ended}
use Rattle.ct_pool.specs.declared.job.Outcome.{Outcome}
use Rattle.ct_pool.specs.declared.job.Outcome.TheVariants.{Miss, Hit}

-- each miss is the outcome of its index
abbrev pub AreMisses : {M H : Type 0} → (ℕ → Outcome M H) → List (ℕ × M) → Type 0
AreMisses outcome ms = Each (λ p. outcome p.0 ≡ Miss p.1) ms

-- the indices of the misses
abbrev pub numbers_of : {M : Type 0} → List (ℕ × M) → List ℕ
numbers_of ms = map (λ p. p.0) ms

-- the index of a hit
abbrev pub number_at : {H : Type 0} → Option (ℕ × H) → Option ℕ
number_at None = None
number_at (Some p) = Some p.0

-- the misses are those of the refuted numbers, a hit is that of its number, and the worker has ended
pub record IsFound {M H : Type 0} (outcome : ℕ → Outcome M H) (count : ℕ) (sight : Sight) (misses : List (ℕ × M)) (hit : Option (ℕ × H)) : Type 0 where
  pub numbers : numbers_of misses ≡ sight.refuted
  pub misses_are : AreMisses outcome misses
  pub hit_is : number_at hit ≡ sight.hit
  pub hit_found : IfSome hit (λ p. outcome p.0 ≡ Hit p.1)
  pub ended : has_ended count sight ≡ true

-- the misses are those of the refuted numbers, nothing was hit, and an index below the count is pending
pub record IsLeftOpen {M H : Type 0} (outcome : ℕ → Outcome M H) (count : ℕ) (sight : Sight) (misses : List (ℕ × M)) : Type 0 where
  pub numbers : numbers_of misses ≡ sight.refuted
  pub misses_are : AreMisses outcome misses
  pub no_hit : sight.hit ≡ None
  pub not_ended : has_ended count sight ≡ false

-- what one worker brings back: the misses with their indices, and the hit with its index
abbrev pub FoundValue : Type 0 → Type 0 → Type 0
FoundValue M H = List (ℕ × M) × Option (ℕ × H)

-- they are the outcomes of their indices
abbrev pub AreFound : {M H : Type 0} → (ℕ → Outcome M H) → FoundValue M H → Type 0
AreFound outcome f = AreMisses outcome f.0 × IfSome f.1 (λ p. outcome p.0 ≡ Hit p.1)

-- the indices that a worker refuted, and the one that it hit
abbrev pub key_of : Sight → List ℕ × Option ℕ
key_of v = (v.refuted, v.hit)

-- the indices of what a worker brings back
abbrev pub key_found : {M H : Type 0} → FoundValue M H → List ℕ × Option ℕ
key_found f = (numbers_of f.0, number_at f.1)

-- 1 where the worker's hit is at m
abbrev pub hits_of : {M H : Type 0} → ℕ → FoundValue M H → ℕ
hits_of m f = one_if (some_and (number_at f.1) (λ h. h == m))

-- the indices below it are decided to be misses
abbrev pub bound_of : ℕ → Option ℕ → ℕ
bound_of count None = count
bound_of count (Some m) = m

-- each index below the bound is a miss of someone, and the least hit is someone's
abbrev pub Covers : {M H : Type 0} → ℕ → Option ℕ → List (FoundValue M H) → Type 0
Covers bound least fs = ((k : ℕ) → k < bound → 1 ≤ sum_over (λ f. times k (numbers_of f.0)) fs) × IfSome least (λ m. 1 ≤ sum_over (hits_of m) fs)

-- what stands in a slot is the miss of its index
abbrev pub AreSlots : {M H : Type 0} → (ℕ → Outcome M H) → List (Option M) → Type 0
AreSlots {M = M} outcome slots = (k : ℕ) (m : M) → slice_get slots k ≡ Some (Some m) → outcome k ≡ Miss m

-- a slot that is empty now was so, and no miss has its index
abbrev pub LeftEmpty : {M : Type 0} → List (ℕ × M) → List (Option M) → List (Option M) → Type 0
LeftEmpty ms old new = (k : ℕ) → slice_get new k ≡ Some None → (slice_get old k ≡ Some None) × (times k (numbers_of ms) ≡ 0)
