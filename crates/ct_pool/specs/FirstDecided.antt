-- What `first_decided` answers, in the words of a job's outcomes. No worker and no order of work stands here.
--     outcomes_below outcome n   the outcomes of the indices below n, in order
--     IsDecision outcome count   the least index below the count whose outcome is a hit, with all misses before it;
--                                or all misses
-- The list of misses is one equation with the outcomes of all smaller indices: none of them is a hit, and none
-- is left out. So a hit is answered exactly where there is one, and it is the least.
use Rattle.std.specs.Prelude.{◌≡◌, ℕ, zero, suc, ◌<◌, List, [], ◌∷◌, ◌++◌, map}
use Rattle.ct_pool.specs.declared.job.Outcome.{Outcome}
use Rattle.ct_pool.specs.declared.job.Outcome.TheVariants.{Miss, Hit as HitOf}
use Rattle.ct_pool.specs.declared.decision.Decision.{Decision}
use Rattle.ct_pool.specs.declared.decision.Decision.TheVariants.{Hit, AllMissed}

-- the outcomes of the indices below n, in order
abbrev pub outcomes_below : {X : Type 0} → (ℕ → X) → ℕ → List X
outcomes_below outcome zero = []
outcomes_below outcome (suc n) = outcomes_below outcome n ++ outcome n ∷ []

-- the least index below the count whose outcome is a hit, with all misses before it; or all are misses
abbrev pub IsDecision : {M H : Type 0} → (ℕ → Outcome M H) → ℕ → Decision M H → Type 0
IsDecision outcome count (Hit index hit misses) = (index < count) × (outcome index ≡ HitOf hit) × (map (λ m. Miss m) misses.items ≡ outcomes_below outcome index)
IsDecision outcome count (AllMissed misses) = map (λ m. Miss m) misses.items ≡ outcomes_below outcome count
