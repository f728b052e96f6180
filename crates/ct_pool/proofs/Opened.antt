-- The passes of an opening: how many there are, and that each is fresh.
-- Main lemmas: `length-passes_of` and `opened_fresh`, which `first_decided` cites.
use Rattle.ct_pool.proofs.Base.{◌≡◌, ℕ, zero, suc, [], ◌∷◌, length, refl, arith, length-append, All, fresh}
use Rattle.atomic_table.specs.Seated.{TableId}
use Rattle.ct_pool.specs.Passes.{PassView, passes_of}
use Rattle.ct_pool.proofs.Lists.{all_push}

pub length-passes_of : (table : TableId) (n : ℕ) → length (passes_of table n) ≡ n
length-passes_of table zero = refl
length-passes_of table (suc n) =
    omega (arith, length-append (passes_of table n) (record { number = n; sight = fresh; table = table } ∷ []), length-passes_of table n)

pub opened_fresh : (table : TableId) (n : ℕ) → All (λ (p : PassView). (p.table ≡ table) × (p.sight ≡ fresh)) (passes_of table n)
opened_fresh table zero = λ k d below. absurd (omega arith)
opened_fresh table (suc n) = all_push (λ (p : PassView). (p.table ≡ table) × (p.sight ≡ fresh)) (passes_of table n) (passes_of table (suc n))
    (record { number = n; sight = fresh; table = table }) refl (refl, refl) (opened_fresh table n)
