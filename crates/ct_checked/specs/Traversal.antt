-- A list walked in order by a step that may be refused: the first refusal ends it, whatever refusals are.
--     checked_fold f s xs          the state once f has taken each element in turn, from s on
--     checked_each f xs            the values of f at the elements
--     checked_each_from n f xs     the same where f asks for the number of an element; they are numbered from n on
-- Laws in proofs/Traversals. Cited by the definitions of derivations, certificates, setups and reductions.
use Rattle.std.specs.Prelude.{ℕ, ◌+◌, List, [], ◌∷◌, Result, Ok}
use Rattle.ct_checked.specs.Checked.{◌>>=◌}

abbrev pub checked_fold : {S X E : Type 0} → (S → X → Result S E) → S → List X → Result S E
checked_fold f s [] = Ok s
checked_fold f s (x ∷ xs) = f s x >>= (λ t. checked_fold f t xs)

abbrev pub checked_each_from : {X Y E : Type 0} → ℕ → (ℕ → X → Result Y E) → List X → Result (List Y) E
checked_each_from n f [] = Ok []
checked_each_from n f (x ∷ xs) = do
  y ← f n x
  ys ← checked_each_from (n + 1) f xs
  Ok (y ∷ ys)

abbrev pub checked_each : {X Y E : Type 0} → (X → Result Y E) → List X → Result (List Y) E
checked_each f xs = checked_each_from 1 (λ _ x. f x) xs
