-- The action of a known name, and what N and σ(d) or δ(d) are for each action. Main lemmas `action_known`,
-- `denominator_for`, `coefficient_for`. Cited by the functions that match on the action of a summed name.
use Rattle.ct_cert.proofs.Base.{◌≡◌, ℕ, ◌<◌, ◌≤◌, List, map, length, get_or, slice_get, Some, Ok, Result, sym, ◌∙◌, ap, subst, arith, slice_get-map}
use Rattle.ct_cert.proofs.Base.{get_or_from_slice_get, Name, name_with, Polynomial, polys, Action, Still, by_action, Summand, Answers}
use Rattle.ct_cert.proofs.Base.{place-name_with, checked_times, checked_shifted, checked_derived, Naming, actions_of}
use Rattle.std.specs.Option.{option_map}
use Rattle.ct_checked.specs.declared.fault.Fault.{Fault}
use Rattle.ct_cert.specs.Arithmetic.{shift_denominator, checked_denominator, checked_coefficient}

pub action_known :
    (ns : List Naming) (k : ℕ) (n : Naming) → k < length ns → length ns ≤ 6 → slice_get ns k ≡ Some n →
    n.action ≡ actions_of ns (name_with k)
unfolding actions_of
action_known ns k n known few found =
    sym (get_or_from_slice_get (map (λ m. m.action) ns) k n.action Still (slice_get-map (λ m. m.action) ns k ∙ ap (option_map (λ m. m.action)) found))
    ∙ ap (λ j. get_or (map (λ m. m.action) ns) j Still) (sym (place-name_with k (omega arith)))

module _ (a : Name → Action) (t : Action) (s : Summand) (is : t ≡ a s.name) (r : Result Polynomial Fault) where
  pub denominator_for :
      Answers (by_action t (shift_denominator s) (checked_times s.denominator s.denominator) (checked_times s.denominator s.denominator)) r →
      Answers (checked_denominator a s) r
  unfolding checked_denominator
  denominator_for =
      subst (λ t. Answers (by_action t (shift_denominator s) (checked_times s.denominator s.denominator) (checked_times s.denominator s.denominator))
      r) is

  pub coefficient_for :
      Answers (by_action t (checked_shifted s.name 1 s.denominator) (checked_derived s.name s.denominator) (Ok polys.zero)) r →
      Answers (checked_coefficient a s) r
  unfolding checked_coefficient
  coefficient_for =
      subst (λ t. Answers (by_action t (checked_shifted s.name 1 s.denominator) (checked_derived s.name s.denominator) (Ok polys.zero)) r) is
