-- One turn of the loop, as the code makes it. Main lemmas `turned`, `place_known`: the rest of the reduction stays the same,
-- the rank falls, and there are as many cofactors as before, so that the next step finds its own.
use Rattle.ct_reduce.proofs.Base.{◌≡◌, ◌<◌, Ok, Some, List, length, sym, ◌∙◌, ap, arith, length-map, Name, Action, Operator, multiple, Reduction}
use Rattle.ct_checked.specs.Checked.{◌>>=◌}
use Rattle.ct_checked.specs.Loop.{turn}
use Rattle.ct_reduce.specs.Reduction.{Reducible, Step, greatest_reducible, checked_plan, multiplied_unless_one, checked_taken, checked_step}
use Rattle.ct_reduce.specs.Reduction.{reduction_rank, reduction_from, reduction_turn}
use Rattle.ct_reduce.proofs.FirstReducers.{found_is_first}
use Rattle.ct_reduce.proofs.Searching.{found}
use Rattle.ct_reduce.proofs.StepValues.{unless_one_is, taken_is, plan_is}
use Rattle.ct_reduce.proofs.ReductionEnds.{falls, reduction_is}
use lib.ListN.{length-set}

module _ (a : Name → Action) (generators : List Operator) where
  pub record Turned (s t : Reduction) : Type 0 where
    pub same : reduction_turn a generators s ≡ reduction_turn a generators t
    pub rank_falls : reduction_rank generators t < reduction_rank generators s
    pub length_kept : length t.cofactors ≡ length s.cofactors

  module _ (s : Reduction) (h : Reducible) (p : Step) (m : Reduction) (is : Some h ≡ greatest_reducible generators s)
      (planned : checked_plan a h ≡ Ok p) (multiplied : multiplied_unless_one a p.factor s ≡ Ok m) where
    multiplied_length : length m.cofactors ≡ length s.cofactors
    multiplied_length =
        ap length (unless_one_is a p.factor s m multiplied).cofactors_are
        ∙ length-map s.cofactors (multiple a p.factor)

    pub place_known : length s.cofactors ≡ length generators → p.place < length m.cofactors
    place_known fit =
        let place = ap (λ q. q.place) (plan_is a h p planned) in
        let known = (found_is_first h.mono generators h.reducer (found generators s.rest.terms h s.rest.canonical (sym is)).reduces).known in
        let kept = multiplied_length in omega arith

    pub turned : (t : Reduction) → checked_taken a p m ≡ Ok t → Turned s t
    turned t took =
        let stepped : checked_step a h s ≡ Ok t =
        ap (λ r. r >>= (λ plan. multiplied_unless_one a plan.factor s >>= (λ n. checked_taken a plan n))) planned
        ∙ ap (λ r. r >>= checked_taken a p) multiplied ∙ took in record {
          same =
              ap (turn (reduction_rank generators) (greatest_reducible generators) (checked_step a) (reduction_from a generators) s) (sym is)
              ∙ ap (λ r. r >>= reduction_from a generators) stepped ∙ reduction_is a generators t;
          rank_falls = falls a generators s t h (sym is) stepped;
          length_kept =
              ap length (taken_is a p m t took).cofactors_are ∙ length-set m.cofactors p.place _ ∙ multiplied_length;
        }
