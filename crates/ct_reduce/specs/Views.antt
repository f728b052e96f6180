-- What the code's own types stand for.
use Rattle.std.specs.Prelude.{None, Some}
use Rattle.std.proofs.Common.{Option}
use Rattle.ct_algebra.specs.Membership.{Reduction}
use Rattle.ct_reduce.specs.Reduction.{Reducer, Reducible, Step}
use Rattle.ct_reduce.specs.declared.reduced.Reduced.{Reduced}
use Rattle.ct_reduce.specs.declared.search.Reducer.{Reducer as ReducerCode}
use Rattle.ct_reduce.specs.declared.search.Reducible.{Reducible as ReducibleCode}
use Rattle.ct_reduce.specs.declared.step.Step.{Step as StepCode}

abbrev pub reduction_of : Reduced → Reduction
reduction_of r = record { scale = r.scale; cofactors = r.cofactors.items; rest = r.rest }

abbrev pub reducer_of : ReducerCode → Reducer
reducer_of r = record { place = r.place; generator = r.generator.now; symbols = r.symbols }

abbrev pub found_reducer_of : Option ReducerCode → Option Reducer
found_reducer_of None = None
found_reducer_of (Some r) = Some (reducer_of r)

abbrev pub reducible_of : ReducibleCode → Reducible
reducible_of h = record { mono = h.term.now.mono; coef = h.term.now.coef; reducer = reducer_of h.reducer }

abbrev pub found_reducible_of : Option ReducibleCode → Option Reducible
found_reducible_of None = None
found_reducible_of (Some h) = Some (reducible_of h)

abbrev pub step_of : StepCode → Step
step_of p = record { factor = p.factor; part = p.part; place = p.place; generator = p.generator.now }
