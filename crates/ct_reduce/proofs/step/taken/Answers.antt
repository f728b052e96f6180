use Rattle.ct_reduce.proofs.Base.{◌≡◌, ◌∙◌, ap, ap₂, sym, Ok, get_or, List, get_or_read, set-set, Name, Action, Operator, no_operator, Reduction}
use Rattle.ct_reduce.proofs.Base.{actions_of, checked_product, checked_difference, checked_sum}
use Rattle.std.proofs.Math.ListN.{set}
use Rattle.ct_reduce.specs.Reduction.{Step, checked_taken}
use Rattle.ct_reduce.specs.Views.{step_of, reduction_of}
use Rattle.ct_reduce.proofs.step.taken.Goals as goal

-- the three steps, each with its value
taken_is :
    (a : Name → Action) (p : Step) (s : Reduction) (product rest cofactor : Operator) (cofactors : List Operator) →
    checked_product a p.part p.generator ≡ Ok product → checked_difference s.rest product ≡ Ok rest →
    checked_sum (get_or s.cofactors p.place no_operator) p.part ≡ Ok cofactor → cofactors ≡ set s.cofactors p.place cofactor →
    checked_taken a p s ≡ Ok (record { scale = s.scale; cofactors = cofactors; rest = rest })
unfolding checked_taken
taken_is a p s product rest cofactor cofactors multiplied less more all =
    rw (multiplied, less, more) (ap (λ cs. Ok (record { scale = s.scale; cofactors = cs; rest = rest })) (sym all))

pub returns : goal.returns
returns c =
    let place = c.args.step.now.place in
    let was = c.replace-cofactor.ensures.value
    ∙ get_or_read c.args.s.cofactors.items place c.index_mut.result.now c.requires c.index_mut.ensures.value no_operator in
    taken_is (actions_of c.args.algebra.now) (step_of c.args.step.now)
    (reduction_of c.args.s) c.in_ok-product.product c.in_ok-rest.rest c.in_ok-cofactors.field-0 _ c.in_ok-product.ensures c.in_ok-rest.ensures
    (ap₂ checked_sum (sym was) (sym c.in_ok-copy.ensures.value) ∙ c.in_ok-cofactors.ensures)
    (set-set c.args.s.cofactors.items place c.replace-cofactor.new.dest c.in_ok-cofactors.field-0)
