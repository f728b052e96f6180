use Rattle.ct_border.proofs.Base.{◌<◌, ◌∙◌, ap, ap₂, sym, subst, All, Ok, actions_of}
use Rattle.ct_border.specs.Staircase.{powers_test}
use Rattle.ct_border.proofs.NamesWithOperators.{numbers_small}
use Rattle.ct_border.proofs.FewMonomials.{answers_same}
use Rattle.ct_border.proofs.StaircaseListed.{staircase_steps, answer_means}
use Rattle.ct_border.proofs.search.staircase.Goals as goal

pub powers-requires : goal.powers-requires
powers-requires c =
    let a = actions_of c.args.algebra.now in
    subst (All (λ i. i < 6)) (sym (c.as_slice.ensures.value ∙ c.in_ok-names.ensures)) (numbers_small a)

pub remaining-requires : goal.remaining-requires
remaining-requires c =
    let a = actions_of c.args.algebra.now in
    subst (All (λ i. i < 6)) (sym (c.as_slice-3.ensures.value ∙ c.in_ok-names.ensures)) (numbers_small a)

pub returns-clause-certified : goal.returns-clause-certified
returns-clause-certified c =
    let a = actions_of c.args.algebra.now in
    let gs = c.args.generators.now in
    answer_means a gs c.remaining.result (λ v. v.items)
    (answers_same c.remaining.result (λ v. v.items) _ _
    (staircase_steps a gs c.as_slice-4.result.now c.as_slice-3.result.now
    (c.in_ok-leading.ensures ∙ ap Ok (sym c.as_slice-4.ensures.value)) (c.as_slice-3.ensures.value ∙ c.in_ok-names.ensures)
    (ap₂ powers_test (c.as_slice-4.ensures.value ∙ sym c.as_slice-2.ensures.value) (c.as_slice-3.ensures.value ∙ sym c.as_slice.ensures.value)
    ∙ c.in_ok-powers.ensures))
    c.remaining.ensures)
