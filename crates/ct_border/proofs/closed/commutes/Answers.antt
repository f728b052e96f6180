use Rattle.ct_border.proofs.Base.{◌∙◌, ◌∷◌, Ok, ap, sym}
use Rattle.ct_frac.specs.Written.{value}
use Rattle.ct_border.proofs.CommutingRows.{comparing_more, known_name, not_commuting}
use Rattle.ct_border.proofs.closed.commutes.Goals as goal

pub acted_row-requires-clause-symbol : goal.acted_row-requires-clause-symbol
acted_row-requires-clause-symbol c =
    known_name c.args.algebra.now c.args.second c.requires.names.known c.requires.names.second_acts

pub returns-then-not-branch-clause-refused : goal.returns-then-not-branch-clause-refused
returns-then-not-branch-clause-refused c =
    not_commuting c.args.algebra.now c.args.space.now c.args.first c.args.second c.args.element c.comparing.place c.comparing.left.now
    c.comparing.right.now c.in-Some.more.now c.in-Some-split_first.others.now c.in_ok-copy_of.field-0 c.in_ok-copy_of-2.field-0
    c.comparing.invariant (c.in-Some.ensures.cases.0 ∙ ap (λ x. x ∷ c.in-Some.more.now) (sym c.in_ok-copy_of.ensures))
    (c.in-Some-split_first.ensures.cases.0 ∙ ap (λ y. y ∷ c.in-Some-split_first.others.now) (sym c.in_ok-copy_of-2.ensures))
    c.requires.names c.requires.in_range
    (λ same. let yes = c.in_ok-same_value.ensures.value.1
    (ap value (sym c.in_ok-copy_of.ensures) ∙ same ∙ ap value c.in_ok-copy_of-2.ensures) in
    let no = c.if-not-branch.true in cc)

pub comparing-preserved : goal.comparing-preserved
comparing-preserved c =
    comparing_more c.args.algebra.now c.args.space.now c.args.first c.args.second c.args.element c.comparing.place c.comparing.left.now
    c.comparing.right.now c.in-Some.more.now c.in-Some-split_first.others.now c.in-Some.x.now c.in-Some-split_first.y.now
    c.comparing.invariant c.in-Some.ensures.cases.0 c.in-Some-split_first.ensures.cases.0
    (c.in_ok-same_value.ensures.answers ∙ ap Ok c.if-not-branch.false) (c.in_ok-same_value.ensures.value.0 c.if-not-branch.false)
