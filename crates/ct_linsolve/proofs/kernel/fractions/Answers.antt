use Rattle.ct_linsolve.proofs.Base.{◌≡◌, ◌<◌, ◌∙◌, ◌++◌, ◌∷◌, [], ap, sym, map, arith, rules, subst, range_with_len}
use Rattle.ct_linsolve.specs.NullVector.{AreKnown, null_fraction}
use Rattle.ct_linsolve.specs.Views.{pivots_of, rows_of}
use Rattle.ct_linsolve.proofs.NullEntries.{known_more}
use Rattle.ct_linsolve.proofs.Refuted.{listed_from, listed_more}
use Rattle.ct_linsolve.proofs.kernel.fractions.Goals as goal

pub dividing-init : goal.dividing-init
dividing-init c =
    let f = null_fraction (rows_of c.args.left.now) (pivots_of c.args.pivots.now) c.args.free in (
      ap (λ d. d ++ map f (range_with_len 0 c.args.width)) (sym c.in_ok-done.ensures.items) ∙ listed_from f 0 c.args.width c.in_ok-done.done.items,
      omega arith,
      λ column small. absurd (omega (arith, small)),
    )

pub dividing-preserved : goal.dividing-preserved
dividing-preserved c =
    let left = rows_of c.args.left.now in
    let ps = pivots_of c.args.pivots.now in
    let some : 0 < c.dividing.rest = search rules in
    let more : c.append_fraction.new.list.items ≡ c.dividing.done.items ++ null_fraction left ps c.args.free c.dividing.column ∷ [] =
    c.in_ok-append_fraction.ensures ∙ ap (λ w. c.dividing.done.items ++ w ∷ []) c.in_ok-f.ensures.value in (
      c.dividing.invariant.0 ∙ listed_more (null_fraction left ps c.args.free) c.dividing.column c.dividing.rest c.dividing.done.items
          c.append_fraction.new.list.items some more,
      omega (arith, some, c.dividing.invariant.1),
      known_more left ps c.args.free c.dividing.column c.dividing.invariant.2 c.in_ok-f.ensures.known,
    )

pub returns-clause-known : goal.returns-clause-known
returns-clause-known c =
    let all : c.dividing.column ≡ c.args.width = let none : c.dividing.rest ≡ 0 = search rules in omega (arith, c.dividing.invariant.1, none) in
    subst (AreKnown (rows_of c.args.left.now) (pivots_of c.args.pivots.now) c.args.free) all c.dividing.invariant.2
