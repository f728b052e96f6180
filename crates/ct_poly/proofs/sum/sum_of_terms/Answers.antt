use Rattle.ct_poly.proofs.Base.{◌≡◌, ◌++◌, ◌∙◌, sym, [], ◌∷◌, rules, pos, ◌+ℤ◌, FitsSigned, nat_abs, arith, ◌+◌, ◌≤◌, w128, to_z-of_z}
use Rattle.ct_poly.proofs.Base.{mono_turned_back, monomials, int_group, largest_norm}
use Rattle.ct_poly.specs.declared.term.Term.{Term}
use Rattle.ct_poly.specs.Terms.{entry}
use Rattle.ct_poly.proofs.TermLists.{no_length, abs_sum}
use Rattle.ct_poly.proofs.Merging.{merging_start, first_taken, second_taken, has_room, both_met, sum_kept, sum_gone, first_ended, second_ended}
use Rattle.ct_poly.proofs.Merging.{sum_is}
use Rattle.ct_poly.proofs.sum.sum_of_terms.Goals as goal

pub merging-init : goal.merging-init
merging-init c = merging_start monomials int_group entry c.requires.first c.requires.second (search rules)

pub returns-in_default : goal.returns-in_default
returns-in_default c =
    let all : c.extend_from_slice.new.self.items ≡ c.merging.out.items ++ c.merging.q.now = search rules in
    sum_is c.requires.first c.requires.second
    (first_ended monomials int_group entry c.requires.second (no_length _ c.in_default.ensures.cases) all c.merging.invariant)

pub returns-in_default-split_first : goal.returns-in_default-split_first
returns-in_default-split_first c =
    let all : c.extend_from_slice-in_default-split_first.new.self.items ≡ c.merging.out.items ++ c.merging.p.now = search rules in
    sum_is c.requires.first c.requires.second
    (second_ended monomials int_group entry c.requires.second (no_length _ c.in_default-split_first.ensures.cases) all c.merging.invariant)

pub merging-preserved-in-Greater : goal.merging-preserved-in-Greater
merging-preserved-in-Greater c =
    let pushed : c.push.new.self.items ≡ c.merging.out.items ++ c.in-Some.a.now ∷ [] = search rules in
    first_taken monomials int_group entry c.in-Some.ensures.cases.0 c.in-Some-split_first.ensures.cases.0
    (mono_turned_back _ _ (sym c.in-Greater.ensures)) pushed c.merging.invariant

pub merging-preserved-in-Less : goal.merging-preserved-in-Less
merging-preserved-in-Less c =
    let pushed : c.push-in-Less.new.self.items ≡ c.merging.out.items ++ c.in-Some-split_first.b.now ∷ [] = search rules in
    second_taken monomials int_group entry c.in-Some.ensures.cases.0 c.in-Some-split_first.ensures.cases.0
    (sym c.in-Less.ensures) pushed c.merging.invariant

pub sum_of_coefs-coef-requires : goal.sum_of_coefs-coef-requires
sum_of_coefs-coef-requires c =
    let both = has_room monomials int_group entry c.in-Some.ensures.cases.0 c.in-Some-split_first.ensures.cases.0 c.merging.invariant nat_abs abs_sum
    in
    let small : nat_abs c.in-Some.a.now.coef + nat_abs c.in-Some-split_first.b.now.coef ≤ largest_norm = omega (arith, both, c.requires.small) in
    search rules

pub merging-preserved-in_ok-push-in-Equal : goal.merging-preserved-in_ok-push-in-Equal
merging-preserved-in_ok-push-in-Equal c =
    let first_fits : FitsSigned w128 c.in-Some.a.now.coef = search rules in
    let second_fits : FitsSigned w128 c.in-Some-split_first.b.now.coef = search rules in
    let sum : c.sum_of_coefs-coef.result ≡ c.in-Some.a.now.coef +ℤ c.in-Some-split_first.b.now.coef = simp to_z-of_z at c.sum_of_coefs-coef.ensures in
    let t : Term = record { mono = c.in-Some.a.now.mono; coef = c.sum_of_coefs-coef.result } in
    let pushed : c.push-then-coef-ne0.new.self.items ≡ c.merging.out.items ++ t ∷ [] = search rules in
    let nonzero : c.sum_of_coefs-coef.result ≡ pos 0 → ⊥ = search rules in
    both_met monomials int_group entry c.in-Some.ensures.cases.0 c.in-Some-split_first.ensures.cases.0 (sym c.in-Equal.ensures)
    (sum_kept monomials int_group entry c.merging.out.items t pushed sum (λ zero. nonzero (sum ∙ zero))) c.merging.invariant

pub merging-preserved : goal.merging-preserved
merging-preserved c =
    let first_fits : FitsSigned w128 c.in-Some.a.now.coef = search rules in
    let second_fits : FitsSigned w128 c.in-Some-split_first.b.now.coef = search rules in
    let sum : c.sum_of_coefs-coef.result ≡ c.in-Some.a.now.coef +ℤ c.in-Some-split_first.b.now.coef = simp to_z-of_z at c.sum_of_coefs-coef.ensures in
    let none : c.sum_of_coefs-coef.result ≡ pos 0 = search rules in
    both_met monomials int_group entry c.in-Some.ensures.cases.0 c.in-Some-split_first.ensures.cases.0 (sym c.in-Equal.ensures)
    (sum_gone monomials int_group entry c.merging.out.items c.in-Some.a.now.mono (sym sum ∙ none)) c.merging.invariant
