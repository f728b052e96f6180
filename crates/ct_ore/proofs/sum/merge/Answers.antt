use Rattle.ct_ore.proofs.Base.{◌≡◌, ◌++◌, ◌∙◌, ◌+◌, ◌≤◌, sym, subst, [], ◌∷◌, take, rules, arith, pos, ◌+ℤ◌, nat_abs, FitsSigned, w128, to_z-of_z}
use Rattle.ct_ore.proofs.Base.{int_group, largest_norm, merging_start, first_taken, second_taken, has_room, both_met, sum_kept, sum_gone, first_ended}
use Rattle.ct_ore.proofs.Base.{second_ended, abs_sum}
use Rattle.ct_ore.specs.declared.coefficient_term.CoefficientTerm.{CoefficientTerm}
use Rattle.ct_ore.specs.CoefficientTerms.{by_parts, pair_turned_back, key}
use Rattle.ct_ore.specs.Lists.{AllBefore}
use Rattle.ct_ore.proofs.MergeSteps.{entry, left_written, before_taken, merged_is}
use Rattle.ct_ore.proofs.SortedSums.{no_length}
use Rattle.ct_ore.proofs.sum.merge.Goals as goal

pub merging-init : goal.merging-init
merging-init c = merging_start by_parts int_group entry c.requires.first c.requires.second c.in_ok-out.ensures.items

pub returns-in_default : goal.returns-in_default
returns-in_default c =
    let all : c.extend_from_slice.new.self.items ≡ c.merging.out.items ++ c.merging.q.now = search rules in
    merged_is (first_ended by_parts int_group entry c.requires.second (no_length _ c.in_default.ensures.cases) all c.merging.invariant)

pub returns-in_default-split_first : goal.returns-in_default-split_first
returns-in_default-split_first c =
    let all : c.extend_from_slice-in_default-split_first.new.self.items ≡ c.merging.out.items ++ c.merging.p.now = search rules in
    merged_is (second_ended by_parts int_group entry c.requires.second (no_length _ c.in_default-split_first.ensures.cases) all c.merging.invariant)

pub count_before-requires : goal.count_before-requires
count_before-requires c = record {
  written = left_written c.merging.invariant;
  first = subst (λ p. AllBefore c.in-Some-split_first.b.now (take 1 p)) (sym c.in-Some.ensures.cases.0)
      (pair_turned_back _ _ (sym c.in-Greater.ensures), tt);
}

pub merging-preserved-then-p_rest-q : goal.merging-preserved-then-p_rest-q
merging-preserved-then-p_rest-q c =
    let all : c.extend_from_slice-then-p_rest-q.new.self.items ≡ c.merging.out.items ++ c.split_at.result.0.now = search rules in
    before_taken c.split_at.result.0.now c.in-Some-split_first.ensures.cases.0 c.split_at.ensures.front c.split_at.ensures.by_index.0
    c.count_before.ensures all c.merging.invariant

pub merging-preserved-else-p_rest-q : goal.merging-preserved-else-p_rest-q
merging-preserved-else-p_rest-q c =
    let pushed : c.push.new.self.items ≡ c.merging.out.items ++ c.in-Some.a.now ∷ [] = search rules in
    first_taken by_parts int_group entry c.in-Some.ensures.cases.0 c.in-Some-split_first.ensures.cases.0
    (pair_turned_back _ _ (sym c.in-Greater.ensures)) pushed c.merging.invariant

pub merging-preserved-in-Less : goal.merging-preserved-in-Less
merging-preserved-in-Less c =
    let pushed : c.push-in-Less.new.self.items ≡ c.merging.out.items ++ c.in-Some-split_first.b.now ∷ [] = search rules in
    second_taken by_parts int_group entry c.in-Some.ensures.cases.0 c.in-Some-split_first.ensures.cases.0
    (sym c.in-Less.ensures) pushed c.merging.invariant

pub number_sum-number-requires : goal.number_sum-number-requires
number_sum-number-requires c =
    let both = has_room by_parts int_group entry c.in-Some.ensures.cases.0 c.in-Some-split_first.ensures.cases.0 c.merging.invariant nat_abs abs_sum
    in
    let small : nat_abs c.in-Some.a.now.number + nat_abs c.in-Some-split_first.b.now.number ≤ largest_norm = omega (arith, both, c.requires.small) in
    search rules

pub merging-preserved-in_ok-push-in-Equal : goal.merging-preserved-in_ok-push-in-Equal
merging-preserved-in_ok-push-in-Equal c =
    let first_fits : FitsSigned w128 c.in-Some.a.now.number = search rules in
    let second_fits : FitsSigned w128 c.in-Some-split_first.b.now.number = search rules in
    let sum : c.number_sum-number.result ≡ c.in-Some.a.now.number +ℤ c.in-Some-split_first.b.now.number =
    simp to_z-of_z at c.number_sum-number.ensures in
    let t : CoefficientTerm = record { symbols = c.in-Some.a.now.symbols; names = c.in-Some.a.now.names; number = c.number_sum-number.result } in
    let pushed : c.push-then-number-ne0.new.self.items ≡ c.merging.out.items ++ t ∷ [] = search rules in
    let nonzero : c.number_sum-number.result ≡ pos 0 → ⊥ = search rules in
    both_met by_parts int_group entry c.in-Some.ensures.cases.0 c.in-Some-split_first.ensures.cases.0 (sym c.in-Equal.ensures)
    (sum_kept by_parts int_group entry c.merging.out.items t pushed sum (λ zero. nonzero (sum ∙ zero))) c.merging.invariant

pub merging-preserved : goal.merging-preserved
merging-preserved c =
    let first_fits : FitsSigned w128 c.in-Some.a.now.number = search rules in
    let second_fits : FitsSigned w128 c.in-Some-split_first.b.now.number = search rules in
    let sum : c.number_sum-number.result ≡ c.in-Some.a.now.number +ℤ c.in-Some-split_first.b.now.number =
    simp to_z-of_z at c.number_sum-number.ensures in
    let none : c.number_sum-number.result ≡ pos 0 = search rules in
    both_met by_parts int_group entry c.in-Some.ensures.cases.0 c.in-Some-split_first.ensures.cases.0 (sym c.in-Equal.ensures)
    (sum_gone by_parts int_group entry c.merging.out.items (key c.in-Some.a.now) (sym sum ∙ none)) c.merging.invariant
