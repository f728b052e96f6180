use Rattle.ct_ore.proofs.Base.{◌≡◌, ◌++◌, ◌∙◌, refl, sym, subst, subst₂, ap, [], ◌∷◌, option_to_list, rules, into_iter_items, monomials}
use Rattle.ct_ore.proofs.Base.{mono_turned_back, polys, merging_start, first_taken, second_taken, first_ended, second_ended}
use Rattle.ct_ore.proofs.AddingSteps.{IsMerging, entry, at_hand, room_for_sum, sums_met, nothing_left}
use Rattle.ct_ore.proofs.merging.merged_terms.Goals as goal

pub merging-init : goal.merging-init
merging-init c =
    let p = sym c.into_iter-p.ensures.rest ∙ c.next-first.ensures.items in
    let q = sym c.into_iter-q.ensures.rest ∙ c.next-second.ensures.items in
    record {
      adding = subst₂ (IsMerging c.args.ps.items c.args.qs.items c.in_ok-out.out.items) p q
          (merging_start monomials polys.group entry c.requires.first c.requires.second c.in_ok-out.ensures.items);
      first_ends = search rules;
      second_ends = search rules;
    }

pub returns-in_default : goal.returns-in_default
returns-in_default c =
    (first_ended monomials polys.group entry c.requires.second
    (nothing_left (into_iter_items c.merging.p) c.in_default.is c.merging.invariant.first_ends c.merging.p.rest.ok.0) c.in_ok-all.ensures
    c.merging.invariant.adding).terms

pub returns-in_default-second : goal.returns-in_default-second
returns-in_default-second c =
    let adding = subst (λ o. IsMerging c.args.ps.items c.args.qs.items c.merging.out.items (option_to_list o ++ into_iter_items c.merging.p)
    (option_to_list c.merging.second ++ into_iter_items c.merging.q)) c.in-Some.is c.merging.invariant.adding in
    (second_ended monomials polys.group entry c.requires.second
    (nothing_left (into_iter_items c.merging.q) c.in_default-second.is c.merging.invariant.second_ends c.merging.q.rest.ok.0)
    c.in_ok-all-2.ensures adding).terms

pub merging-preserved-in-Greater : goal.merging-preserved-in-Greater
merging-preserved-in-Greater c =
    let pushed : c.push.new.self.items ≡ c.merging.out.items ++ c.in-Some.a ∷ [] = search rules in
    record {
      adding = first_taken monomials polys.group entry (ap (λ l. c.in-Some.a ∷ l) c.next-first-in-Greater.ensures.items) refl
          (mono_turned_back _ _ (sym c.in-Greater.ensures)) pushed
          (at_hand c.in-Some.is c.in-Some-second.is c.merging.invariant.adding);
      first_ends = search rules;
      second_ends = tt;
    }

pub merging-preserved-in-Less : goal.merging-preserved-in-Less
merging-preserved-in-Less c =
    let pushed : c.push-in-Less.new.self.items ≡ c.merging.out.items ++ c.in-Some-second.b ∷ [] = search rules in
    record {
      adding = second_taken monomials polys.group entry refl (ap (λ l. c.in-Some-second.b ∷ l) c.next-second-in-Less.ensures.items)
          (sym c.in-Less.ensures) pushed
          (at_hand c.in-Some.is c.in-Some-second.is c.merging.invariant.adding);
      first_ends = tt;
      second_ends = search rules;
    }

pub push_sum-requires : goal.push_sum-requires
push_sum-requires c = room_for_sum c.requires (at_hand c.in-Some.is c.in-Some-second.is c.merging.invariant.adding)

pub merging-preserved : goal.merging-preserved
merging-preserved c = record {
  adding = sums_met c.next-first-in-Equal.ensures.items c.next-second-in-Equal.ensures.items
      (sym c.in-Equal.ensures) c.in_ok-push_sum-in-Equal.ensures
      (at_hand c.in-Some.is c.in-Some-second.is c.merging.invariant.adding);
  first_ends = search rules;
  second_ends = search rules;
}
