-- The numbers of the summed names, name by name: `summed_name` and `other_name` are the turns of the loop, and `all_names` its
-- end.
use Rattle.ct_problem.proofs.Base.{◌≡◌, ℕ, zero, suc, ◌+◌, ◌<◌, ◌≤◌, List, [], ◌∷◌, ◌++◌, length, map, drop, Some, slice_get, arith, Bool, true}
use Rattle.ct_problem.proofs.Base.{false, cond, sym, ap, ◌∙◌, refl, All, slice_get_within, get_or_from_slice_get, drop_more, drop_all, append-nil}
use Rattle.ct_problem.proofs.Base.{map-append, Name, name_with, Naming, summed_from, with_summed, is_summed, Role}
use Rattle.std.proofs.Common.{append_assoc}
use Rattle.ct_ore.specs.declared.algebra.Role.TheVariants as role

with_name : (r : Role) (i : Name) (is : List Name) → with_summed r i is ≡ cond (is_summed r) (i ∷ is) is
with_name role.Summed i is = refl
with_name role.Free i is = refl
with_name role.Param i is = refl

module _ (total : List Name) (ns : List Naming) (at : ℕ) where
  -- the names from this place on
  name_there : (n : Naming) → slice_get ns at ≡ Some n → drop at ns ≡ n ∷ drop (at + 1) ns
  name_there n here =
      let below = slice_get_within ns at n here in
      drop_more ns at n below ∙ ap (λ (m : Naming). m ∷ drop (at + 1) ns) (get_or_from_slice_get ns at n n here)

  module _ (found : List ℕ) (n : Naming) where
    pub summed_name : slice_get ns at ≡ Some n → is_summed n.role ≡ true → map name_with found ++ summed_from at (drop at ns) ≡ total
        → map name_with (found ++ at ∷ []) ++ summed_from (at + 1) (drop (at + 1) ns) ≡ total
    summed_name here summed so_far =
        let rest = summed_from (at + 1) (drop (at + 1) ns) in
        let there : summed_from at (drop at ns) ≡ name_with at ∷ rest =
        ap (summed_from at) (name_there n here) ∙ with_name n.role (name_with at) rest
        ∙ ap (λ (b : Bool). cond b (name_with at ∷ rest) rest) summed in
        ap (λ (names : List Name). names ++ rest) (map-append name_with found (at ∷ [])) ∙ append_assoc (map name_with found) (name_with at ∷ []) rest
        ∙ ap (λ (names : List Name). map name_with found ++ names) (sym there) ∙ so_far

    pub other_name : slice_get ns at ≡ Some n → is_summed n.role ≡ false → map name_with found ++ summed_from at (drop at ns) ≡ total
        → map name_with found ++ summed_from (at + 1) (drop (at + 1) ns) ≡ total
    other_name here other so_far =
        let rest = summed_from (at + 1) (drop (at + 1) ns) in
        let there : summed_from at (drop at ns) ≡ rest =
        ap (summed_from at) (name_there n here) ∙ with_name n.role (name_with at) rest ∙ ap (λ (b : Bool). cond b (name_with at ∷ rest) rest) other in
        ap (λ (names : List Name). map name_with found ++ names) (sym there) ∙ so_far

  pub all_names : (found : List ℕ) → length ns ≤ at → map name_with found ++ summed_from at (drop at ns) ≡ total → map name_with found ≡ total
  all_names found done so_far =
      let none : summed_from at (drop at ns) ≡ [] = ap (summed_from at) (drop_all at ns done) in
      sym (append-nil (map name_with found)) ∙ ap (λ (names : List Name). map name_with found ++ names) (sym none) ∙ so_far

pub one_known : (n i : ℕ) → i < n → All (λ k. k < n) (i ∷ [])
one_known n i below zero d within = below
one_known n i below (suc k) d within = absurd (omega arith)
