-- Summed names have operators (`summed_act`), and there are as many of them as of their texts (`summed_length`).
use Rattle.ct_problem.proofs.Base.{◌≡◌, ◌≢◌, ℕ, suc, ◌+◌, ◌<◌, ◌≤◌, List, [], ◌∷◌, length, drop, get_or, Option, Some, slice_get, refl, sym, ap, ◌∙◌}
use Rattle.ct_problem.proofs.Base.{arith, drop-drop, get_or-drop, length-drop, slice_get-get_or, name_with, Still, known_action, EachName, Naming}
use Rattle.ct_problem.proofs.Base.{IsNaming, EachIsNaming, actions_of, summed_of, summed_from, with_summed, Role, summed_texts, with_text}
use Rattle.ct_ore.specs.declared.algebra.Role.TheVariants as role

lengths_from : (k : ℕ) (ns : List Naming) → length (summed_from k ns) ≡ length (summed_texts ns)
lengths_from k [] = refl
lengths_from k (n ∷ ns) = by n.role (lengths_from (k + 1) ns)
  where
    by : (r : Role) → length (summed_from (k + 1) ns) ≡ length (summed_texts ns) →
        length (with_summed r (name_with k) (summed_from (k + 1) ns)) ≡ length (with_text r n.text (summed_texts ns))
    by role.Free rest = rest
    by role.Summed rest = ap suc rest
    by role.Param rest = rest

pub summed_length : (ns : List Naming) → length (summed_of ns) ≡ length (summed_texts ns)
unfolding summed_of
summed_length ns = lengths_from 0 ns

-- a name that isn't a parameter has an operator
moves : (n : Naming) → IsNaming n → n.role ≡ role.Summed → n.action ≢ Still
moves n h summed still = let param = h.still_parameters.0 still in cc

module _ (ns : List Naming) (few : length ns ≤ 6) where
  action_there : (k : ℕ) (n : Naming) (rest : List Naming) → n ∷ rest ≡ drop k ns → actions_of ns (name_with k) ≡ n.action
  action_there k n rest e =
      let size : suc (length rest) ≡ length (drop k ns) = ap length e in
      let below : k < length ns = omega (arith, size, length-drop k ns) in
      let place : k + 0 ≡ k = omega arith in
      let here : n ≡ get_or ns k n = ap (λ (ms : List Naming). get_or ms 0 n) e ∙ get_or-drop k ns 0 n ∙ ap (λ (m : ℕ). get_or ns m n) place in
      let found : slice_get ns k ≡ Some n = slice_get-get_or ns k n below ∙ ap (λ (m : Naming). let o : Option Naming = Some m in o) (sym here) in
      known_action ns n k (omega arith) found

  acts_from : (k : ℕ) (rest : List Naming) → rest ≡ drop k ns → EachIsNaming rest → EachName (λ j. actions_of ns j ≢ Still) (summed_from k rest)
  acts_from k [] e each = tt
  acts_from k (n ∷ rest) e each = by n.role refl (acts_from (k + 1) rest (ap (drop 1) e ∙ drop-drop 1 k ns) each.1)
    where
      by : (r : Role) → n.role ≡ r → EachName (λ j. actions_of ns j ≢ Still) (summed_from (k + 1) rest) →
          EachName (λ j. actions_of ns j ≢ Still) (with_summed r (name_with k) (summed_from (k + 1) rest))
      by role.Free is more = more
      by role.Summed is more = ((λ still. moves n each.0 is (sym (action_there k n rest e) ∙ still)), more)
      by role.Param is more = more

  pub summed_act : EachIsNaming ns → EachName (λ j. actions_of ns j ≢ Still) (summed_of ns)
  unfolding summed_of
  summed_act each = acts_from 0 ns refl each
