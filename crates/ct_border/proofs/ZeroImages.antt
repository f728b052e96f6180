-- Images of generators, and whether they are zero. Main lemmas `zeros_more`, `killing_start`, `killing_more` and `killing_end`, cited where the
-- loops of `all_zero` and `killed` begin, go on and end, and `not_killed`, where an image is not zero.
use Rattle.ct_border.proofs.Base.{◌≡◌, ℕ, suc, ◌+◌, ◌-◌, ◌<◌, true, List, [], ◌∷◌, ◌++◌, length, get_or, take, Ok, ◌>>=◌, refl, sym, ◌∙◌, ap}
use Rattle.ct_border.proofs.Base.{subst, arith, All, All-cons, All-nil, All-tail, Operator, polys, actions_of, range_with_len}
use Rattle.std.proofs.Common.{◌↔◌, ◌&&◌, add-one, drop, drop-cons, length-drop}
use Rattle.std.proofs.Math.Seq.{take-suc, take-length}
use Rattle.std.proofs.lemmas.List.{get_or_default}
use Rattle.std.proofs.lemmas.List.Elements.{All-append}
use Rattle.std.specs.List.{zip}
use Rattle.ct_algebra.specs.Actions.{Action}
use Rattle.ct_algebra.specs.Field.{field}
use Rattle.ct_algebra.specs.Monomial.{Mono}
use Rattle.ct_algebra.specs.Names.{Name}
use Rattle.ct_frac.proofs.Denominators.{den_nonzero}
use Rattle.ct_frac.proofs.Quotients.{over_zero}
unfoldable use Rattle.ct_border.proofs.Base.{no_operator}
unfoldable use Rattle.ct_frac.specs.Written.{value}
use Rattle.ct_frac.specs.Written.{Written, IsWritten, multiplied_out}
use Rattle.ct_frac.proofs.Fractions.{whole-value}
use Rattle.ct_module.proofs.TestedColumns.{made_by_symbols}
use Rattle.ct_module.specs.Columns.{symbols_of}
use Rattle.ct_module.specs.Combination.{checked_image}
use Rattle.ct_module.specs.Modules.{WrittenModule, dimension, written_zero}
use Rattle.ct_module.specs.Values.{made_by, values, vector_of, rows_by_value}
use Rattle.ct_ore.specs.Naming.{Naming}
use Rattle.ct_telescoping.specs.StaircaseModule.{Rows}
use Rattle.ct_telescoping.specs.Tested.{combined, image}
unfoldable use Rattle.ct_telescoping.specs.Tested.{free_column}
use Rattle.ct_telescoping.specs.Vector.{entry, entry-vector, entry-zero_vector, same_vector, unit_vector, zero_vector}
use Rattle.ct_border.specs.Build.{Built, NotKilled, fitting, each_passes, unless, is_zero_fraction, all_zero, killed_test, killed_tests}
use Rattle.ct_border.specs.BuildMeans.{IsKilled, IsNotZeroImage}

-- ---- fractions that are zero

-- zero is written in one way
pub zero_value : (w : Written) → IsWritten w → (w.numerator ≡ polys.zero) ↔ (value w ≡ field.zero)
unfolding value
zero_value w is = (
  λ none. ap value (whole none) ∙ whole-value polys.zero,
  λ zero. over_zero w.numerator (multiplied_out w.den) (den_nonzero w.den is.den) zero,
)
  where
    whole : w.numerator ≡ polys.zero → w ≡ written_zero
    whole none = let one = is.zero_over_one none in λ i. record { numerator = none i; den = record { whole = one.0 i; factors = one.1 i } }

abbrev pub AreZero : List Written → Type 0
AreZero ws = All (λ w. value w ≡ field.zero) ws

-- the entries that are passed are zero
pub record IsPassingZeros (v rest : List Written) : Type 0 where
  pub steps : all_zero v ≡ all_zero rest
  pub means : AreZero v ↔ AreZero rest

pub zeros_more :
    (v rest more : List Written) (w : Written) → IsPassingZeros v rest → rest ≡ w ∷ more → is_zero_fraction w ≡ true → value w ≡ field.zero →
    IsPassingZeros v more
zeros_more v rest more w before opens told zero = record {
  steps = before.steps ∙ ap all_zero opens ∙ ap (λ b. b && all_zero more) told;
  means = (
    λ all. All-tail (λ w. value w ≡ field.zero) w more (subst AreZero opens (before.means.0 all)),
    λ all. before.means.1 (subst AreZero (sym opens) (All-cons (λ w. value w ≡ field.zero) w more zero all)),
  );
}

-- ---- vectors that are zero

pub zero_entries : (d : ℕ) (w : List Written) → length w ≡ d → AreZero w ↔ (vector_of d w ≡ zero_vector field.group d)
zero_entries d w size = (
  λ all. same_vector field.group d _ _ (λ k within.
      entry-vector field.group d (values w) k within ∙ all k written_zero (subst (λ n. k < n) (sym size) within)
      ∙ sym (entry-zero_vector field.group d k within)),
  λ zero k default within.
      let small = subst (λ n. k < n) size within in
      ap value (get_or_default w k default written_zero within) ∙ sym (entry-vector field.group d (values w) k small)
      ∙ ap (λ v. entry field.group d v k) zero ∙ entry-zero_vector field.group d k small,
)

module _ (a : Name → Action) (d : ℕ) (M : Rows) where
  column-symbols : (γ : Mono) → made_by a d M (symbols_of γ) (unit_vector field d 0) ≡ free_column a d M γ
  unfolding free_column
  column-symbols γ = made_by_symbols a d M γ (unit_vector field d 0)

-- ---- generators in order

record OpensAt (xs : List Operator) (k : ℕ) (x : Operator) (more : List Operator) : Type 0 where
  pub within : k < length xs
  pub here : (d : Operator) → get_or xs k d ≡ x
  pub later : more ≡ drop (k + 1) xs

drop_opens : (xs : List Operator) (k : ℕ) (x : Operator) (more : List Operator) → drop k xs ≡ x ∷ more → OpensAt xs k x more
drop_opens xs k x more is =
    let within : k < length xs = omega (arith, sym (length-drop k xs) ∙ ap length is) in
    let opens : (d : Operator) → get_or xs k d ∷ drop (suc k) xs ≡ x ∷ more = λ d. sym (drop-cons xs k d within) ∙ is in
    record {
      within = within;
      here = λ d. let both = opens d in cc;
      later = let both = opens x in let tail : more ≡ drop (suc k) xs = cc in tail ∙ ap (λ n. drop n xs) (sym (add-one k));
    }

module _ (ns : List Naming) (m : WrittenModule) (gs : List Operator) where
  abbrev d : ℕ
  d = dimension m

  abbrev M : Rows
  M = rows_by_value m

  abbrev Killed : Operator → Type 0
  Killed g = IsKilled (actions_of ns) d M g

  abbrev tests_from : ℕ → List Operator → Built (Unit {0})
  tests_from number rest = each_passes (killed_test ns m) (zip (range_with_len (number + 1) (length rest)) rest)

  -- the images before are zero
  pub record IsKilling (number : ℕ) (rest : List Operator) : Type 0 where
    pub steps : killed_tests ns m gs ≡ tests_from number rest
    pub rest_is : rest ≡ drop number gs
    pub many : number + length rest ≡ length gs
    pub before : All Killed (take number gs)

  pub killing_start : IsKilling 0 gs
  killing_start = record { steps = refl; rest_is = refl; many = omega arith; before = All-nil Killed }

  module _ (number : ℕ) (rest more : List Operator) (g : Operator) (killing : IsKilling number rest) (opens : rest ≡ g ∷ more) where
    abbrev place : OpensAt gs number g more
    place = drop_opens gs number g more (sym killing.rest_is ∙ opens)

    pub killing_over : (P : Operator → Type 0) → All P gs → P g
    killing_over P all = subst P (place.here g) (all number g place.within)

    module _ (v w : List Written) (start_is : v ≡ m.start) (begins : vector_of d m.start ≡ unit_vector field d 0)
        (made : checked_image ns m v g ≡ Ok w) (size : length w ≡ d)
        (means : vector_of d w ≡ combined (λ γ. made_by (actions_of ns) d M (symbols_of γ) (vector_of d v)) g) where
      value_is : vector_of d w ≡ image (actions_of ns) d M g
      value_is =
          means ∙ ap (λ u. combined (λ γ. made_by (actions_of ns) d M (symbols_of γ) u) g) (ap (vector_of d) start_is ∙ begins)
          ∙ ap (λ f. combined f g) (λ i γ. column-symbols (actions_of ns) d M γ i)

      pub killing_more : all_zero w ≡ true → AreZero w → IsKilling (number + 1) more
      killing_more told zero = record {
        steps = killing.steps ∙ ap (tests_from number) opens
            ∙ ap (λ r. (fitting r >>= (λ w. unless (all_zero w) (NotKilled (number + 1) w))) >>= (λ _. tests_from (number + 1) more))
            (ap (λ v. checked_image ns m v g) (sym start_is) ∙ made)
            ∙ ap (λ b. unless b (NotKilled (number + 1) w) >>= (λ _. tests_from (number + 1) more)) told;
        rest_is = place.later;
        many = omega (arith, killing.many, ap length opens);
        before =
            subst (All Killed) (ap (λ x. take number gs ++ x ∷ []) (sym (place.here g)) ∙ sym (take-suc gs number g place.within)
            ∙ ap (λ k. take k gs) (sym (add-one number)))
            (All-append Killed (take number gs) (g ∷ []) killing.before
            (All-cons Killed g [] (sym value_is ∙ (zero_entries d w size).0 zero) (All-nil Killed)));
      }

      pub not_killed : (AreZero w → ⊥) → IsNotZeroImage (actions_of ns) gs d M (number + 1) w
      not_killed nonzero =
          let back : (number + 1) - 1 ≡ number = omega arith in
          let image_is = value_is
          ∙ ap (image (actions_of ns) d M) (sym (ap (λ k. get_or gs k no_operator) back ∙ place.here no_operator)) in
          record {
            some = omega arith;
            within = omega (arith, place.within);
            before = subst (λ k. All Killed (take k gs)) (sym back) killing.before;
            size = size;
            image_is = image_is;
            nonzero = λ killed. nonzero ((zero_entries d w size).1 (image_is ∙ killed));
          }

  pub killing_end : (number : ℕ) (rest : List Operator) → IsKilling number rest → length rest ≡ 0 → All Killed gs
  killing_end number rest killing none =
      subst (All Killed) (take-length gs)
      (subst (λ k. All Killed (take k gs)) (let all : number ≡ length gs = omega (arith, killing.many, none) in all) killing.before)
