-- A refused list is not tested: main lemma `refused_rightly`. `no_longer` bounds the length of a list without repetition, and
-- `stair_refused`, `unclosed` and `unkilled` say it where `build` hands a refusal on.
use Rattle.ct_border.proofs.Base.{◌≡◌, ℕ, ◌-◌, ◌≤◌, ◌∙◌, arith, sym, subst, refl, List, length, All, Contains, Name, Action}
use Rattle.ct_border.proofs.Base.{Option, None, Some, Err, Mono, unit, Operator, OperatorLeads, name_with, place-name_with, mono_eq_decides}
use Rattle.ct_algebra.specs.Operators.{no_operator}
use Rattle.std.proofs.lemmas.Map.Made.{length-le_from_is_member, IsDistinct-from_AllPairs}
use Rattle.std.proofs.lemmas.Map.Views.{Contains-from_any, list_any-from_Contains}
use Rattle.std.specs.Option.{option_map}
use Rattle.std.specs.Prelude.{IfSome}
use Rattle.ct_mono.specs.Equal.{mono_eq_equiv}
use Rattle.ct_telescoping.proofs.ListParts.{once_at}
use Rattle.ct_telescoping.proofs.OrderedLists.{contains_listed}
use Rattle.ct_telescoping.specs.Rising.{IsOnce}
use Rattle.ct_telescoping.specs.StaircaseModule.{Rows}
use Rattle.ct_telescoping.specs.Tested.{PassesTests}
use Rattle.ct_telescoping.specs.Vector.{listed, length-listed}
use Rattle.ct_border.specs.Build.{BuildRefusal, NoStaircase, NotClosed, NotKilled}
use Rattle.ct_border.specs.BuildMeans.{AreItsRows, IsTestedList, IsUnbuilt, IsJudged, IsRefusedRightly}
use Rattle.ct_border.specs.Modules.{IsUnclosed, IsUnkilled}
use Rattle.ct_border.specs.Staircase.{Refusal, ZeroGenerator, Trivial, NotFinite, checked_staircase}
use Rattle.ct_border.specs.StaircaseMeans.{Remains, IsRefused}
use Rattle.ct_border.proofs.OwnRows.{own_pass}
use Rattle.ct_border.proofs.Refused.{refusals_right}

-- monomials, once each, are no more than those that have them all
no_longer : (ms ns : List Mono) → IsOnce ms → ((m : Mono) → Contains ms m → Contains ns m) → length ms ≤ length ns
no_longer ms ns once within =
    length-le_from_is_member mono_eq_equiv ms ns
    (IsDistinct-from_AllPairs mono_eq_decides ms (λ i j past less below same.
    omega (arith, less, once_at ms past once i j (omega (arith, less, below)) below same)))
    (λ m found. list_any-from_Contains mono_eq_equiv m ns (within m (Contains-from_any (λ x y equal. (mono_eq_decides x y).0 equal) m ms found)))

module _ (a : Name → Action) (gs : List Operator) where
  -- the staircase of a tested list has at most 16 elements, and whatever remains is one of them
  few_remain : IsTestedList a gs → (ms : List Mono) → IsOnce ms → All (Remains a gs) ms → length ms ≤ 16
  few_remain list ms once remain =
      let t = list.tested in
      let within = no_longer ms (listed list.element 0 list.dimension) once (λ m found.
      let is = t.staircase.complete m (here m found).0 (here m found).1 in
      subst (Contains (listed list.element 0 list.dimension)) (sym is.is)
      (contains_listed list.element 0 list.dimension is.place (omega arith) (omega (arith, is.in_range)))) in
      omega (arith, within, length-listed list.element 0 list.dimension, t.few)
    where
      here : (m : Mono) → Contains ms m → Remains a gs m
      here m found = subst (Remains a gs) found.2 (remain found.0 m found.1)

  no_staircase : (r : Refusal) → IsRefused a gs r → ¬ IsTestedList a gs
  no_staircase (ZeroGenerator n) first list =
      list.tested.nonzero (n - 1) no_operator (omega (arith, first.some, first.within)) first.is
  no_staircase (Trivial n) (g, c, first, leads) list =
      list.tested.not_trivial (n - 1) no_operator (omega (arith, first.some, first.within)) unit c
      (subst (λ h. OperatorLeads h unit c) (sym first.is) leads) refl
  no_staircase (NotFinite i) (proper, acts, none, earlier) list = none (list.tested.finite (name_with i) acts)
  no_staircase (Refusal.Overflow k) (size, proper, finite, (ms, many, once, remain)) list =
      omega (arith, many, few_remain list ms once remain)

  untested : (r : BuildRefusal) → IsUnbuilt a gs r → IsJudged a gs r → ¬ IsTestedList a gs
  untested (NoStaircase r) holds judged list = no_staircase r holds list
  untested (NotClosed i j b c x y) holds judged list =
      let f = holds.fails in
      let passes = (own_pass a gs holds.dimension holds.element holds.rows holds.its list).0 in
      f.differ (f.one
      ∙ passes (name_with i) (name_with j) f.first_acts f.second_acts
      (omega (arith, f.in_order, f.known, place-name_with i (omega (arith, f.in_order, f.known)), place-name_with j f.known))
      b f.of_element c f.at_place ∙ sym f.other)
  untested (NotKilled n v) holds judged list =
      let f = holds.fails in
      f.nonzero ((own_pass a gs holds.dimension holds.element holds.rows holds.its list).1 (n - 1) no_operator (omega (arith, f.some, f.within)))
  untested (BuildRefusal.Overflow k) holds judged list = judged

  pub refused_rightly : (r : BuildRefusal) → IsUnbuilt a gs r → IsRefusedRightly a gs r
  refused_rightly r holds = record { holds = holds; untested = untested r holds }

  -- ---- where `build` hands a refusal on

  pub stair_refused :
      (o : Option Refusal) → IfSome o (λ r. checked_staircase a gs ≡ Err r) → IfSome (option_map NoStaircase o) (IsRefusedRightly a gs)
  stair_refused None refused = tt
  stair_refused (Some r) refused = refused_rightly (NoStaircase r) (refusals_right a gs r refused)

  module _ (d : ℕ) (element : ℕ → Mono) (M : Rows) (its : AreItsRows a gs d element M) where
    pub unclosed : (r : BuildRefusal) → IsUnclosed a d M r → IsRefusedRightly a gs r
    unclosed (NoStaircase r) fails = absurd fails
    unclosed (NotClosed i j b c x y) fails =
        refused_rightly (NotClosed i j b c x y) (record { dimension = d; element = element; rows = M; its = its; fails = fails })
    unclosed (NotKilled n v) fails = absurd fails
    unclosed (BuildRefusal.Overflow k) fails = refused_rightly (BuildRefusal.Overflow k) tt

    pub unkilled : PassesTests a d M → (r : BuildRefusal) → IsUnkilled a gs d M r → IsRefusedRightly a gs r
    unkilled passes (NoStaircase r) fails = absurd fails
    unkilled passes (NotClosed i j b c x y) fails = absurd fails
    unkilled passes (NotKilled n v) fails =
        refused_rightly (NotKilled n v)
        (record { dimension = d; element = element; rows = M; its = its; closed = passes; fails = fails })
    unkilled passes (BuildRefusal.Overflow k) fails = refused_rightly (BuildRefusal.Overflow k) tt
