-- Symbols that commute on the rows. Main lemmas: `acted_entries`, by which the entries of an acted row are those of `action`;
-- `comparing_more` and `comparing_end`, cited where entries are compared; `numbers_in_order` and `rows_pass`, where pairs of names are.
use Rattle.ct_border.proofs.Base.{◌≡◌, ◌≢◌, ℕ, suc, ◌+◌, ◌-◌, ◌<◌, true, false, Bool, Contains, List, [], ◌∷◌, ◌⊎◌, inl, inr, length, get_or, map, Ok}
use Rattle.ct_border.proofs.Base.{◌>>=◌, refl, sym, ◌∙◌, ap, ap₂, subst, arith, All, All-cons, All-tail, AllPairs, pairs_tail}
use Rattle.ct_border.proofs.Base.{Contains-get_or, contains_filter_cases, range_with_len, Action, Shift, Derive, Still, Name, name_with, place}
use Rattle.ct_border.proofs.Base.{actions_of, no_action, ltb, ltb-true, ltb-false}
use Rattle.std.proofs.Common.{below_more}
use Rattle.std.proofs.Math.Nat.{eq-or-lt_of_le}
use Rattle.std.proofs.lemmas.Grind.{flat_map-append}
use Rattle.std.proofs.lemmas.List.Kept.{AllPairs-cons}
use Rattle.std.proofs.lemmas.List.{get_or-map, get_or_default, length-map}
use Rattle.std.specs.Global.{Vec}
use Rattle.std.specs.List.{zip}
use Rattle.ct_algebra.specs.Actions.{by_action}
use Rattle.ct_algebra.specs.Field.{K, field, coefficients}
use Rattle.ct_checked.specs.Checked.{Checked}
use Rattle.ct_frac.specs.Arithmetic.{checked_same_value}
use Rattle.ct_frac.specs.Written.{Written, value}
use Rattle.ct_module.proofs.FreeColumns.{fold_append}
use Rattle.ct_module.proofs.Ranges.{range_opens}
use Rattle.ct_module.specs.Action.{checked_act}
use Rattle.ct_module.specs.Fitting.{HasLengths}
use Rattle.ct_module.specs.Modules.{WrittenModule, dimension, rows_of, row_of}
use Rattle.ct_module.specs.Values.{rows_by_value, values, vector_of}
use Rattle.ct_module.specs.Views.{rows_in}
use Rattle.ct_ore.specs.Naming.{Naming}
use Rattle.ct_telescoping.specs.Laws.ActionLaws.{action-same}
use Rattle.ct_telescoping.specs.RowAction.{action}
use Rattle.ct_telescoping.specs.StaircaseModule.{Rows}
use Rattle.ct_telescoping.specs.Tested.{PassesTests, acted}
use Rattle.ct_telescoping.specs.Vector.{entry, entry-vector}
use Rattle.ct_telescoping.specs.VectorModule.{entry-act_vector}
use Rattle.ct_border.specs.Build.{Built, NotClosed, closed_test, commute_tests, each_passes, entry_test, entries_test, fitting, on_elements}
use Rattle.ct_border.specs.Build.{on_pairs, pairs, pairs_to_test, unless}
unfoldable use Rattle.ct_border.specs.Build.{commutes_test}
use Rattle.ct_border.specs.BuildMeans.{DoNotCommute}
use Rattle.ct_border.specs.Modules.{AreInOrder, CommuteAt, CommuteOnRows}
use Rattle.ct_border.specs.Staircase.{acts, operator_numbers}
use Rattle.ct_border.proofs.NamesWithOperators.{name_with-place, acting, number_of_acting, numbers_rise, numbers_small}

-- ---- rows of names with operators

pub known_name : (ns : List Naming) (i : ℕ) → i < 6 → actions_of ns (name_with i) ≢ Still → i < length ns
known_name ns i small other = by (ltb i (length ns)) refl
  where
    by : (b : Bool) → ltb i (length ns) ≡ b → i < length ns
    by true less = ltb-true i (length ns) less
    by false past = absurd (other (no_action ns i small (ltb-false i (length ns) past)))

module _ (ns : List Naming) (m : WrittenModule) (i b : ℕ) where
  row_within : HasLengths ns m → actions_of ns (name_with i) ≢ Still → b < dimension m → b < length (rows_of m (name_with i))
  row_within lengths other within = subst (λ n. b < n) (sym (lengths.rows (name_with i) ∙ count (actions_of ns (name_with i)) other)) within
    where
      count : (t : Action) → t ≢ Still → by_action t (dimension m) (dimension m) 0 ≡ dimension m
      count Shift other = refl
      count Derive other = refl
      count Still other = absurd (other refl)

  pub row_of_element :
      (rows : List (Vec Written)) (row : Vec Written) → HasLengths ns m → actions_of ns (name_with i) ≢ Still → b < dimension m →
      rows_in rows ≡ rows_of m (name_with i) → row ≡ get_or rows b row → row.items ≡ row_of m (name_with i) b
  row_of_element rows row lengths other within same is =
      ap (λ (r : Vec Written). r.items) is
      ∙ sym (get_or-map (λ (r : Vec Written). r.items) rows b row []
      (subst (λ n. b < n) (sym (ap length same) ∙ length-map rows (λ (r : Vec Written). r.items)) (row_within lengths other within)))
      ∙ ap (λ l. get_or l b []) same

  pub row_size : HasLengths ns m → actions_of ns (name_with i) ≢ Still → b < dimension m → length (row_of m (name_with i) b) ≡ dimension m
  row_size lengths other within = lengths.filled (name_with i) b [] (row_within lengths other within)

pub acted_entries :
    (a : Name → Action) (d : ℕ) (M : Rows) (i j : Name) (b : ℕ) (v w : List Written) → ((c : ℕ) → values v c ≡ M i b c) →
    vector_of d w ≡ acted a d M j (vector_of d v) → (c : ℕ) → c < d → values w c ≡ action field (coefficients a) d M j (M i b) c
acted_entries a d M i j b v w row means c within =
    sym (entry-vector field.group d (values w) c within) ∙ ap (λ u. entry field.group d u c) means
    ∙ entry-act_vector field d (coefficients a) M j (vector_of d v) c within
    ∙ action-same field (coefficients a) d M j _ (M i b) c within (λ k below. entry-vector field.group d (values v) k below ∙ row k)

-- ---- two rows, entry by entry

module _ (ns : List Naming) (m : WrittenModule) (i j b : ℕ) where
  abbrev one_at : ℕ → K
  one_at c = action field (coefficients (actions_of ns)) (dimension m) (rows_by_value m) (name_with j) (rows_by_value m (name_with i) b) c

  abbrev other_at : ℕ → K
  other_at c = action field (coefficients (actions_of ns)) (dimension m) (rows_by_value m) (name_with i) (rows_by_value m (name_with j) b) c

  abbrev entries_from : ℕ → List Written → List Written → Built (Unit {0})
  entries_from k left right = each_passes (entry_test ((i, j), b)) (zip (range_with_len k (length left)) (zip left right))

  -- what is left of both, once the entries before a place are equal
  pub record IsComparing (k : ℕ) (left right : List Written) : Type 0 where
    pub steps : commutes_test ns m ((i, j), b) ≡ entries_from k left right
    pub many : k + length left ≡ dimension m
    pub same : length left ≡ length right
    pub one : (c : ℕ) → c < length left → values left c ≡ one_at (k + c)
    pub other : (c : ℕ) → c < length left → values right c ≡ other_at (k + c)
    pub equal : (c : ℕ) → c < k → CommuteAt (actions_of ns) (dimension m) (rows_by_value m) i j b c

  pub comparing_start :
      (v w : List Written) → checked_act ns m (name_with j) (row_of m (name_with i) b) ≡ Ok v →
      checked_act ns m (name_with i) (row_of m (name_with j) b) ≡ Ok w → length v ≡ dimension m → length w ≡ dimension m →
      ((c : ℕ) → c < dimension m → values v c ≡ one_at c) → ((c : ℕ) → c < dimension m → values w c ≡ other_at c) → IsComparing 0 v w
  unfolding commutes_test
  comparing_start v w made also size same one other = record {
    steps = ap (λ r. fitting r >>= (λ v. fitting (checked_act ns m (name_with i) (row_of m (name_with j) b)) >>=
        (λ w. entries_test ((i, j), b) v w))) made ∙ ap (λ r. fitting r >>= (λ w. entries_test ((i, j), b) v w)) also;
    many = omega (arith, size);
    same = size ∙ sym same;
    one = λ c within. one c (omega (arith, within, size)) ∙ ap one_at (let at : c ≡ 0 + c = omega arith in at);
    other = λ c within. other c (omega (arith, within, size)) ∙ ap other_at (let at : c ≡ 0 + c = omega arith in at);
    equal = λ c none. absurd (omega (arith, none));
  }

  module _ (k : ℕ) (left right more others : List Written) (x y : Written) (comparing : IsComparing k left right)
      (opens : left ≡ x ∷ more) (also : right ≡ y ∷ others) where
    comparing_open :
        (r : Checked Bool) → checked_same_value x y ≡ r →
        commutes_test ns m ((i, j), b) ≡ ((fitting r >>= (λ same. unless same (NotClosed i j b k x y))) >>= (λ _. entries_from (k + 1) more others))
    comparing_open r told =
        comparing.steps ∙ ap₂ (entries_from k) opens also
        ∙ ap (λ r. (fitting r >>= (λ same. unless same (NotClosed i j b k x y))) >>= (λ _. entries_from (k + 1) more others)) told

    one_here : value x ≡ one_at k
    one_here =
        ap (λ l. values l 0) (sym opens) ∙ comparing.one 0 (omega (arith, ap length opens)) ∙ ap one_at (let at : k + 0 ≡ k = omega arith in at)

    other_here : value y ≡ other_at k
    other_here =
        ap (λ l. values l 0) (sym also) ∙ comparing.other 0 (omega (arith, ap length opens)) ∙ ap other_at (let at : k + 0 ≡ k = omega arith in at)

    pub comparing_more : checked_same_value x y ≡ Ok true → value x ≡ value y → IsComparing (k + 1) more others
    comparing_more told equal = record {
      steps = comparing_open (Ok true) told;
      many = omega (arith, comparing.many, ap length opens);
      same = omega (arith, comparing.same, ap length opens, ap length also);
      one = λ c within. ap (λ l. values l (suc c)) (sym opens) ∙ comparing.one (suc c) (omega (arith, within, ap length opens))
          ∙ ap one_at (let at : k + suc c ≡ (k + 1) + c = omega arith in at);
      other = λ c within. ap (λ l. values l (suc c)) (sym also) ∙ comparing.other (suc c) (omega (arith, within, ap length opens))
          ∙ ap other_at (let at : k + suc c ≡ (k + 1) + c = omega arith in at);
      equal = below_more _ _ comparing.equal (sym one_here ∙ equal ∙ other_here);
    }

    pub not_commuting :
        AreInOrder (actions_of ns) i j → b < dimension m → value x ≢ value y →
        DoNotCommute (actions_of ns) (dimension m) (rows_by_value m) i j b k x y
    not_commuting names low differ = record {
      in_order = names.in_order;
      known = names.known;
      first_acts = names.first_acts;
      second_acts = names.second_acts;
      of_element = low;
      at_place = omega (arith, comparing.many, ap length opens);
      one = one_here;
      other = other_here;
      differ = differ;
    }

  pub comparing_end :
      (k : ℕ) (left right : List Written) → IsComparing k left right → length left ≡ 0 → (c : ℕ) → c < dimension m →
      CommuteAt (actions_of ns) (dimension m) (rows_by_value m) i j b c
  comparing_end k left right comparing none c within = comparing.equal c (omega (arith, comparing.many, none, within))

-- ---- pairs of names

module _ (a : Name → Action) where
  numbers_act : (p : ℕ) (d : ℕ) → p < length (operator_numbers a) → a (name_with (get_or (operator_numbers a) p d)) ≢ Still
  numbers_act p d within still =
      let told = (contains_filter_cases (λ i. acts (a (name_with i))) (range_with_len 0 6) _ (Contains-get_or (operator_numbers a) p d within)).1 in
      let bad : true ≡ false = sym told ∙ ap acts still in cc

  pub numbers_in_order : AllPairs (AreInOrder a) (operator_numbers a)
  numbers_in_order p q d less within = record {
    in_order = numbers_rise a p q d less within;
    known = numbers_small a q d within;
    first_acts = numbers_act p d (omega (arith, less, within));
    second_acts = numbers_act q d within;
  }

  pub rows_pass : (d : ℕ) (M : Rows) → AllPairs (CommuteOnRows a d M) (operator_numbers a) → PassesTests a d M
  rows_pass d M commute i j first second order b low c small =
      let one = number_of_acting a i (acting (a i) first) in
      let other = number_of_acting a j (acting (a j) second) in
      subst (λ i. Commuting i j) (number_at i one) (subst (Commuting (name_with (get_or (operator_numbers a) one.0 0))) (number_at j other)
      (commute one.0 other.0 0 (rising one other) other.1)) b low c small
    where
      Commuting : Name → Name → Type 0
      Commuting i j =
          (b : ℕ) → b < d → (c : ℕ) → c < d → action field (coefficients a) d M j (M i b) c ≡ action field (coefficients a) d M i (M j b) c

      at : (i : Name) (found : Contains (operator_numbers a) (place i)) → get_or (operator_numbers a) found.0 0 ≡ place i
      at i found = get_or_default (operator_numbers a) found.0 0 (place i) found.1 ∙ found.2

      number_at : (i : Name) (found : Contains (operator_numbers a) (place i)) → name_with (get_or (operator_numbers a) found.0 0) ≡ i
      number_at i found = ap name_with (at i found) ∙ name_with-place i

      rising : (one : Contains (operator_numbers a) (place i)) (other : Contains (operator_numbers a) (place j)) → one.0 < other.0
      rising one other = by (ltb one.0 other.0) refl
        where
          not_before : (other.0 ≡ one.0) ⊎ (other.0 < one.0) → ⊥
          not_before (inl same) =
              let places = sym (at j other) ∙ ap (λ k. get_or (operator_numbers a) k 0) same ∙ at i one in omega (arith, places, order)
          not_before (inr less) =
              let back = numbers_rise a other.0 one.0 0 less one.1 in omega (arith, back, at i one, at j other, order)

          by : (b : Bool) → ltb one.0 other.0 ≡ b → one.0 < other.0
          by true less = ltb-true one.0 other.0 less
          by false most = absurd (not_before (eq-or-lt_of_le (ltb-false one.0 other.0 most)))

-- ---- all rows of pairs of names

module _ (ns : List Naming) (m : WrittenModule) where
  abbrev d : ℕ
  d = dimension m

  abbrev InOrder : ℕ → ℕ → Type 0
  InOrder = AreInOrder (actions_of ns)

  abbrev Commute : ℕ → ℕ → Type 0
  Commute = CommuteOnRows (actions_of ns) d (rows_by_value m)

  abbrev pub rows_from : ℕ × ℕ → ℕ → Built (Unit {0})
  rows_from p k = commute_tests ns m (map (λ b. (p, b)) (range_with_len k (d - k)))

  pub rows_open :
      (p : ℕ × ℕ) (k : ℕ) → k < d → (r : Built (Unit {0})) → commutes_test ns m (p, k) ≡ r → rows_from p k ≡ (r >>= (λ _. rows_from p (k + 1)))
  rows_open p k within r told =
      ap (λ bs. commute_tests ns m (map (λ b. (p, b)) bs)) (range_opens k d within)
      ∙ ap (λ (r : Built (Unit {0})). r >>= (λ _. rows_from p (k + 1))) told

  abbrev pub tests_with : ℕ → List ℕ → Built (Unit {0})
  tests_with i js = commute_tests ns m (on_pairs d (map (λ j. (i, j)) js))

  -- a name with those that are left
  pub record IsPairing (i : ℕ) (others rest : List ℕ) : Type 0 where
    pub steps : tests_with i others ≡ tests_with i rest
    pub names : All (InOrder i) rest
    pub means : All (Commute i) rest → All (Commute i) others

  pub pairing_open :
      (i : ℕ) (others rest more : List ℕ) (j : ℕ) → IsPairing i others rest → rest ≡ j ∷ more →
      (r : Built (Unit {0})) → commute_tests ns m (on_elements d (i, j)) ≡ r → tests_with i others ≡ (r >>= (λ _. tests_with i more))
  pairing_open i others rest more j pairing opens r told =
      pairing.steps ∙ ap (tests_with i) opens
      ∙ fold_append (λ _ t. commutes_test ns m t) tt (on_elements d (i, j)) (on_pairs d (map (λ j. (i, j)) more))
      ∙ ap (λ (r : Built (Unit {0})). r >>= (λ _. tests_with i more)) told

  pub pairing_more :
      (i : ℕ) (others rest more : List ℕ) (j : ℕ) → IsPairing i others rest → rest ≡ j ∷ more →
      commute_tests ns m (on_elements d (i, j)) ≡ Ok tt → Commute i j → IsPairing i others more
  pairing_more i others rest more j pairing opens passes commute = record {
    steps = pairing_open i others rest more j pairing opens (Ok tt) passes;
    names = All-tail (InOrder i) j more (subst (All (InOrder i)) opens pairing.names);
    means = λ all. pairing.means (subst (All (Commute i)) (sym opens) (All-cons (Commute i) j more commute all));
  }

  -- the names that are left
  pub record IsClosing (rest : List ℕ) : Type 0 where
    pub steps : closed_test ns m ≡ commute_tests ns m (pairs_to_test rest d)
    pub names : AllPairs InOrder rest
    pub means : AllPairs Commute rest → AllPairs Commute (operator_numbers (actions_of ns))

  pub closing_start : (rest : List ℕ) → rest ≡ operator_numbers (actions_of ns) → IsClosing rest
  closing_start rest same =
      subst IsClosing (sym same) (record { steps = refl; names = numbers_in_order (actions_of ns); means = λ pairs. pairs })

  pub closing_open :
      (rest others : List ℕ) (i : ℕ) → IsClosing rest → rest ≡ i ∷ others → (r : Built (Unit {0})) → tests_with i others ≡ r →
      closed_test ns m ≡ (r >>= (λ _. commute_tests ns m (pairs_to_test others d)))
  closing_open rest others i closing opens r told =
      closing.steps ∙ ap (λ is. commute_tests ns m (pairs_to_test is d)) opens
      ∙ ap (commute_tests ns m) (flat_map-append (on_elements d) (map (λ j. (i, j)) others) (pairs others))
      ∙ fold_append (λ _ t. commutes_test ns m t) tt (on_pairs d (map (λ j. (i, j)) others)) (pairs_to_test others d)
      ∙ ap (λ (r : Built (Unit {0})). r >>= (λ _. commute_tests ns m (pairs_to_test others d))) told

  pub closing_more :
      (rest others : List ℕ) (i : ℕ) → IsClosing rest → rest ≡ i ∷ others → tests_with i others ≡ Ok tt → All (Commute i) others →
      IsClosing others
  closing_more rest others i closing opens passes commute = record {
    steps = closing_open rest others i closing opens (Ok tt) passes;
    names = pairs_tail InOrder i others (subst (AllPairs InOrder) opens closing.names);
    means = λ pairs. closing.means (subst (AllPairs Commute) (sym opens) (AllPairs-cons Commute i others commute pairs));
  }

  pub closing_end : (rest : List ℕ) → IsClosing rest → length rest ≡ 0 → PassesTests (actions_of ns) d (rows_by_value m)
  closing_end rest closing none =
      rows_pass (actions_of ns) d (rows_by_value m) (closing.means (λ p q default less within. absurd (omega (arith, none, within))))
