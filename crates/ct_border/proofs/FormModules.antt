-- Lists of rows of normal forms make the module of a staircase: main lemmas `form_module`, and for a loop over the
-- names `lists_more`, `names_open`, `names_end` and `module_from`.
use Rattle.ct_border.proofs.Base.{◌≡◌, ◌≢◌, ◌∙◌, refl, sym, ap, subst, arith, ℕ, ◌+◌, ◌<◌, ◌≤◌, ◌⊎◌, inl, inr, List, [], ◌∷◌, ◌++◌, length}
use Rattle.ct_border.proofs.Base.{get_or, get_or_append_left, get_or_past, get_or_push, All, All-nil, Mono, unit, Name, name_with, place, place_small}
use Rattle.ct_border.proofs.Base.{Operator, length-append, actions_of, no_action, once_of_rises, polys, ◌>>=◌, drop, drop_all, drop_more, Ok}
use Rattle.ct_border.proofs.Base.{Action, Shift, Derive, Still, get_or-map-range_with_len, length-map-range_with_len}
use Rattle.std.proofs.Math.Nat.{eq-or-lt_of_le}
use Rattle.std.proofs.lemmas.List.{length-map}
use Rattle.ct_algebra.specs.Actions.{by_action}
use Rattle.ct_algebra.specs.Field.{field}
use Rattle.ct_algebra.specs.FreeOf.{IsOver}
use Rattle.ct_checked.specs.Checked.{Checked}
use Rattle.ct_checked.specs.Traversal.{checked_each}
use Rattle.ct_frac.proofs.Fractions.{whole-value}
use Rattle.ct_frac.specs.Written.{Written}
use Rattle.ct_module.proofs.Base.{empty_of_length}
use Rattle.ct_module.specs.Modules.{WrittenModule, rows_of}
use Rattle.ct_module.specs.Values.{values}
use Rattle.ct_ore.specs.Naming.{Naming}
use Rattle.ct_telescoping.proofs.StaircaseLawProofs.{rows_exist}
use Rattle.ct_telescoping.specs.Vector.{entry, entry-vector}
use Rattle.ct_border.specs.Build.{checked_rows_of, declared, unit_at}
unfoldable use Rattle.ct_border.specs.Build.{checked_module}
use Rattle.ct_border.specs.BuildMeans.{element_at}
use Rattle.ct_border.specs.Modules.{AreRowsOf, IsFormModule}
use Rattle.ct_border.specs.StaircaseMeans.{HasStaircase}
use Rattle.ct_border.proofs.NamesWithOperators.{name_with-place}
use Rattle.ct_border.proofs.StaircaseOfList.{staircase_of, grows_of}
use Rattle.ct_border.proofs.UnitVectors.{unit_at-vector}

-- the lists of the first n names
pub record AreLists (a : Name → Action) (gs : List Operator) (ms : List Mono) (n : ℕ) (lists : List (List (List Written))) : Type 0 where
  pub count : length lists ≡ n
  pub each : (k : ℕ) → k < n → AreRowsOf a gs ms (name_with k) (get_or lists k [])

-- what is chosen for a name with an operator
by_acting : {X : Type 0} (t : Action) (x y : X) → t ≢ Still → by_action t x x y ≡ x
by_acting Shift x y acts = refl
by_acting Derive x y acts = refl
by_acting Still x y acts = absurd (acts refl)

module _ (a : Name → Action) (gs : List Operator) (ms : List Mono) where
  rows_still : (i : Name) (rows : List (List Written)) → a i ≡ Still → rows ≡ [] → AreRowsOf a gs ms i rows
  rows_still i rows still none =
      let no_rows : by_action (a i) (length ms) (length ms) 0 ≡ 0 = ap (λ t. by_action t (length ms) (length ms) 0) still in
      record {
        count = ap length none ∙ sym no_rows;
        filled = subst (All (λ row. length row ≡ length ms)) (sym none) (All-nil (λ row. length row ≡ length ms));
        forms = λ b below. absurd (omega (arith, below, no_rows));
      }

  pub lists_more :
      (n : ℕ) (lists all : List (List (List Written))) (rows : List (List Written)) → AreLists a gs ms n lists →
      all ≡ lists ++ rows ∷ [] → AreRowsOf a gs ms (name_with n) rows → AreLists a gs ms (n + 1) all
  lists_more n lists all rows made whole are = subst (AreLists a gs ms (n + 1)) (sym whole) (record {
    count = omega (arith, length-append lists (rows ∷ []), made.count);
    each = λ k below. by k (eq-or-lt_of_le (omega (arith, below)));
  })
    where
      by : (k : ℕ) → (k ≡ n) ⊎ (k < n) → AreRowsOf a gs ms (name_with k) (get_or (lists ++ rows ∷ []) k [])
      by k (inl same) =
          subst (λ k. AreRowsOf a gs ms (name_with k) (get_or (lists ++ rows ∷ []) k [])) (sym same)
          (subst (AreRowsOf a gs ms (name_with n)) (sym (get_or_push lists rows [] n made.count)) are)
      by k (inr less) =
          subst (AreRowsOf a gs ms (name_with k)) (sym (get_or_append_left lists (rows ∷ []) [] k (omega (arith, less, made.count))))
          (made.each k less)

-- the module of the rows
abbrev pub made_of : List Mono → List (List (List Written)) → WrittenModule
made_of ms lists = record { basis = ms; rows = lists; start = unit_at ms unit }

module _ (ns : List Naming) where
  declared_many : length (declared ns) ≡ length ns
  declared_many = length-map-range_with_len name_with 0 (length ns)

  -- the next name, and those behind it
  pub names_open : (i : ℕ) → i < length ns → drop i (declared ns) ≡ name_with i ∷ drop (i + 1) (declared ns)
  names_open i below =
      drop_more (declared ns) i (name_with i) (omega (arith, below, declared_many))
      ∙ ap (λ j. j ∷ drop (i + 1) (declared ns))
      (get_or-map-range_with_len name_with 0 (length ns) i i (name_with i) below (omega arith))

  pub names_end : (i : ℕ) → length ns ≤ i → drop i (declared ns) ≡ []
  names_end i past = drop_all i (declared ns) (omega (arith, past, declared_many))

  pub module_from :
      (gs : List Operator) (ms : List Mono) (r : Checked (List (List (List Written)))) →
      checked_each (checked_rows_of (actions_of ns) gs ms) (declared ns) ≡ r →
      checked_module ns gs ms ≡ (r >>= (λ lists. Ok (made_of ms lists)))
  unfolding checked_module
  module_from gs ms r steps = ap (λ r. r >>= (λ lists. Ok (made_of ms lists))) steps

module _ (ns : List Naming) (gs : List Operator) (ms : List Mono) (lists : List (List (List Written)))
    (has : HasStaircase (actions_of ns) gs ms) (made : AreLists (actions_of ns) gs ms (length ns) lists) where
  abbrev a : Name → Action
  a = actions_of ns

  abbrev d : ℕ
  d = length ms

  abbrev m : WrittenModule
  m = made_of ms lists

  rows_are : (i : Name) → AreRowsOf a gs ms i (rows_of m i)
  rows_are i = by (either (length ns) (place i))
    where
      either : (n k : ℕ) → (n ≤ k) ⊎ (k < n)
      either n k = grind arith

      by : (length ns ≤ place i) ⊎ (place i < length ns) → AreRowsOf a gs ms i (rows_of m i)
      by (inl past) =
          rows_still a gs ms i (rows_of m i)
          (ap a (sym (name_with-place i)) ∙ no_action ns (place i) (place_small i) past)
          (get_or_past lists (place i) [] (omega (arith, past, made.count)))
      by (inr below) =
          subst (λ j. AreRowsOf a gs ms j (rows_of m i)) (name_with-place i) (made.each (place i) below)

  pub form_module : All (IsOver a) gs → IsFormModule ns gs ms m
  form_module over =
      let staircase = staircase_of a gs ms has in
      let grows = grows_of a gs ms has in
      let found = (rows_exist a gs over d (element_at ms) staircase).1 in
      record {
        basis = refl;
        lengths = record {
          some = grows.some;
          few = has.few;
          names = made.count;
          rows = λ i. (rows_are i).count;
          filled = λ i. (rows_are i).filled;
          start = length-map ms _;
        };
        its = record {
          staircase = staircase;
          rows = record {
            forms = found.forms;
            normal = found.normal;
            rows = λ i acts b c below within.
                sym (entry-vector field.group d (values (get_or (rows_of m i) b [])) c within)
                ∙ ap (λ v. entry field.group d v c)
                ((rows_are i).forms b (omega (arith, below, by_acting (a i) d 0 acts)) found.forms found.normal);
            still_rows = λ i still b c below within.
                ap (λ rows. values (get_or rows b []) c)
                (empty_of_length (rows_of m i) ((rows_are i).count ∙ ap (λ t. by_action t d d 0) still))
                ∙ whole-value polys.zero;
          };
        };
        start = unit_at-vector ms unit 0 (once_of_rises ms has.listing.rises) grows.some grows.first;
      }
