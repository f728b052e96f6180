-- Room for names: at most four have operators, and at most three are summed.
--     HasRoom found action role    after these names there is room for such a name
--     Rooms found ns               and for each of these, after those before it
--     rooms_fit, few_rooms         just where there are few enough of them in all
--     room_is, room_for            just where the names before aren't too many for its line
use Rattle.ct_problem.proofs.Base.{◌≡◌, ℕ, suc, ◌+◌, ◌≤◌, ◌||◌, Bool, true, false, cond, List, [], ◌∷◌, ◌++◌, refl, sym, ap, ◌∙◌, subst, arith}
use Rattle.ct_problem.proofs.Base.{ltb-false, count_by, false≢true, le-ltb, append_assoc, append-nil, sum_by-append, sum_by-cons, Action, by_action}
use Rattle.ct_problem.proofs.Base.{Naming, has_operator, is_summed, Role, Summed, NameLine, Free, Sum, Int, Param, role_of_line, is_full, acts_fully}
use Rattle.ct_problem.proofs.Base.{sums_fully}
use Rattle.ct_problem.proofs.AlgebraNames.{summed_count}

abbrev pub summed_ones : List Naming → ℕ
summed_ones ns = count_by (λ n. is_summed n.role) ns

pub record HasRoom (found : List Naming) (action : Action) (r : Role) : Type 0 where
  pub operators : by_action action true true false ≡ true → count_by has_operator found ≤ 3
  pub summed : is_summed r ≡ true → summed_ones found ≤ 2

abbrev pub Rooms : List Naming → List Naming → Type 0
Rooms found [] = Unit {0}
Rooms found (n ∷ ns) = HasRoom found n.action n.role × Rooms (found ++ n ∷ []) ns

-- ---- counts

module _ (test : Naming → Bool) (limit : ℕ) (found : List Naming) (n : Naming) where
  counts : (ns : List Naming) → count_by test (found ++ n ∷ ns) ≡ count_by test found + (cond (test n) 1 0 + count_by test ns)
  counts ns = sum_by-append (λ m. cond (test m) 1 0) found (n ∷ ns) ∙ ap (λ k. count_by test found + k) (sum_by-cons (λ m. cond (test m) 1 0) n ns)

  one_more : (test n ≡ true → count_by test found ≤ limit) → count_by test found ≤ suc limit → count_by test (found ++ n ∷ []) ≤ suc limit
  one_more room most = let e = counts [] in let added = by (test n) room in omega (arith, e, added)
    where
      by : (b : Bool) → (b ≡ true → count_by test found ≤ limit) → count_by test found + cond b 1 0 ≤ suc limit
      by true room = let h = room refl in omega (arith, h)
      by false room = omega (arith, most)

  room_before : (ns : List Naming) → count_by test (found ++ n ∷ ns) ≤ suc limit → test n ≡ true → count_by test found ≤ limit
  room_before ns few is = let e = counts ns in let one : cond {A = ℕ} (test n) 1 0 ≡ 1 = ap (λ (b : Bool). cond {A = ℕ} b 1 0) is in
      omega (arith, e, one, few)

pub record AreWithin (ns : List Naming) : Type 0 where
  pub operators : count_by has_operator ns ≤ 4
  pub summed : summed_ones ns ≤ 3

pub rooms_fit : (found ns : List Naming) → Rooms found ns → AreWithin found → AreWithin (found ++ ns)
rooms_fit found [] rooms w = subst AreWithin (sym (append-nil found)) w
rooms_fit found (n ∷ ns) rooms w =
    subst AreWithin (append_assoc found (n ∷ []) ns) (rooms_fit (found ++ n ∷ []) ns rooms.1 (record {
      operators = one_more has_operator 3 found n rooms.0.operators w.operators;
      summed = one_more (λ m. is_summed m.role) 2 found n rooms.0.summed w.summed;
    }))

pub few_rooms : (found ns : List Naming) → AreWithin (found ++ ns) → Rooms found ns
few_rooms found [] w = tt
few_rooms found (n ∷ ns) w =
    let room : HasRoom found n.action n.role =
    record {
      operators = room_before has_operator 3 found n ns w.operators;
      summed = room_before (λ m. is_summed m.role) 2 found n ns w.summed;
    } in
    (room, few_rooms (found ++ n ∷ []) ns (subst AreWithin (sym (append_assoc found (n ∷ []) ns)) w))

-- ---- lines

-- whether the name of a line has an operator
abbrev pub acts_in : NameLine → Bool
acts_in Param = false
acts_in _ = true

neither : (b c : Bool) → (b || c) ≡ false → (b ≡ false) × (c ≡ false)
neither true c h = absurd (false≢true (sym h))
neither false true h = absurd (false≢true (sym h))
neither false false h = (refl, refl)

both_false : (b c : Bool) → b ≡ false → c ≡ false → (b || c) ≡ false
both_false b c e f = ap (λ (x : Bool). x || c) e ∙ f

module _ (found : List Naming) (action : Action) where
  summed_room : (acts_fully found ≡ false) × (sums_fully found ≡ false) → HasRoom found action Summed
  summed_room h = let few = ltb-false _ _ h.1 in record { operators = λ _. ltb-false _ _ h.0; summed = λ _. omega (arith, summed_count found, few) }

  sums_room : summed_ones found ≤ 2 → sums_fully found ≡ false
  sums_room few = le-ltb 2 _ (omega (arith, summed_count found, few))

  pub room_is : (line : NameLine) → by_action action true true false ≡ acts_in line → is_full line found ≡ false →
      HasRoom found action (role_of_line line)
  unfolding is_full
  room_is Free acts h = record { operators = λ _. ltb-false _ _ h; summed = λ e. absurd (false≢true e) }
  room_is Sum acts h = summed_room (neither (acts_fully found) (sums_fully found) h)
  room_is Int acts h = summed_room (neither (acts_fully found) (sums_fully found) h)
  room_is Param acts h = record { operators = λ e. absurd (false≢true (sym acts ∙ e)); summed = λ e. absurd (false≢true e) }

  pub room_for : (line : NameLine) → by_action action true true false ≡ acts_in line → HasRoom found action (role_of_line line) →
      is_full line found ≡ false
  unfolding is_full
  room_for Free acts room = le-ltb 3 _ (room.operators acts)
  room_for Sum acts room = both_false (acts_fully found) (sums_fully found) (le-ltb 3 _ (room.operators acts)) (sums_room (room.summed refl))
  room_for Int acts room = both_false (acts_fully found) (sums_fully found) (le-ltb 3 _ (room.operators acts)) (sums_room (room.summed refl))
  room_for Param acts room = refl
