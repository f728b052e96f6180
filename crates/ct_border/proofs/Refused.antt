-- What a refusal means: main lemma `refusals_right`, the law. `leading_refused`, `powers_refused` and `few_refused` say it of each step.
use Rattle.ct_border.proofs.Base.{◌≡◌, ◌≢◌, ℕ, suc, ◌+◌, ◌-◌, ◌<◌, Bool, true, false, cond, eqb, eq-eqb, ltb, ltb-true, if◌then◌else◌, ◌||◌}
use Rattle.ct_border.proofs.Base.{List, [], ◌∷◌, length, get_or, take, Ok, Err, Result, ◌>>=◌, ◌⊎◌, inl, inr, refl, sym, ◌∙◌, ap, subst, arith}
use Rattle.ct_border.proofs.Base.{All, All-cons}
use Rattle.ct_border.proofs.Base.{All-nil, AllPairs, Contains, contains_cases, contains_first, contains_later, contains_none}
use Rattle.ct_border.proofs.Base.{contains_filter_cases, pairs_head}
use Rattle.ct_border.proofs.Base.{pairs_tail, range_with_len, Mono, exp, total, unit, ◌·◌, exp-·, exp-unit, exp-symbol, total-·, total_unit}
use Rattle.ct_border.proofs.Base.{total-symbol}
use Rattle.ct_border.proofs.Base.{mono_eq, mono_eq_decides, Name, name_with, place, place_small, symbol, by_symbols, IsWithout}
use Rattle.ct_border.proofs.Base.{Action, Operator, OperatorLeads, Polynomial, leading, once_of_rises, monomials, polys, none_of, has_none}
use Rattle.ct_border.proofs.Base.{Contains-get_or}
unfoldable use Rattle.ct_border.proofs.Base.{no_operator}
use Rattle.ct_checked.specs.declared.fault.Kind.TheVariants.{Size}
use Rattle.ct_border.specs.Staircase.{Refusal, ZeroGenerator, Trivial, NotFinite, Overflow, acts, operator_numbers, few, remaining, powers_test}
use Rattle.ct_border.specs.Staircase.{leading_by, leading_of, leading_monomials, has_power, is_power}
unfoldable use Rattle.ct_border.specs.Staircase.{checked_staircase}
use Rattle.ct_border.specs.StaircaseMeans.{IsProper, IsFirstOther, IsRefused, RefusalsAreRight}
use Rattle.ct_border.proofs.LeadingMonomials.{AreLeading, leading_of-leads, leading_monomials-lead, all_proper, one_lead}
use Rattle.ct_border.proofs.Powers.{pure_power}
use Rattle.ct_border.proofs.NamesWithOperators.{name_with-place, acting, numbers_rise, number_of_acting}
use Rattle.ct_border.proofs.StaircaseListed.{rises, sound, finite}
use Rattle.ct_checked.specs.Traversal.{checked_each_from}

-- ---- a generator that is not proper

record IsZero (n : ℕ) (g : Operator) (r : Refusal) : Type 0 where
  pub refusal : r ≡ ZeroGenerator n
  pub zero_is : g ≡ no_operator

record IsTrivial (n : ℕ) (g : Operator) (r : Refusal) : Type 0 where
  pub refusal : r ≡ Trivial n
  pub coef : Polynomial
  pub leads : OperatorLeads g unit coef

no_terms : (g : Operator) → g.terms ≡ [] → g ≡ no_operator
unfolding no_operator
no_terms g is = none_of monomials polys.group g (ap (has_none monomials polys.group) is)

one_refused : (n : ℕ) (g : Operator) (r : Refusal) → leading_of n g ≡ Err r → IsZero n g r ⊎ IsTrivial n g r
one_refused n g r refused = by g.terms refl refused
  where
    tested : (e : Mono × Polynomial) (es : List (Mono × Polynomial)) → g.terms ≡ e ∷ es → (b : Bool) → mono_eq e.0 unit ≡ b →
        ◌≡◌ {A = Result Mono Refusal} (if b then Err (Trivial n) else Ok e.0) (Err r) → IsTrivial n g r
    tested e es is true test refused =
        let one : e.0 ≡ unit = (mono_eq_decides e.0 unit).0 test in
        record { refusal = cc; coef = e.1; leads = record { rest = es; is_first = is ∙ ap (λ m. (m, e.1) ∷ es) one } }
    tested e es is false test refused = cc

    by : (es : List (Mono × Polynomial)) → g.terms ≡ es → leading_by n (leading es) ≡ Err r → IsZero n g r ⊎ IsTrivial n g r
    by [] is refused = inl (record { refusal = cc; zero_is = no_terms g is })
    by (e ∷ es) is refused = inr (tested e es is (mono_eq e.0 unit) refl refused)

-- the place of the first such generator, where numbers begin with n
record IsFirstAt (n : ℕ) (gs : List Operator) (r : Refusal) : Type 0 where
  pub index : ℕ
  pub in_range : index < length gs
  pub before : All IsProper (take index gs)
  pub here : IsZero (n + index) (get_or gs index no_operator) r ⊎ IsTrivial (n + index) (get_or gs index no_operator) r

leading_refused : (n : ℕ) (gs : List Operator) (r : Refusal) → checked_each_from n leading_of gs ≡ Err r → IsFirstAt n gs r
leading_refused n [] r refused = cc
leading_refused n (g ∷ gs) r refused = by (leading_of n g) refl refused (leading_refused (n + 1) gs r)
  where
    Whole : Result Mono Refusal → Type 0
    Whole o = (o >>= (λ m. checked_each_from (n + 1) leading_of gs >>= (λ ms. Ok (m ∷ ms)))) ≡ Err r

    later : (m : Mono) → leading_of n g ≡ Ok m → IsFirstAt (n + 1) gs r → IsFirstAt n (g ∷ gs) r
    later m is first =
        let lead = leading_of-leads n g m is in
        let next : n + 1 + first.index ≡ n + suc first.index = omega arith in
        record {
          index = suc first.index;
          in_range = omega (arith, first.in_range);
          before =
              All-cons IsProper g (take first.index gs)
              (record { mono = m; coef = lead.coef; leads = lead.leads; proper = lead.proper }) first.before;
          here = subst (λ k. IsZero k (get_or gs first.index no_operator) r ⊎ IsTrivial k (get_or gs first.index no_operator) r) next first.here;
        }

    rest_of : (m : Mono) (o : Result (List Mono) Refusal) → (o >>= (λ ms. Ok (m ∷ ms))) ≡ Err r → o ≡ Err r
    rest_of m (Ok ms) refused = cc
    rest_of m (Err e) refused = let same : e ≡ r = cc in ap Err same

    by : (o : Result Mono Refusal) → leading_of n g ≡ o → Whole o → (checked_each_from (n + 1) leading_of gs ≡ Err r → IsFirstAt (n + 1) gs r) →
        IsFirstAt n (g ∷ gs) r
    by (Ok m) is refused rest = later m is (rest (rest_of m (checked_each_from (n + 1) leading_of gs) refused))
    by (Err e) is refused rest =
        let same : e ≡ r = cc in
        record {
          index = 0;
          in_range = omega arith;
          before = All-nil IsProper;
          here = subst (λ k. IsZero k g r ⊎ IsTrivial k g r) (omega arith) (one_refused n g r (is ∙ ap Err same));
        }

first_other : (gs : List Operator) (index : ℕ) (g : Operator) → index < length gs → All IsProper (take index gs) →
    get_or gs index no_operator ≡ g → (a : Name → Action) → IsFirstOther a gs (1 + index) g
first_other gs index g below before is a =
    let back : (1 + index) - 1 ≡ index = omega arith in
    record {
      some = omega arith;
      within = omega (arith, below);
      is = ap (λ k. get_or gs k no_operator) back ∙ is;
      before = subst (λ k. All IsProper (take k gs)) (sym back) before;
    }

-- ---- a name without a pure power

power_total : (i : Name) (m : Mono) → ((j : Name) → j ≢ i → IsWithout j m) → exp m (place i) ≡ total m
power_total i =
    by_symbols (λ m. ((j : Name) → j ≢ i → IsWithout j m) → exp m (place i) ≡ total m)
    (λ others. omega (arith, exp-unit (place i) (place_small i), total_unit))
    (λ k m before others.
    let rest = before (λ j other. omega (arith, others j other, exp-· (symbol k) m (place j) (place_small j))) in
    omega (
      arith,
      rest,
      exp-· (symbol k) m (place i) (place_small i),
      total-· (symbol k) m,
      total-symbol k,
      own k m others (eqb (place i) (place k)) refl,
    ))
  where
    own : (k : Name) (m : Mono) → ((j : Name) → j ≢ i → IsWithout j (symbol k · m)) → (b : Bool) → eqb (place i) (place k) ≡ b →
        exp (symbol k) (place i) ≡ 1
    own k m others true same = exp-symbol k (place i) (place_small i) ∙ ap (λ b. cond b 1 0) same
    own k m others false differ =
        let none = others k (λ same. let equal = eq-eqb (place i) (place k) (ap place (sym same)) in cc) in
        let one : exp (symbol k) (place k) ≡ 1 =
        exp-symbol k (place k) (place_small k) ∙ ap (λ b. cond b 1 0) (eq-eqb (place k) (place k) refl) in
        absurd (omega (arith, none, one, exp-· (symbol k) m (place k) (place_small k)))

power_found :
    (gs : List Operator) (ds : List Mono) (i : Name) (g : Operator) (m : Mono) (c : Polynomial) → AreLeading gs ds → Contains gs g →
    OperatorLeads g m c → is_power i m ≡ true → has_power ds i ≡ true
power_found [] ds i g m c lead found leads power = absurd (contains_none g found)
power_found (h ∷ gs) [] i g m c lead found leads power = absurd lead
power_found (h ∷ gs) (d ∷ ds) i g m c lead found leads power =
    by (contains_cases h g gs found) (λ later. power_found gs ds i g m c lead.1 later leads power)
  where
    or_true : (b : Bool) → (b || true) ≡ true
    or_true true = refl
    or_true false = refl

    by : (h ≡ g) ⊎ Contains gs g → (Contains gs g → has_power ds i ≡ true) → (is_power i d || has_power ds i) ≡ true
    by (inl same) rest =
        let own = one_lead g d m lead.0.coef c (subst (λ g. OperatorLeads g d lead.0.coef) same lead.0.leads) leads in
        ap (λ b. b || has_power ds i) (ap (is_power i) own ∙ power)
    by (inr later) rest = ap (λ b. is_power i d || b) (rest later) ∙ or_true (is_power i d)

record IsFirstWithout (ds : List Mono) (is : List ℕ) (r : Refusal) : Type 0 where
  pub number : ℕ
  pub refusal : r ≡ NotFinite number
  pub there : Contains is number
  pub none : has_power ds (name_with number) ≡ false
  pub before : (j : ℕ) → Contains is j → j < number → has_power ds (name_with j) ≡ true

powers_refused : (ds : List Mono) (is : List ℕ) (r : Refusal) → AllPairs (λ i j. i < j) is → powers_test ds is ≡ Err r → IsFirstWithout ds is r
powers_refused ds [] r rise refused = cc
powers_refused ds (k ∷ is) r rise refused =
    by (has_power ds (name_with k)) refl refused (powers_refused ds is r (pairs_tail (λ i j. i < j) k is rise))
  where
    above : (j : ℕ) → Contains is j → k < j
    above j found = subst (λ j. k < j) found.2 (pairs_head (λ i j. i < j) k is rise found.0 j found.1)

    by : (b : Bool) → has_power ds (name_with k) ≡ b →
        (◌>>=◌ {A = Unit {0}} {B = Unit {0}} {E = Refusal} (if b then Ok (tt {0}) else Err (NotFinite k)) (λ _. powers_test ds is)) ≡ Err r →
        (powers_test ds is ≡ Err r → IsFirstWithout ds is r) → IsFirstWithout ds (k ∷ is) r
    by true has refused rest =
        let first = rest refused in
        record {
          number = first.number;
          refusal = first.refusal;
          there = contains_later k first.number is first.there;
          none = first.none;
          before = λ j found less. here first j less (contains_cases k j is found);
        }
      where
        here : (first : IsFirstWithout ds is r) (j : ℕ) → j < first.number → (k ≡ j) ⊎ Contains is j → has_power ds (name_with j) ≡ true
        here first j less (inl same) = ap (λ j. has_power ds (name_with j)) (sym same) ∙ has
        here first j less (inr later) = first.before j later less
    by false none refused rest = record {
      number = k;
      refusal = cc;
      there = contains_first k is;
      none = none;
      before = λ j found less. absurd (earlier j less (contains_cases k j is found));
    }
      where
        earlier : (j : ℕ) → j < k → (k ≡ j) ⊎ Contains is j → ⊥
        earlier j less (inl same) = omega (arith, less, same)
        earlier j less (inr later) = let more = above j later in omega (arith, less, more)

-- ---- too many

few_refused : (xs : List Mono) (r : Refusal) → few xs ≡ Err r → (16 < length xs) × (r ≡ Overflow Size)
few_refused xs r refused = by (ltb 16 (length xs)) refl refused
  where
    by : (b : Bool) → ltb 16 (length xs) ≡ b → ◌≡◌ {A = Result (List Mono) Refusal} (if b then Err (Overflow Size) else Ok xs) (Err r) →
        (16 < length xs) × (r ≡ Overflow Size)
    by true more refused = (ltb-true 16 (length xs) more, cc)
    by false most refused = cc

-- ---- all of it

module _ (a : Name → Action) (gs : List Operator) where
  generator_refused : (r : Refusal) → leading_monomials gs ≡ Err r → IsRefused a gs r
  generator_refused r refused = by (leading_refused 1 gs r refused)
    where
      by : IsFirstAt 1 gs r → IsRefused a gs r
      by first = kind first.here
        where
          kind : IsZero (1 + first.index) (get_or gs first.index no_operator) r ⊎ IsTrivial (1 + first.index) (get_or gs first.index no_operator) r →
              IsRefused a gs r
          kind (inl is) =
              subst (IsRefused a gs) (sym is.refusal) (first_other gs first.index no_operator first.in_range first.before is.zero_is a)
          kind (inr is) =
              subst (IsRefused a gs) (sym is.refusal)
              (get_or gs first.index no_operator, is.coef, first_other gs first.index _ first.in_range first.before refl a, is.leads)

  module _ (ds : List Mono) (lead : AreLeading gs ds) where
    name_refused : (r : Refusal) → powers_test ds (operator_numbers a) ≡ Err r → IsRefused a gs r
    name_refused r refused =
        let first = powers_refused ds (operator_numbers a) r (numbers_rise a) refused in
        subst (IsRefused a gs) (sym first.refusal) (
          all_proper gs ds lead,
          λ still.
              let acting = (contains_filter_cases (λ i. acts (a (name_with i))) (range_with_len 0 6) first.number first.there).1 in
              let other : acts (a (name_with first.number)) ≡ false = ap acts still in cc,
          λ power.
              let found = power_found gs ds (name_with first.number) power.generator power.mono power.coef lead power.stands power.leads
              (eq-eqb (exp power.mono (place (name_with first.number))) (total power.mono)
              (power_total (name_with first.number) power.mono power.pure)) in
              let none = first.none in cc,
          λ j less other.
              pure_power gs ds j lead
              (ap (has_power ds) (sym (name_with-place j))
              ∙ first.before (place j) (number_of_acting a j (acting (a j) other)) less),
        )

    size_refused : (r : Refusal) → powers_test ds (operator_numbers a) ≡ Ok tt → few (remaining (operator_numbers a) ds) ≡ Err r → IsRefused a gs r
    size_refused r passes refused =
        let many = few_refused (remaining (operator_numbers a) ds) r refused in
        subst (IsRefused a gs) (sym many.1) (
          refl,
          all_proper gs ds lead,
          finite a gs ds lead passes,
          (
            remaining (operator_numbers a) ds,
            many.0,
            once_of_rises (remaining (operator_numbers a) ds) (rises a gs ds lead),
            λ k m below. sound a gs ds lead _ (Contains-get_or (remaining (operator_numbers a) ds) k m below),
          ),
        )

pub refusals_right : RefusalsAreRight
unfolding checked_staircase
refusals_right a gs r refused = by (leading_monomials gs) refl refused
  where
    after : (ds : List Mono) → leading_monomials gs ≡ Ok ds → (o : Result (Unit {0}) Refusal) → powers_test ds (operator_numbers a) ≡ o →
        (o >>= (λ _. few (remaining (operator_numbers a) ds))) ≡ Err r → IsRefused a gs r
    after ds is (Ok u) passes refused = size_refused a gs ds (leading_monomials-lead gs ds is) r passes refused
    after ds is (Err e) fails refused =
        let same : e ≡ r = cc in name_refused a gs ds (leading_monomials-lead gs ds is) r (fails ∙ ap Err same)

    by : (o : Result (List Mono) Refusal) → leading_monomials gs ≡ o →
        (o >>= (λ ds. powers_test ds (operator_numbers a) >>= (λ _. few (remaining (operator_numbers a) ds)))) ≡ Err r → IsRefused a gs r
    by (Ok ds) is refused = after ds is (powers_test ds (operator_numbers a)) refl refused
    by (Err e) is refused = let same : e ≡ r = cc in generator_refused a gs r (is ∙ ap Err same)
