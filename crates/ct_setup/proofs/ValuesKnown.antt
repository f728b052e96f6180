-- The value of an expression over declared names has the symbols of names with operators alone, and no name that isn't declared. Main lemma
-- `value_known`, by the induction over expressions, and `generators_known`, for the values of `gen` lines.
use Rattle.ct_setup.proofs.Base.{◌≡◌, ◌≢◌, ap, sym, ◌∙◌, subst, refl, arith, ℕ, ◌≤◌, true, false, List, length, slice_get, Option, None, Some}
use Rattle.ct_setup.proofs.Base.{Ok, Err, Result, suc, Action, Still, IsOver, Name, name_with, place, symbol, unit, Operator, no_operator, negative, product_of}
use Rattle.ct_setup.proofs.Base.{sum_of_operators, term_of, polys, Naming, actions_of, Expr, Each, IsOperator, both_fit, each_means, All, Checked}
use Rattle.ct_setup.proofs.Base.{false≢true}
use Rattle.std.proofs.Common.{IfOk, ℤ, pos}
use Rattle.std.specs.Global.{Vec}
use Rattle.std.proofs.lemmas.List.Elements.{All-cons, All-nil}
use Rattle.std.proofs.lemmas.Option.{slice_get_within}
use Rattle.ct_algebra.specs.Actions.{by_action}
use Rattle.ct_algebra.specs.Monomial.{·-unit}
use Rattle.ct_algebra.specs.Substitution.{name, number}
use Rattle.ct_border.proofs.NamesKept.{fits_name, fits_number, fits_one}
use Rattle.ct_border.proofs.OperatorNames.{fits_negative, fits_none, fits_over_whole, fits_product, fits_sum, fits_term_of}
use Rattle.ct_border.specs.BuildViews.{OperatorFits}
use Rattle.ct_checked.specs.Checked.{AnswersBy, verdict_ok}
use Rattle.ct_checked.specs.declared.fault.Fault.{Fault}
use Rattle.ct_expr.proofs.ValueInduction.{Keeps, values_keep}
use Rattle.ct_expr.proofs.ValueSteps.{plus_steps, minus_steps, times_steps}
use Rattle.ct_expr.specs.Value.{operator_of_polynomial}
unfoldable use Rattle.ct_expr.specs.Value.{fraction_of, value_of}
use Rattle.ct_expr.specs.ValueArithmetic.{Value, checked_minus, checked_plus, checked_times}
unfoldable use Rattle.ct_expr.specs.ValueArithmetic.{lowest, negated}
use Rattle.ct_mono.proofs.ExponentLaws.{place-name_with}
use Rattle.ct_ore.proofs.PairMeasureLaws.{known_action}
unfoldable use Rattle.ct_ore.specs.Measures.{checked_difference, checked_product, checked_sum, difference_of_operators}
use Rattle.ct_ore.specs.Wholes.{common_divisor, whole_operator}
unfoldable use Rattle.ct_ore.specs.Wholes.{checked_multiple}
use Rattle.ct_problem.specs.OverNames.{has_symbol, is_listed}
use Rattle.ct_problem.specs.WellFormed.{AreGenerators, IsGens}
use Rattle.ct_problem.specs.declared.problem.Gens.{Gens}
use Rattle.ct_problem.specs.declared.problem.Gens.TheVariants.{Listed, Named}
use Rattle.ct_telescoping.proofs.MovedOver.{operators-symbol}
use Rattle.ct_telescoping.specs.Staircase.{HasOperators}
use Rattle.ct_setup.proofs.KnownExpressions.{known_of}
unfoldable use Rattle.ct_setup.proofs.KnownExpressions.{known_step}
use Rattle.ct_setup.specs.Setup.{checked_values, listed}
use Rattle.ct_setup.proofs.OperatorsActing.{one_acts, over_negative, over_none, over_over_whole, over_product, over_sum, over_term_of}

module _ (ns : List Naming) (few : length ns ≤ 6) where
  abbrev a : Name → Action
  a = actions_of ns

  abbrev pub IsKnown : Operator → Type 0
  IsKnown v = IsOver a v × OperatorFits (length ns) v

  -- ---- arithmetic

  known_none : IsKnown no_operator
  known_none = (over_none a, fits_none (length ns))

  known_sum : (v w : Operator) → IsKnown v → IsKnown w → IsKnown (sum_of_operators v w)
  known_sum v w p q = (over_sum a v w p.0 q.0, fits_sum (length ns) v w p.1 q.1)

  known_negative : (v : Operator) → IsKnown v → IsKnown (negative v)
  known_negative v p = (over_negative a v p.0, fits_negative (length ns) v p.1)

  known_product : (v w : Operator) → IsKnown v → IsKnown w → IsKnown (product_of a v w)
  known_product v w p q = (over_product a v w p.0 q.0, fits_product (length ns) a v w p.1 q.1)

  known_number : (n : ℤ) → IsKnown (operator_of_polynomial (number n))
  known_number n = (over_term_of a unit _ (one_acts a), fits_term_of (length ns) unit _ (fits_number (length ns) n))

  sum-known : (v w r : Operator) → IsKnown v → IsKnown w → checked_sum v w ≡ Ok r → IsKnown r
  unfolding checked_sum
  sum-known v w r p q e = subst IsKnown (verdict_ok _ _ _ e) (known_sum v w p q)

  difference-known : (v w r : Operator) → IsKnown v → IsKnown w → checked_difference v w ≡ Ok r → IsKnown r
  unfolding checked_difference difference_of_operators
  difference-known v w r p q e = subst IsKnown (verdict_ok _ _ _ e) (known_sum v (negative w) p (known_negative w q))

  product-known : (v w r : Operator) → IsKnown v → IsKnown w → checked_product a v w ≡ Ok r → IsKnown r
  unfolding checked_product
  product-known v w r p q e = subst IsKnown (verdict_ok _ _ _ e) (known_product v w p q)

  multiple-known : (n : ℕ) (v r : Operator) → IsKnown v → checked_multiple a n v ≡ Ok r → IsKnown r
  unfolding checked_multiple
  multiple-known n v r p e = subst IsKnown (verdict_ok _ _ _ e) (known_product (whole_operator n) v (known_number (pos n)) p)

  -- ---- values

  abbrev IsKnownValue : Value → Type 0
  IsKnownValue v = IsKnown v.operator

  lowest-known : (v : Operator) (n : ℕ) → IsKnown v → IsKnownValue (lowest v n)
  unfolding lowest
  lowest-known v n p =
      (over_over_whole a (common_divisor v n) v p.0, fits_over_whole (length ns) (common_divisor v n) v p.1)

  negated-known : (v r : Value) → IsKnownValue v → negated v ≡ Ok r → IsKnownValue r
  unfolding negated
  negated-known v r p e =
      let step = both_fit (checked_difference no_operator v.operator) _ r e in
      let same : record { operator = step.value; whole = v.whole } ≡ r = let e = step.rest in cc in
      subst IsKnownValue same (difference-known no_operator v.operator step.value known_none p step.first)

  plus-known : (v w r : Value) → IsKnownValue v → IsKnownValue w → checked_plus a v w ≡ Ok r → IsKnownValue r
  plus-known v w r p q e =
      let s = plus_steps a v w r e in
      subst IsKnownValue s.last
      (lowest-known s.total s.whole
      (sum-known s.mine s.its s.total (multiple-known _ v.operator s.mine p s.first) (multiple-known _ w.operator s.its q s.second) s.joined))

  minus-known : (v w r : Value) → IsKnownValue v → IsKnownValue w → checked_minus a v w ≡ Ok r → IsKnownValue r
  minus-known v w r p q e =
      let s = minus_steps a v w r e in
      subst IsKnownValue s.last
      (lowest-known s.total s.whole
      (difference-known s.mine s.its s.total (multiple-known _ v.operator s.mine p s.first) (multiple-known _ w.operator s.its q s.second)
      s.joined))

  times-known : (v w r : Value) → IsKnownValue v → IsKnownValue w → checked_times a v w ≡ Ok r → IsKnownValue r
  times-known v w r p q e =
      let s = times_steps a v w r e in
      subst IsKnownValue s.last (lowest-known s.product s.whole (product-known v.operator w.operator s.product p q s.operators))

  -- ---- names and symbols

  name_known : (i : ℕ) → is_listed (slice_get ns i) ≡ true → IsKnown (operator_of_polynomial (name (name_with i)))
  name_known i there = by (slice_get ns i) refl there
    where
      by : (o : Option Naming) → slice_get ns i ≡ o → is_listed o ≡ true → IsKnown (operator_of_polynomial (name (name_with i)))
      by None found wrong = absurd (false≢true wrong)
      by (Some n) found right =
          let within = slice_get_within ns i n found in
          let at : place (name_with i) ≡ i = place-name_with i (omega (arith, within, few)) in
          (over_term_of a unit _ (one_acts a), fits_term_of (length ns) unit _ (fits_name (length ns) (name_with i) (omega (arith, within, at))))

  symbol_known : (i : ℕ) → has_symbol (slice_get ns i) ≡ true → IsKnown (term_of (symbol (name_with i)) polys.one)
  symbol_known i acting = by (slice_get ns i) refl acting
    where
      acting_action : (t : Action) → by_action t true true false ≡ true → t ≢ Still
      acting_action t acts still = let wrong = ap (λ u. by_action u true true false) still in cc

      by : (o : Option Naming) → slice_get ns i ≡ o → has_symbol o ≡ true → IsKnown (term_of (symbol (name_with i)) polys.one)
      by None found wrong = absurd (false≢true wrong)
      by (Some n) found right =
          let within = slice_get_within ns i n found in
          let action = known_action ns n i (omega (arith, within, few)) found in
          let has = operators-symbol a (name_with i) unit (λ still. acting_action n.action right (sym action ∙ still)) (one_acts a) in (
            over_term_of a (symbol (name_with i)) polys.one (subst (HasOperators a) (·-unit (symbol (name_with i))) has),
            fits_term_of (length ns) _ polys.one (fits_one (length ns)),
          )

  known_keeps : Keeps a IsKnownValue (known_step ns)
  unfolding known_step
  known_keeps = record {
    nothing = known_none;
    one = known_number (pos 1);
    negates = negated-known;
    adds = plus-known;
    subtracts = minus-known;
    multiplies = times-known;
    of_whole = λ n asked. known_number n;
    of_ratio = λ n d asked. lowest-known _ _ (known_number n);
    of_name = name_known;
    of_symbol = symbol_known;
    sums = λ bs. refl;
    products = λ bs. refl;
    powers = λ b n. refl;
  }

  pub value_known : (x : Expr) (v : Operator) → IsOperator ns x → value_of a x ≡ Ok v → IsKnown v
  unfolding value_of
  value_known x v is e =
      let step = both_fit (fraction_of a x) (λ (w : Value). let r : Checked Operator = Ok w.operator in r) v e in
      let same : step.value.operator ≡ v = let e = step.rest in cc in
      subst IsKnown same (values_keep known_keeps x step.value step.first (known_of ns x is.over))

  -- what the values of a list are
  pub record AreKnown (xs : List Expr) (vs : List Operator) : Type 0 where
    pub count : length vs ≡ length xs
    pub operators : All (IsOver a) vs
    pub names : All (OperatorFits (length ns)) vs

  pub list_known : (xs : List Expr) (vs : List Operator) → Each (IsOperator ns) xs → checked_values a xs ≡ Ok vs → AreKnown xs vs
  list_known xs vs are e = each_means (λ _ x. value_of a x) (λ xs vs. Each (IsOperator ns) xs → AreKnown xs vs)
      (λ _. record { count = refl; operators = All-nil (IsOver a); names = All-nil (OperatorFits (length ns)) })
      (λ n x v xs vs valued rest are.
      let known = value_known x v are.0 valued in
      let more = rest are.1 in
      record {
        count = ap suc more.count;
        operators = All-cons (IsOver a) v vs known.0 more.operators;
        names = All-cons (OperatorFits (length ns)) v vs known.1 more.names;
      }) 1 xs vs e are

-- ---- `gen` lines

listed_are : (ns : List Naming) (lines : ℕ) (g : Gens) → IsGens ns lines g → AreGenerators ns (listed g)
listed_are ns lines (Listed xs) are = are
listed_are ns lines (Named at) are = record { few = omega arith; each = tt }

-- what follows for the answer of a call
pub generators_known :
    {P : List Operator → Type 0} (ns : List Naming) (lines : ℕ) (g : Gens) (xs : List Expr) (r : Result (Vec Operator) Fault) → length ns ≤ 6 →
    IsGens ns lines g → xs ≡ listed g →
    ((vs : List Operator) → length vs ≤ 16 → All (IsOver (actions_of ns)) vs → All (OperatorFits (length ns)) vs → P vs) →
    AnswersBy (λ v. v.items) (checked_values (actions_of ns) xs) r → IfOk r (λ v. P v.items)
generators_known ns lines g xs (Ok v) few are same follows valued =
    let given = subst (AreGenerators ns) (sym same) (listed_are ns lines g are) in
    let known = list_known ns few xs v.items given.each valued in
    follows v.items (omega (arith, known.count, given.few)) known.operators known.names
generators_known ns lines g xs (Err e) few are same follows valued = tt
