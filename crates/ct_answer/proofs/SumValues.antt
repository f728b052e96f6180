-- The values of printed sums. What is summed on the way is no larger than all terms together, so nothing overflows.
--     TermHas t w k s        the term t with its sign has the value w, of at most k terms and of norm at most s
--     Adds ts w k s          behind any sum that leaves room, these terms add w
--     Begins ts w k s        a sum of these terms has the value w, and goes on from it
-- Main lemmas `Adds-append`, `Begins-append` and `sum_value`.
use Rattle.ct_answer.proofs.Base.{◌≡◌, ℕ, ◌+◌, ◌≤◌, Bool, true, false, pos, List, [], ◌∷◌, ◌++◌, map, None, Some, Option, Ok, Err, refl, sym, ap, ap₂}
use Rattle.ct_answer.proofs.Base.{◌∙◌, arith, append-nil, Name, Action, unit, Polynomial, polys, number_is, term-sum, int_group, Operator}
use Rattle.ct_answer.proofs.Base.{operator_group, term_of, no_operator, sum_of_operators, negative, term_of-zero, Checked, ◌>>=◌, verdict, most_terms}
use Rattle.ct_answer.proofs.Base.{largest_norm, Kind, term_count, term_norm, checked_sum, checked_difference, difference_of_operators, Term, summand}
use Rattle.ct_answer.proofs.Base.{Value, over_one, fraction_of, signed, Signed, sum_from, joined, negated_over_one, plus_over_one, minus_over_one}
use Rattle.ct_answer.proofs.Base.{fraction_of-Whole, fraction_of-Sum, fraction_of_term-out}
use Rattle.ct_algebra.specs.Group.{zero_add, hom_zero}
use Rattle.ct_algebra.proofs.OperatorLawProofs.{group}
use Rattle.ct_ore.proofs.OperatorSums.{sum_allowed, sum_within}
use Rattle.ct_ore.proofs.WrittenOperators.{terms-no_operator}
use Rattle.ct_answer.proofs.PrintedExpressions.{sum_expression}
use Rattle.ct_expr.specs.declared.expr.Expr.TheVariants as e
use Rattle.ct_problem.specs.Grammar as grammar

-- ---- sums of operators

none_sum : (p : Operator) → sum_of_operators no_operator p ≡ p
unfolding sum_of_operators no_operator
none_sum p = zero_add operator_group p

term_count-none : term_count no_operator ≡ 0
unfolding term_count
term_count-none = rw terms-no_operator refl

term_norm-none : term_norm no_operator ≡ 0
unfolding term_norm
term_norm-none = rw terms-no_operator refl

-- a sum with room
sum_fits : (p q : Operator) → term_count p + term_count q ≤ most_terms → term_norm p + term_norm q ≤ largest_norm →
    checked_sum p q ≡ Ok (sum_of_operators p q)
unfolding checked_sum verdict
sum_fits p q few small = ap (λ (o : Option Kind). verdict o (sum_of_operators p q)) (sum_allowed p q few small)

difference_fits : (p q : Operator) → term_count p + term_count q ≤ most_terms → term_norm p + term_norm q ≤ largest_norm →
    checked_difference p q ≡ Ok (sum_of_operators p (negative q))
unfolding checked_difference difference_of_operators verdict
difference_fits p q few small = ap (λ (o : Option Kind). verdict o (sum_of_operators p (negative q))) (sum_allowed p q few small)

-- ---- terms

abbrev pub with_sign : Bool → Operator → Operator
with_sign true x = negative x
with_sign false x = x

module _ (a : Name → Action) where
  pub record TermHas (t : Term) (w : Operator) (k s : ℕ) : Type 0 where
    pub value : Operator
    pub evaluates : fraction_of a t.1 ≡ Ok (over_one value)
    pub sign : with_sign t.0 value ≡ w
    pub few : term_count value ≤ k
    pub small : term_norm value ≤ s
    pub few_signed : term_count w ≤ k
    pub small_signed : term_norm w ≤ s

  -- the terms with their values
  abbrev pub pairs : List Term → List Signed
  pairs ts = map (λ (t : Term). (t.0, fraction_of a t.1)) ts

  pub record AddsTo (ts : List Term) (w : Operator) (k s : ℕ) (so_far : Operator) (rest : List Signed) : Type 0 where
    pub goes_on : sum_from a (Some (over_one so_far)) (pairs ts ++ rest) ≡ sum_from a (Some (over_one (sum_of_operators so_far w))) rest
    pub few : term_count (sum_of_operators so_far w) ≤ term_count so_far + k
    pub small : term_norm (sum_of_operators so_far w) ≤ term_norm so_far + s

  abbrev pub Adds : List Term → Operator → ℕ → ℕ → Type 0
  Adds ts w k s = (so_far : Operator) (rest : List Signed) → term_count so_far + k ≤ most_terms → term_norm so_far + s ≤ largest_norm →
      AddsTo ts w k s so_far rest

  pub record BeginsWith (ts : List Term) (w : Operator) (k s : ℕ) (rest : List Signed) : Type 0 where
    pub goes_on : sum_from a None (pairs ts ++ rest) ≡ sum_from a (Some (over_one w)) rest
    pub few : term_count w ≤ k
    pub small : term_norm w ≤ s

  abbrev pub Begins : List Term → Operator → ℕ → ℕ → Type 0
  Begins ts w k s = (rest : List Signed) → k ≤ most_terms → s ≤ largest_norm → BeginsWith ts w k s rest

  pub record Makes (ts : List Term) (w : Operator) (k s : ℕ) : Type 0 where
    pub begins : Begins ts w k s
    pub adds : Adds ts w k s

  -- ---- one term

  joined_value : (so_far : Operator) (negative : Bool) (x w : Operator) → with_sign negative x ≡ w → term_count so_far + term_count x ≤ most_terms →
      term_norm so_far + term_norm x ≤ largest_norm
      → joined a (Some (over_one so_far)) negative (over_one x) ≡ Ok (over_one (sum_of_operators so_far w))
  joined_value so_far true x w sign few small =
      minus_over_one a so_far x _ (omega (arith, small)) (omega (arith, small)) (difference_fits so_far x few small)
      ∙ ap (λ (y : Operator). Ok (over_one (sum_of_operators so_far y))) sign
  joined_value so_far false x w sign few small =
      plus_over_one a so_far x _ (omega (arith, small)) (omega (arith, small)) (sum_fits so_far x few small)
      ∙ ap (λ (y : Operator). Ok (over_one (sum_of_operators so_far y))) sign

  first_value : (negative : Bool) (x w : Operator) → with_sign negative x ≡ w → term_count x ≤ most_terms → term_norm x ≤ largest_norm →
      joined a None negative (over_one x) ≡ Ok (over_one w)
  first_value true x w sign few small =
      negated_over_one x _ (difference_fits no_operator x (omega (arith, term_count-none, few)) (omega (arith, term_norm-none, small)))
      ∙ ap (λ (y : Operator). Ok (over_one y)) (none_sum (negative x) ∙ sign)
  first_value false x w sign few small = ap (λ (y : Operator). Ok (over_one y)) sign

  Adds-one : (t : Term) (w : Operator) (k s : ℕ) → TermHas t w k s → Adds (t ∷ []) w k s
  unfolding sum_from
  Adds-one t w k s known so_far rest few small = record {
    goes_on =
        ap (λ (c : Checked Value). c >>= (λ x. joined a (Some (over_one so_far)) t.0 x >>= (λ more. sum_from a (Some more) rest))) known.evaluates
        ∙ ap (λ (c : Checked Value). c >>= (λ more. sum_from a (Some more) rest))
        (joined_value so_far t.0 known.value w known.sign (omega (arith, few, known.few)) (omega (arith, small, known.small)));
    few = omega (arith, (sum_within so_far w).count, known.few_signed);
    small = omega (arith, (sum_within so_far w).norm, known.small_signed);
  }

  Begins-one : (t : Term) (w : Operator) (k s : ℕ) → TermHas t w k s → Begins (t ∷ []) w k s
  unfolding sum_from
  Begins-one t w k s known rest few small = record {
    goes_on =
        ap (λ (c : Checked Value). c >>= (λ x. joined a None t.0 x >>= (λ more. sum_from a (Some more) rest))) known.evaluates
        ∙ ap (λ (c : Checked Value). c >>= (λ more. sum_from a (Some more) rest))
        (first_value t.0 known.value w known.sign (omega (arith, few, known.few)) (omega (arith, small, known.small)));
    few = known.few_signed;
    small = known.small_signed;
  }

  pub Makes-one : (t : Term) (w : Operator) (k s : ℕ) → TermHas t w k s → Makes (t ∷ []) w k s
  Makes-one t w k s known = record { begins = Begins-one t w k s known; adds = Adds-one t w k s known }

  -- ---- one list of terms after the other

  pub Adds-none : Adds [] no_operator 0 0
  Adds-none so_far rest few small =
      let same = group.sum_with_none so_far in
      record {
        goes_on = ap (λ (x : Operator). sum_from a (Some (over_one x)) rest) (sym same);
        few = omega (arith, ap term_count same);
        small = omega (arith, ap term_norm same);
      }

  pairs-append : (ts us : List Term) (rest : List Signed) → pairs (ts ++ us) ++ rest ≡ pairs ts ++ (pairs us ++ rest)
  pairs-append [] us rest = refl
  pairs-append (t ∷ ts) us rest = ap (λ (ps : List Signed). (t.0, fraction_of a t.1) ∷ ps) (pairs-append ts us rest)

  pub Adds-append : (ts us : List Term) (w v : Operator) (k s l r : ℕ) → Adds ts w k s → Adds us v l r →
      Adds (ts ++ us) (sum_of_operators w v) (k + l) (s + r)
  Adds-append ts us w v k s l r first second so_far rest few small =
      let one = first so_far (pairs us ++ rest) (omega (arith, few)) (omega (arith, small)) in
      let two = second (sum_of_operators so_far w) rest (omega (arith, few, one.few)) (omega (arith, small, one.small)) in
      let same = group.sum_is_associative so_far w v in
      record {
        goes_on = ap (sum_from a (Some (over_one so_far))) (pairs-append ts us rest) ∙ one.goes_on ∙ two.goes_on
            ∙ ap (λ (x : Operator). sum_from a (Some (over_one x)) rest) same;
        few = omega (arith, one.few, two.few, ap term_count same);
        small = omega (arith, one.small, two.small, ap term_norm same);
      }

  Begins-append : (ts us : List Term) (w v : Operator) (k s l r : ℕ) → Begins ts w k s → Adds us v l r →
      Begins (ts ++ us) (sum_of_operators w v) (k + l) (s + r)
  Begins-append ts us w v k s l r first second rest few small =
      let one = first (pairs us ++ rest) (omega (arith, few)) (omega (arith, small)) in
      let two = second w rest (omega (arith, few, one.few)) (omega (arith, small, one.small)) in
      record {
        goes_on = ap (sum_from a None) (pairs-append ts us rest) ∙ one.goes_on ∙ two.goes_on;
        few = omega (arith, one.few, two.few);
        small = omega (arith, one.small, two.small);
      }

  pub Makes-append : (ts us : List Term) (w v : Operator) (k s l r : ℕ) → Makes ts w k s → Adds us v l r →
      Makes (ts ++ us) (sum_of_operators w v) (k + l) (s + r)
  Makes-append ts us w v k s l r first second = record {
    begins = Begins-append ts us w v k s l r first.begins second;
    adds = Adds-append ts us w v k s l r first.adds second;
  }

  -- ---- the value of a sum

  signed-summands : (ts : List Term) → signed a (map (λ (t : Term). summand t.0 t.1) ts) ≡ pairs ts
  signed-summands [] = refl
  signed-summands (t ∷ ts) = ap₂ (λ (p : Signed) (ps : List Signed). p ∷ ps) (fraction_of_term-out a (summand t.0 t.1)) (signed-summands ts)

  alone : (c : Checked Value) → c ≡ sum_from a None ((false, c) ∷ [])
  unfolding sum_from
  alone (Ok x) = refl
  alone (Err k) = refl

  value-sum_of : (t : Term) (ts : List Term) → fraction_of a (grammar.sum_of t.0 t.1 ts) ≡ sum_from a None (pairs (t ∷ ts))
  value-sum_of t ts = by t.0 ts
    where
      whole : (negative : Bool) (more : List Term) →
          fraction_of a (e.Sum (summand negative t.1 ∷ map (λ (u : Term). summand u.0 u.1) more))
          ≡ sum_from a None ((negative, fraction_of a t.1) ∷ pairs more)
      whole negative more = fraction_of-Sum a _ ∙ ap (sum_from a None) (signed-summands ((negative, t.1) ∷ more))

      by : (negative : Bool) (more : List Term) →
          fraction_of a (grammar.sum_of negative t.1 more) ≡ sum_from a None ((negative, fraction_of a t.1) ∷ pairs more)
      by true more = whole true more
      by false [] = alone (fraction_of a t.1)
      by false (u ∷ more) = whole false (u ∷ more)

  pub zero_value : fraction_of a (e.Whole (pos 0)) ≡ Ok (over_one no_operator)
  zero_value =
      fraction_of-Whole a (pos 0)
      ∙ ap (λ (c : Polynomial). Ok (over_one (term_of unit c)))
      (number_is (pos 0) ∙ hom_zero {G = int_group} {H = polys.group} (record { sums = term-sum unit }))
      ∙ ap (λ (x : Operator). Ok (over_one x)) (term_of-zero unit)

  pub sum_value : (ts : List Term) (w : Operator) (k s : ℕ) → Begins ts w k s → k ≤ most_terms → s ≤ largest_norm →
      fraction_of a (sum_expression ts) ≡ Ok (over_one w)
  unfolding sum_from
  sum_value [] w k s begins few small = zero_value ∙ (begins [] few small).goes_on
  sum_value (t ∷ ts) w k s begins few small = value-sum_of t ts ∙ ap (sum_from a None) (sym (append-nil (pairs (t ∷ ts))))
      ∙ (begins [] few small).goes_on
