-- What each step of values keeps holds of the value of an expression. Main lemma `values_keep`, by induction on the expression,
-- which the laws of polynomials and of lowest terms cite.
--     Keeps a P step     the steps of values keep P; a sum, a product and a power are asked for what is asked for their parts
use Rattle.ct_expr.proofs.Base.{◌≡◌, ℕ, zero, suc, ℤ, Bool, true, false, List, [], ◌∷◌, map, Option, Some, None, Ok, sym, ap, ◌∙◌, subst, Name}
use Rattle.ct_expr.proofs.Base.{name_with, symbol, Action, polys, number, name, no_operator, term_of, Checked, ◌>>=◌, both_fit}
use Rattle.ct_expr.specs.declared.expr.Expr.{Expr, roll-Expr}
use Rattle.ct_expr.specs.declared.expr.Expr.TheFolds.{fold-Expr, fold-Summand, fold-roll-Expr, fold-roll-Summand, ind-Expr, map-Expr, map-Summand}
use Rattle.ct_expr.specs.declared.expr.Expr.TheOpen.{Expr-F, Summand-F}
use Rattle.ct_expr.specs.declared.expr.Summand.{Summand, roll-Summand}
use Rattle.ct_expr.specs.ValueArithmetic.{Value, over_one, negated, checked_plus, checked_minus, checked_times}
use Rattle.ct_expr.specs.Value.{joined, multiplied, one_value, operator_of_polynomial, ratio, or_else, power_from, product_from, sum_from}
use Rattle.ct_expr.specs.Value.{fraction_of, fraction_of_term, value_step, term_step, all_true}
use Rattle.ct_expr.proofs.Values.{both}

pub record Keeps (a : Name → Action) (P : Value → Type 0) (step : Expr-F Bool Bool → Bool) : Type 0 where
  pub nothing : P (over_one no_operator)
  pub one : P one_value
  pub negates : (v r : Value) → P v → negated v ≡ Ok r → P r
  pub adds : (v w r : Value) → P v → P w → checked_plus a v w ≡ Ok r → P r
  pub subtracts : (v w r : Value) → P v → P w → checked_minus a v w ≡ Ok r → P r
  pub multiplies : (v w r : Value) → P v → P w → checked_times a v w ≡ Ok r → P r
  pub of_whole : (n : ℤ) → step (Expr-F.Whole n) ≡ true → P (over_one (operator_of_polynomial (number n)))
  pub of_ratio : (n d : ℤ) → step (Expr-F.Ratio n d) ≡ true → P (ratio n d)
  pub of_name : (i : ℕ) → step (Expr-F.Name i) ≡ true → P (over_one (operator_of_polynomial (name (name_with i))))
  pub of_symbol : (i : ℕ) → step (Expr-F.Symbol i) ≡ true → P (over_one (term_of (symbol (name_with i)) polys.one))
  pub sums : (bs : List Bool) → step (Expr-F.Sum bs) ≡ all_true bs
  pub products : (bs : List Bool) → step (Expr-F.Product bs) ≡ all_true bs
  pub powers : (b : Bool) (n : ℕ) → step (Expr-F.Power b n) ≡ b

module _ {a : Name → Action} {P : Value → Type 0} {step : Expr-F Bool Bool → Bool} (keeps : Keeps a P step) where
  abbrev asked : Expr → Bool
  asked = fold-Expr Bool Bool step term_step

  abbrev term_asked : Summand → Bool
  term_asked = fold-Summand Bool Bool step term_step

  -- what was added up or multiplied so far
  abbrev SoFar : Option Value → Type 0
  SoFar None = Unit {0}
  SoFar (Some v) = P v

  so_far-or : (other : Value) (o : Option Value) → P other → SoFar o → P (or_else other o)
  so_far-or other None p so = p
  so_far-or other (Some v) p so = so

  joined-keeps : (o : Option Value) (negative : Bool) (w r : Value) → SoFar o → P w → joined a o negative w ≡ Ok r → P r
  joined-keeps None true w r so p e = keeps.negates w r p e
  joined-keeps None false w r so p e = let same : w ≡ r = cc in subst P same p
  joined-keeps (Some v) true w r so p e = keeps.subtracts v w r so p e
  joined-keeps (Some v) false w r so p e = keeps.adds v w r so p e

  multiplied-keeps : (o : Option Value) (w r : Value) → SoFar o → P w → multiplied a o w ≡ Ok r → P r
  multiplied-keeps None w r so p e = let same : w ≡ r = cc in subst P same p
  multiplied-keeps (Some v) w r so p e = keeps.multiplies v w r so p e

  power-keeps : (so base r : Value) (n : ℕ) → P so → P base → power_from a so n base ≡ Ok r → P r
  unfolding power_from
  power-keeps so base r zero p q e = let same : so ≡ r = cc in subst P same p
  power-keeps so base r (suc n) p q e =
      let steps = both_fit (checked_times a so base) (λ more. power_from a more n base) r e in
      power-keeps steps.value base r n (keeps.multiplies so base steps.value p q steps.first) q steps.rest

  -- ---- expressions

  abbrev Claim : Expr → Type 0
  Claim x = (v : Value) → fraction_of a x ≡ Ok v → asked x ≡ true → P v

  abbrev TermClaim : Summand → Type 0
  TermClaim t = (v : Value) → (fraction_of_term a t).1 ≡ Ok v → term_asked t ≡ true → P v

  terms-keep : (ts : List ((t : Summand) × TermClaim t)) (o : Option Value) (r : Value) → SoFar o
      → all_true (map term_asked (map (λ t. t.0) ts)) ≡ true → sum_from a o (map (fraction_of_term a) (map (λ t. t.0) ts)) ≡ Ok r → P r
  unfolding sum_from
  terms-keep [] o r so all e = let same : or_else (over_one no_operator) o ≡ r = cc in
      subst P same (so_far-or (over_one no_operator) o keeps.nothing so)
  terms-keep (t ∷ ts) o r so all e =
      let parts = both (term_asked t.0) (all_true (map term_asked (map (λ t. t.0) ts))) all in
      let rest = λ (more : Value). sum_from a (Some more) (map (fraction_of_term a) (map (λ t. t.0) ts)) in
      let first = both_fit (fraction_of_term a t.0).1 (λ x. joined a o (fraction_of_term a t.0).0 x >>= rest) r e in
      let second = both_fit (joined a o (fraction_of_term a t.0).0 first.value) rest r first.rest in
      terms-keep ts (Some second.value) r
      (joined-keeps o (fraction_of_term a t.0).0 first.value second.value so (t.1 first.value first.first parts.0) second.first) parts.1
      second.rest

  factors-keep : (fs : List ((x : Expr) × Claim x)) (o : Option Value) (r : Value) → SoFar o
      → all_true (map asked (map (λ x. x.0) fs)) ≡ true → product_from a o (map (fraction_of a) (map (λ x. x.0) fs)) ≡ Ok r → P r
  unfolding product_from
  factors-keep [] o r so all e = let same : or_else one_value o ≡ r = cc in subst P same (so_far-or one_value o keeps.one so)
  factors-keep (f ∷ fs) o r so all e =
      let parts = both (asked f.0) (all_true (map asked (map (λ x. x.0) fs))) all in
      let rest = λ (more : Value). product_from a (Some more) (map (fraction_of a) (map (λ x. x.0) fs)) in
      let first = both_fit (fraction_of a f.0) (λ x. multiplied a o x >>= rest) r e in
      let second = both_fit (multiplied a o first.value) rest r first.rest in
      factors-keep fs (Some second.value) r (multiplied-keeps o first.value second.value so (f.1 first.value first.first parts.0) second.first)
      parts.1 second.rest

  layer-keeps : (y : Expr-F ((x : Expr) × Claim x) ((t : Summand) × TermClaim t)) → Claim (roll-Expr (map-Expr _ _ _ _ (λ x. x.0) (λ t. t.0) y))
  unfolding fraction_of fraction_of_term value_step
  layer-keeps (Expr-F.Whole n) v e all =
      let same : Ok (over_one (operator_of_polynomial (number n))) ≡ Ok v = sym (fold-roll-Expr _ _ _ _ _) ∙ e in
      let value : over_one (operator_of_polynomial (number n)) ≡ v = cc in
      subst P value (keeps.of_whole n (sym (fold-roll-Expr _ _ _ _ _) ∙ all))
  layer-keeps (Expr-F.Ratio n d) v e all =
      let same : Ok (ratio n d) ≡ Ok v = sym (fold-roll-Expr _ _ _ _ _) ∙ e in
      let value : ratio n d ≡ v = cc in
      subst P value (keeps.of_ratio n d (sym (fold-roll-Expr _ _ _ _ _) ∙ all))
  layer-keeps (Expr-F.Name i) v e all =
      let same : Ok (over_one (operator_of_polynomial (name (name_with i)))) ≡ Ok v = sym (fold-roll-Expr _ _ _ _ _) ∙ e in
      let value : over_one (operator_of_polynomial (name (name_with i))) ≡ v = cc in
      subst P value (keeps.of_name i (sym (fold-roll-Expr _ _ _ _ _) ∙ all))
  layer-keeps (Expr-F.Symbol i) v e all =
      let same : Ok (over_one (term_of (symbol (name_with i)) polys.one)) ≡ Ok v = sym (fold-roll-Expr _ _ _ _ _) ∙ e in
      let value : over_one (term_of (symbol (name_with i)) polys.one) ≡ v = cc in
      subst P value (keeps.of_symbol i (sym (fold-roll-Expr _ _ _ _ _) ∙ all))
  layer-keeps (Expr-F.Sum ts) v e all =
      terms-keep ts None v tt (sym (keeps.sums _) ∙ sym (fold-roll-Expr _ _ _ _ _) ∙ all) (sym (fold-roll-Expr _ _ _ _ _) ∙ e)
  layer-keeps (Expr-F.Product fs) v e all =
      factors-keep fs None v tt (sym (keeps.products _) ∙ sym (fold-roll-Expr _ _ _ _ _) ∙ all) (sym (fold-roll-Expr _ _ _ _ _) ∙ e)
  layer-keeps (Expr-F.Power base n) v e all =
      let steps = both_fit (fraction_of a base.0) (λ x. power_from a one_value n x) v (sym (fold-roll-Expr _ _ _ _ _) ∙ e) in
      power-keeps one_value steps.value v n keeps.one (base.1 steps.value steps.first (sym (keeps.powers _ n) ∙ sym (fold-roll-Expr _ _ _ _ _) ∙ all))
      steps.rest

  term-keeps : (y : Summand-F ((x : Expr) × Claim x) ((t : Summand) × TermClaim t)) →
      TermClaim (roll-Summand (map-Summand _ _ _ _ (λ x. x.0) (λ t. t.0) y))
  unfolding fraction_of fraction_of_term
  term-keeps y v e all = y.expr.1 v (ap (λ (s : Bool × Checked Value). s.1) (sym (fold-roll-Summand _ _ _ _ _)) ∙ e)
      (sym (fold-roll-Summand _ _ _ _ _) ∙ all)

  pub values_keep : (x : Expr) → Claim x
  values_keep = ind-Expr Claim TermClaim (λ x y is. subst (λ z. Claim (roll-Expr z)) is (layer-keeps y))
      (λ x y is. subst (λ z. TermClaim (roll-Summand z)) is (term-keeps y))
