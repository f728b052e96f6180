-- The values of printed powers and of products of them. Main lemmas `names_value` and `symbols_value`.
--     IsSmall c            a polynomial within the limits that is not zero
use Rattle.ct_answer.proofs.Base.{◌≡◌, ◌≢◌, ℕ, zero, suc, ◌+◌, ◌≤◌, ◌==◌, Bool, true, false, cond, T, ℤ, pos, nat_abs, ◌*ℤ◌, List, [], ◌∷◌, ◌++◌}
use Rattle.ct_answer.proofs.Base.{length, Some, Ok, refl, sym, ap, ◌∙◌, subst, arith, eqb-true, Mono, total, total-·, unit, ◌·◌, ·_assoc, ·-unit}
use Rattle.ct_answer.proofs.Base.{Name, symbol, name_with, Polynomial, polys, times, times_is, count, norm, norm_of, degree, degree_of, term}
use Rattle.ct_answer.proofs.Base.{number_is, name_is, one_is, term-*, int_is_zero, Action, term_of, Checked, ◌>>=◌, largest_degree, most_terms}
use Rattle.ct_answer.proofs.Base.{largest_norm, checked_product, Value, over_one, checked_times, fraction_of, fractions, product_from, power_from}
use Rattle.ct_answer.proofs.Base.{one_value, times_over_one, fraction_of-Name, fraction_of-Symbol, fraction_of-Power, Each, terms-term, some_term}
use Rattle.ct_answer.proofs.Base.{total_unit}
use Rattle.std.proofs.lemmas.Int.{ints}
use Rattle.ct_answer.specs.declared.factors.Power.{Power}
use Rattle.ct_answer.proofs.PowerMonomials.{raised, raised-one, monomial_of, all_of, unit_before}
use Rattle.ct_answer.proofs.PrintedExpressions.{power_expression, power_expressions}
use Rattle.ct_answer.proofs.PlainProducts.{times_names, times_symbols}
use Rattle.ct_expr.specs.declared.expr.Expr.TheVariants as e

-- ---- polynomials within the limits

pub record IsSmall (c : Polynomial) : Type 0 where
  pub some : c ≢ polys.zero
  pub few : count c ≤ most_terms
  pub small : norm c ≤ largest_norm
  pub low : degree c ≤ largest_degree

pub small_term : (n : Mono) (x : ℤ) → T (cond (int_is_zero x) false true) → nat_abs x ≤ largest_norm → total n ≤ largest_degree → IsSmall (term n x)
unfolding count norm degree
small_term n x some small low =
    let list = terms-term n x some in
    record {
      some = some_term n x some;
      few = omega (arith, ap (λ (es : List (Mono × ℤ)). length es) list);
      small = omega (arith, ap norm_of list, small);
      low = omega (arith, ap degree_of list, low);
    }

pub one_is_term : polys.one ≡ term unit (pos 1)
one_is_term = one_is ∙ number_is (pos 1)

pub small_one : IsSmall polys.one
small_one = subst IsSmall (sym one_is_term) (small_term unit (pos 1) tt (omega arith) (omega (arith, total_unit)))

times_term : (m n : Mono) (x : ℤ) → times (term m x) (term n (pos 1)) ≡ term (m · n) x
times_term m n x = times_is _ _ ∙ term-* m n x (pos 1) ∙ ap (term (m · n)) (let same : x *ℤ pos 1 ≡ x = omega (arith, ints) in same)

-- ---- values

module _ (a : Name → Action) where
  -- one more power of names behind a term
  pub more_names : (m n : Mono) (x : ℤ) → T (cond (int_is_zero x) false true) → nat_abs x ≤ largest_norm → total m + total n ≤ largest_degree
      → checked_product a (term_of unit (term m x)) (term_of unit (term n (pos 1))) ≡ Ok (term_of unit (term (m · n) x))
  unfolding degree
  more_names m n x some small low =
      let known = small_term m x some small (omega (arith, low)) in
      let same : degree (term m x) ≡ total m = ap degree_of (terms-term m x some) in
      times_names a n (term m x) known.some known.few known.small (omega (arith, same, low))
      ∙ ap (λ (c : Polynomial). Ok (term_of unit c)) (times_term m n x)

  names_power : (s : Mono) (n : ℕ) (m : Mono) → total m + total (raised s n) ≤ largest_degree
      → power_from a (over_one (term_of unit (term m (pos 1)))) n (over_one (term_of unit (term s (pos 1)))) ≡
      Ok (over_one (term_of unit (term (m · raised s n) (pos 1))))
  unfolding power_from raised
  names_power s zero m low = ap (λ (k : Mono). Ok (over_one (term_of unit (term k (pos 1))))) (sym (·-unit m))
  names_power s (suc n) m low =
      let sum = total-· s (raised s n) in
      ap (λ (c : Checked Value). c >>= (λ more. power_from a more n (over_one (term_of unit (term s (pos 1))))))
      (times_over_one a _ _ _ (more_names m s (pos 1) tt (omega arith) (omega (arith, sum, low))))
      ∙ names_power s n (m · s) (omega (arith, sum, total-· m s, low))
      ∙ ap (λ (k : Mono). Ok (over_one (term_of unit (term k (pos 1))))) (·_assoc m s (raised s n))

  symbols_power : (s : Mono) (n : ℕ) (m : Mono) → total m + total (raised s n) ≤ largest_degree
      → power_from a (over_one (term_of m polys.one)) n (over_one (term_of s polys.one)) ≡ Ok (over_one (term_of (m · raised s n) polys.one))
  unfolding power_from raised
  symbols_power s zero m low = ap (λ (k : Mono). Ok (over_one (term_of k polys.one))) (sym (·-unit m))
  symbols_power s (suc n) m low =
      let sum = total-· s (raised s n) in
      ap (λ (c : Checked Value). c >>= (λ more. power_from a more n (over_one (term_of s polys.one))))
      (times_over_one a _ _ _ (times_symbols a m s polys.one small_one.some small_one.few small_one.small small_one.low
      (omega (arith, sum, low))))
      ∙ symbols_power s n (m · s) (omega (arith, sum, total-· m s, low))
      ∙ ap (λ (k : Mono). Ok (over_one (term_of k polys.one))) (·_assoc m s (raised s n))

  value-Name : (k : ℕ) → fraction_of a (e.Name k) ≡ Ok (over_one (term_of unit (term (symbol (name_with k)) (pos 1))))
  value-Name k = fraction_of-Name a k ∙ ap (λ (c : Polynomial). Ok (over_one (term_of unit c))) (name_is (name_with k))

  value-name_power : (k n : ℕ) → total (raised (symbol (name_with k)) n) ≤ largest_degree
      → fraction_of a (cond (n == 1) (e.Name k) (e.Power (e.Name k) n)) ≡
      Ok (over_one (term_of unit (term (raised (symbol (name_with k)) n) (pos 1))))
  value-name_power k n low = by (n == 1) refl
    where
      by : (alone : Bool) → (n == 1) ≡ alone → fraction_of a (cond alone (e.Name k) (e.Power (e.Name k) n)) ≡
          Ok (over_one (term_of unit (term (raised (symbol (name_with k)) n) (pos 1))))
      by true is =
          let one : n ≡ 1 = eqb-true n 1 is in
          value-Name k ∙ ap (λ (q : Mono). Ok (over_one (term_of unit (term q (pos 1)))))
          (sym (ap (raised (symbol (name_with k))) one ∙ raised-one (symbol (name_with k))))
      by false is =
          fraction_of-Power a (e.Name k) n
          ∙ ap (λ (c : Checked Value). c >>= (λ x. power_from a one_value n x)) (value-Name k)
          ∙ ap (λ (c : Polynomial). power_from a (over_one (term_of unit c)) n (over_one (term_of unit (term (symbol (name_with k)) (pos 1)))))
          (number_is (pos 1))
          ∙ names_power (symbol (name_with k)) n unit (omega (arith, total_unit, low))
          ∙ ap (λ (q : Mono). Ok (over_one (term_of unit (term q (pos 1))))) (unit_before (raised (symbol (name_with k)) n))

  value-symbol_power : (k n : ℕ) → total (raised (symbol (name_with k)) n) ≤ largest_degree
      → fraction_of a (cond (n == 1) (e.Symbol k) (e.Power (e.Symbol k) n)) ≡ Ok (over_one (term_of (raised (symbol (name_with k)) n) polys.one))
  value-symbol_power k n low = by (n == 1) refl
    where
      by : (alone : Bool) → (n == 1) ≡ alone → fraction_of a (cond alone (e.Symbol k) (e.Power (e.Symbol k) n)) ≡
          Ok (over_one (term_of (raised (symbol (name_with k)) n) polys.one))
      by true is =
          let one : n ≡ 1 = eqb-true n 1 is in
          fraction_of-Symbol a k ∙ ap (λ (q : Mono). Ok (over_one (term_of q polys.one)))
          (sym (ap (raised (symbol (name_with k))) one ∙ raised-one (symbol (name_with k))))
      by false is =
          fraction_of-Power a (e.Symbol k) n
          ∙ ap (λ (c : Checked Value). c >>= (λ x. power_from a one_value n x)) (fraction_of-Symbol a k)
          ∙ ap (λ (c : Polynomial). power_from a (over_one (term_of unit c)) n (over_one (term_of (symbol (name_with k)) polys.one))) (sym one_is)
          ∙ symbols_power (symbol (name_with k)) n unit (omega (arith, total_unit, low))
          ∙ ap (λ (q : Mono). Ok (over_one (term_of q polys.one))) (unit_before (raised (symbol (name_with k)) n))

  pub value-name : (p : Power) → p.is_symbol ≡ false → total (monomial_of p) ≤ largest_degree →
      fraction_of a (power_expression p) ≡ Ok (over_one (term_of unit (term (monomial_of p) (pos 1))))
  value-name p is low = rw is (value-name_power p.name p.exponent low)

  pub value-symbol : (p : Power) → p.is_symbol ≡ true → total (monomial_of p) ≤ largest_degree →
      fraction_of a (power_expression p) ≡ Ok (over_one (term_of (monomial_of p) polys.one))
  value-symbol p is low = rw is (value-symbol_power p.name p.exponent low)

  -- ---- products of powers

  pub names_value : (ps : List Power) (n : Mono) (x : ℤ) (rest : List (Checked Value)) → Each (λ p. p.is_symbol ≡ false) ps
      → T (cond (int_is_zero x) false true) → nat_abs x ≤ largest_norm → total n + total (all_of ps) ≤ largest_degree
      → product_from a (Some (over_one (term_of unit (term n x)))) (fractions a (power_expressions ps) ++ rest) ≡
      product_from a (Some (over_one (term_of unit (term (n · all_of ps) x)))) rest
  unfolding product_from
  names_value [] n x rest names some small low = ap (λ (k : Mono). product_from a (Some (over_one (term_of unit (term k x)))) rest) (sym (·-unit n))
  names_value (p ∷ ps) n x rest names some small low =
      let sum = total-· (monomial_of p) (all_of ps) in
      ap (λ (c : Checked Value). c >>= (λ y. checked_times a (over_one (term_of unit (term n x))) y >>=
      (λ more. product_from a (Some more) (fractions a (power_expressions ps) ++ rest)))) (value-name p names.0 (omega (arith, sum, low)))
      ∙ ap (λ (c : Checked Value). c >>= (λ more. product_from a (Some more) (fractions a (power_expressions ps) ++ rest)))
      (times_over_one a _ _ _ (more_names n (monomial_of p) x some small (omega (arith, sum, low))))
      ∙ names_value ps (n · monomial_of p) x rest names.1 some small (omega (arith, sum, total-· n (monomial_of p), low))
      ∙ ap (λ (k : Mono). product_from a (Some (over_one (term_of unit (term k x)))) rest) (·_assoc n (monomial_of p) (all_of ps))

  pub symbols_value : (ps : List Power) (m : Mono) (c : Polynomial) → Each (λ p. p.is_symbol ≡ true) ps → IsSmall c →
      total m + total (all_of ps) ≤ largest_degree
      → product_from a (Some (over_one (term_of m c))) (fractions a (power_expressions ps)) ≡ Ok (over_one (term_of (m · all_of ps) c))
  unfolding product_from
  symbols_value [] m c symbols known low = ap (λ (k : Mono). Ok (over_one (term_of k c))) (sym (·-unit m))
  symbols_value (p ∷ ps) m c symbols known low =
      let sum = total-· (monomial_of p) (all_of ps) in
      ap (λ (f : Checked Value). f >>= (λ y. checked_times a (over_one (term_of m c)) y >>=
      (λ more. product_from a (Some more) (fractions a (power_expressions ps))))) (value-symbol p symbols.0 (omega (arith, sum, low)))
      ∙ ap (λ (f : Checked Value). f >>= (λ more. product_from a (Some more) (fractions a (power_expressions ps))))
      (times_over_one a _ _ _ (times_symbols a m (monomial_of p) c known.some known.few known.small known.low (omega (arith, sum, low))))
      ∙ symbols_value ps (m · monomial_of p) c symbols.1 known (omega (arith, sum, total-· m (monomial_of p), low))
      ∙ ap (λ (k : Mono). Ok (over_one (term_of k c))) (·_assoc m (monomial_of p) (all_of ps))
