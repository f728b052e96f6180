-- The rows of a table are the powers of a name plus a number: `first_row` and `next_row` keep `AreRows`, and `table_is` ends
-- it. `binomial_listed` is the list of the name plus the number. Cited by the functions that make the table.
use Rattle.ct_poly.proofs.Base.{◌≡◌, refl, ℕ, zero, suc, ◌+◌, ◌*◌, ◌^◌, ◌≤◌, ◌<◌, ℤ, pos, negsuc, nat_abs, max, List, [], ◌∷◌, ◌++◌, length, get_or}
use Rattle.ct_poly.proofs.Base.{sym, ◌∙◌, ap, ap₂, subst, arith, T, cond, true, false, Less, eqb, Bool, eqb→eq, mul-le-mul_left, mul-le-mul_right}
use Rattle.ct_poly.proofs.Base.{length-append, leb, leb-true, leb-false, pow-succ', pow-zero, pow-le-pow_right, eqb-false, sum_by-cons, mono_cmp, exp}
use Rattle.ct_poly.proofs.Base.{unit, total, less_of_total, name_with, symbol, polys, plus_is, times, term, name_is, number_is, one_is, is_less}
use Rattle.ct_poly.proofs.Base.{int_is_zero, largest_degree, largest_norm, total-unit, total-with_exponent}
use Rattle.std.proofs.Math.ListN.{get_or-append}
use Rattle.std.proofs.lemmas.List.{get_or_push}
use Rattle.std.specs.Global.{Vec}
use Rattle.ct_poly.specs.declared.term.Term.{Term}
use Rattle.ct_poly.specs.Powers.{binomial, IsPower}
use Rattle.ct_poly.specs.Terms.{size_of, greatest_total, shift_size, greatest_exp, IsFalling, IsListOf, CanMultiply, poly_of_terms}
use Rattle.ct_poly.proofs.BinomialPowers.{power_low, total-symbol}
use Rattle.ct_poly.proofs.TermLists.{poly_of-one, poly_of-cons, positive_coef}

abbrev size : Term → ℕ
size t = nat_abs t.coef

-- the first n powers
pub record AreRows (i a n : ℕ) (rows : List (Vec Term)) : Type 0 where
  pub few : length rows ≡ n
  pub powers : (e : ℕ) (d : Vec Term) → e < n → IsPower i a e (get_or rows e d).items

-- ---- the name plus the number

module _ (i : ℕ) (known : i < 6) (a : ℕ) (positive : 0 < a) where
  module _ (t u : Term) (v : List Term) (t_mono : t.mono ≡ symbol (name_with i)) (t_coef : t.coef ≡ pos 1) (u_mono : u.mono ≡ unit)
      (u_coef : u.coef ≡ pos a) (both : v ≡ t ∷ u ∷ []) where
    lower : mono_cmp u.mono t.mono ≡ Less
    lower = less_of_total u.mono t.mono (omega (arith, ap total u_mono, total-unit, ap total t_mono, total-symbol i known))

    pub binomial_listed : IsListOf (binomial i a) 2 (1 + a) v
    binomial_listed = subst (IsListOf (binomial i a) 2 (1 + a)) (sym both) (record {
      falling = (
        subst (λ c. T (cond (int_is_zero c) false true)) (sym t_coef) tt,
        (subst (λ r. T (is_less r)) (sym lower) tt, tt),
        (subst (λ c. T (cond (int_is_zero c) false true)) (sym u_coef) (positive_coef a positive), tt, tt),
      );
      value = poly_of-cons t (u ∷ []) ∙ ap₂ polys.◌+◌ (ap₂ term t_mono t_coef ∙ sym (name_is (name_with i)))
          (poly_of-one u ∙ ap₂ term u_mono u_coef ∙ sym (number_is (pos a))) ∙ sym (plus_is _ _);
      few = omega arith;
      small = omega (arith, sum_by-cons size t (u ∷ []), sum_by-cons size u [], ap nat_abs t_coef, ap nat_abs u_coef);
    })

    pub binomial_low : greatest_total v ≤ 1
    binomial_low = omega (arith, ap greatest_total both, ap total u_mono, total-unit, ap total t_mono, total-symbol i known)

  -- ---- rows

  first_is_power : (row : List Term) (t : Term) → row ≡ t ∷ [] → t.mono ≡ unit → t.coef ≡ pos 1 → IsPower i a 0 row
  first_is_power row t one mono coef = subst (IsPower i a 0) (sym one) (record {
    falling = (subst (λ c. T (cond (int_is_zero c) false true)) (sym coef) tt, tt, tt);
    value = poly_of-one t ∙ ap₂ term mono coef ∙ sym (number_is (pos 1)) ∙ sym one_is;
    small = omega (arith, sum_by-cons size t [], ap nat_abs coef, pow-zero (1 + a));
  })

  module _ (b row : List Term) (e : ℕ) (list : IsListOf (binomial i a) 2 (1 + a) b) (low : greatest_total b ≤ 1) (power : IsPower i a e row) where
    sizes : size_of b * size_of row ≤ (1 + a) ^ suc e
    sizes = omega (arith, mul-le-mul_right (size_of row) list.small, mul-le-mul_left (1 + a) power.small, pow-succ' (1 + a) e)

    pub next_can_multiply : (highest : ℕ) → e < highest → highest ≤ largest_degree → (1 + a) ^ highest ≤ largest_norm → CanMultiply b row
    next_can_multiply highest below within small = record {
      first = list.falling;
      second = power.falling;
      degrees = omega (arith, low, power_low i known a positive e row power);
      sizes = let most : (1 + a) ^ suc e ≤ (1 + a) ^ highest = pow-le-pow_right {n = 1 + a} (omega arith) {i = suc e} {j = highest} (omega arith) in
          omega (arith, sizes, most, small);
    }

    pub next_is_power :
        (v : List Term) → IsListOf (times (poly_of_terms b) (poly_of_terms row)) (length b * length row) (size_of b * size_of row) v →
        IsPower i a (suc e) v
    next_is_power v l = record { falling = l.falling; value = l.value ∙ ap₂ times list.value power.value; small = omega (arith, l.small, sizes) }

  pub first_row : (rows : List (Vec Term)) (row : Vec Term) (t : Term) → rows ≡ row ∷ [] → row.items ≡ t ∷ [] → t.mono ≡ unit → t.coef ≡ pos 1 →
      AreRows i a 1 rows
  first_row rows row t one list mono coef = subst (AreRows i a 1) (sym one) (record { few = refl; powers = at })
    where
      at : (e : ℕ) (d : Vec Term) → e < 1 → IsPower i a e (get_or (row ∷ []) e d).items
      at zero d small = first_is_power row.items t list mono coef
      at (suc e) d small = absurd (omega arith)

  pub next_row : (n : ℕ) (rows more : List (Vec Term)) (row : Vec Term) → AreRows i a n rows → IsPower i a n row.items → more ≡ rows ++ row ∷ [] →
      AreRows i a (n + 1) more
  next_row n rows more row so_far power pushed = subst (AreRows i a (n + 1)) (sym pushed) (record {
    few = omega (arith, so_far.few, length-append rows (row ∷ []));
    powers = λ e d small. by e d small (eqb e n) refl;
  })
    where
      by : (e : ℕ) (d : Vec Term) → e < n + 1 → (b : Bool) → eqb e n ≡ b → IsPower i a e (get_or (rows ++ row ∷ []) e d).items
      by e d small true last =
          let same : e ≡ n = eqb→eq _ _ (subst T (sym last) tt) in
          subst (λ w. IsPower i a e w.items) (sym (get_or_push rows row d e (omega (arith, so_far.few))))
          (subst (λ k. IsPower i a k row.items) (sym same) power)
      by e d small false before =
          let apart : e ≡ n → ⊥ = eqb-false e n before in
          let below : e < length rows = omega (arith, so_far.few, apart) in
          subst (λ w. IsPower i a e w.items) (sym (get_or-append rows (row ∷ []) d e below)) (so_far.powers e d (omega (arith, apart)))

-- ---- how far a table reaches

one_at_least : (i : ℕ) (t : Term) → T (cond (int_is_zero t.coef) false true) → 1 ≤ nat_abs t.coef
one_at_least i t some = by t.coef some
  where
    by : (c : ℤ) → T (cond (int_is_zero c) false true) → 1 ≤ nat_abs c
    by (pos zero) some = absurd some
    by (pos (suc n)) some = omega arith
    by (negsuc n) some = omega arith

-- the greatest power is within the size, since each coefficient is at least one
pub greatest_small : (i a : ℕ) (ts : List Term) → IsFalling ts → (1 + a) ^ greatest_exp i ts ≤ max 1 (shift_size i a ts)
greatest_small i a [] falling = omega (arith, pow-zero (1 + a))
greatest_small i a (t ∷ ts) falling = by (leb (exp t.mono i) (greatest_exp i ts)) refl (greatest_small i a ts falling.2)
  where
    mine : (1 + a) ^ exp t.mono i ≤ nat_abs t.coef * (1 + a) ^ exp t.mono i
    mine = omega (arith, mul-le-mul_right ((1 + a) ^ exp t.mono i) (one_at_least i t falling.0))

    sizes : shift_size i a (t ∷ ts) ≡ nat_abs t.coef * (1 + a) ^ exp t.mono i + shift_size i a ts
    sizes = sum_by-cons (λ t. nat_abs t.coef * (1 + a) ^ exp t.mono i) t ts

    by : (b : Bool) → leb (exp t.mono i) (greatest_exp i ts) ≡ b → (1 + a) ^ greatest_exp i ts ≤ max 1 (shift_size i a ts)
        → (1 + a) ^ max (exp t.mono i) (greatest_exp i ts) ≤ max 1 (shift_size i a (t ∷ ts))
    by true less later =
        let order = leb-true (exp t.mono i) (greatest_exp i ts) less in
        let is : max (exp t.mono i) (greatest_exp i ts) ≡ greatest_exp i ts = omega (arith, order) in
        omega (arith, ap (λ n. (1 + a) ^ n) is, later, sizes)
    by false more later =
        let order = leb-false (exp t.mono i) (greatest_exp i ts) more in
        let is : max (exp t.mono i) (greatest_exp i ts) ≡ exp t.mono i = omega (arith, order) in
        omega (arith, ap (λ n. (1 + a) ^ n) is, mine, sizes)

pub greatest_low : (i : ℕ) (ts : List Term) → i < 6 → greatest_exp i ts ≤ greatest_total ts
greatest_low i [] known = omega arith
greatest_low i (t ∷ ts) known = omega (arith, greatest_low i ts known, total-with_exponent i 0 t.mono known)
