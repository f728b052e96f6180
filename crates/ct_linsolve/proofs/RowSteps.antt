-- A checked column makes row steps: main lemmas `other_step` and `rows_step`.
-- Entry by entry the crossed row is p·x − a·y, at the pivot column too, where it is zero; dividing by a polynomial and by a whole
-- number leaves each entry times one factor.
use Rattle.ct_linsolve.proofs.Base.{◌≡◌, ◌≢◌, refl, ℕ, zero, suc, ◌+◌, ◌<◌, pos, Bool, true, false, cond, eqb, ltb, Option, Some, None, Ok, Err}
use Rattle.ct_linsolve.proofs.Base.{Result, List, [], ◌∷◌, length, map, sym, ◌∙◌, ap, ap₂, subst, arith, eqb-true, ok_or, eqb-false, ltb-true}
use Rattle.ct_linsolve.proofs.Base.{length-map, unit, Polynomial, polys, polys_domain, coefficient, times, plus_is, one_mul, mul_zero, ◌>>=◌}
use Rattle.ct_linsolve.proofs.Base.{both_fit, verdict_ok, checked_each_from, each_means, each_length, DividesEach, primitive_form, divided}
use Rattle.ct_linsolve.proofs.Base.{checked_cross, quotient, minus, checked_times, checked_minus, product_overflow, sum_overflow, quotient_is}
use Rattle.ct_algebra.specs.Domain.{product_nonzero}
use Rattle.ct_algebra.specs.Substitution.{number, number_is}
use Rattle.ct_algebra.proofs.PolynomialLawProofs.{finite_maps}
use Rattle.ct_poly.proofs.DividedTerms.{divided_whole}
use Rattle.ct_poly.proofs.WholeDivisors.{each_divides}
use Rattle.ct_linsolve.specs.Elimination.{crossed_entry, checked_crossed, checked_divided, checked_other, row_after, checked_rows}
use Rattle.ct_linsolve.specs.Rows.{Row, entry, row_at, quotient_or_none, quotients, or_kept, over_divisor, over_content, row_content}
use Rattle.ct_linsolve.specs.Slimming.{IsOver}
use Rattle.ct_linsolve.proofs.FromZero.{each_at}
use Rattle.ct_linsolve.proofs.Pivots.{form_nonzero, one_nonzero}
use Rattle.ct_linsolve.proofs.RowContents.{DividesRow, divides_row, row_content_is}

abbrev pub crossing : Polynomial → Polynomial → Polynomial → Polynomial → Polynomial
crossing p a x y = polys.◌+◌ (polys.◌*◌ p x) (polys.neg (polys.◌*◌ a y))

cross_is : (p a x y r : Polynomial) → checked_cross p a x y ≡ Ok r → crossing p a x y ≡ r
unfolding checked_cross checked_times checked_minus minus times
cross_is p a x y r fits =
    let first = both_fit (checked_times p x) (λ u. checked_times a y >>= (λ v. checked_minus u v)) r fits in
    let second = both_fit (checked_times a y) (λ v. checked_minus first.value v) r first.rest in
    sym (plus_is _ _)
    ∙ ap₂ minus (verdict_ok (product_overflow p x) _ _ first.first) (verdict_ok (product_overflow a y) _ _ second.first)
    ∙ verdict_ok (sum_overflow first.value second.value) _ _ second.rest

-- ---- divided rows

pub same_row : (r : Row) → IsOver r r
same_row r = record { factor = polys.one; nonzero = one_nonzero; lengths = refl; entries = λ j. sym (one_mul polys (entry r j)) }

-- one after the other
pub over_over : {r s t : Row} → IsOver r s → IsOver s t → IsOver r t
over_over {r} {s} {t} first second = record {
  factor = polys.◌*◌ first.factor second.factor;
  nonzero = product_nonzero polys polys_domain first.factor second.factor first.nonzero second.nonzero;
  lengths = second.lengths ∙ first.lengths;
  entries = λ j. first.entries j ∙ ap (polys.◌*◌ first.factor) (second.entries j) ∙ sym (polys.mul_assoc first.factor second.factor (entry t j));
}

pub one_quotient : (f x q : Polynomial) → quotient_or_none f x ≡ Ok q → x ≡ polys.◌*◌ f q
unfolding times
one_quotient f x q found = by (quotient x f) refl found
  where
    by : (o : Option Polynomial) → quotient x f ≡ o → ok_or o (tt {0}) ≡ Ok q → x ≡ polys.◌*◌ f q
    by None is found = cc
    by (Some u) is found = let same : u ≡ q = cc in sym (quotient_is x f u is) ∙ polys.mul_comm u f ∙ ap (polys.◌*◌ f) same

all_quotients :
    (f : Polynomial) (n : ℕ) (xs ys : Row) → checked_each_from n (λ _ x. quotient_or_none f x) xs ≡ Ok ys →
    (j : ℕ) → entry xs j ≡ polys.◌*◌ f (entry ys j)
all_quotients f =
    each_means (λ _ x. quotient_or_none f x) (λ xs ys. (j : ℕ) → entry xs j ≡ polys.◌*◌ f (entry ys j)) (λ j. sym (mul_zero polys f)) more
  where
    more :
        (n : ℕ) (x y : Polynomial) (xs ys : Row) → quotient_or_none f x ≡ Ok y →
        ((j : ℕ) → entry xs j ≡ polys.◌*◌ f (entry ys j)) → (j : ℕ) → entry (x ∷ xs) j ≡ polys.◌*◌ f (entry (y ∷ ys) j)
    more n x y xs ys first rest zero = one_quotient f x y first
    more n x y xs ys first rest (suc j) = rest j

pub quotients_over : (f : Polynomial) (r q : Row) → f ≢ polys.zero → quotients f r ≡ Ok q → IsOver r q
quotients_over f r q some found = record {
  factor = f;
  nonzero = some;
  lengths = each_length (λ _ x. quotient_or_none f x) 1 r q found;
  entries = all_quotients f 1 r q found;
}

divisor_over : (f : Polynomial) (r : Row) → f ≢ polys.zero → IsOver r (over_divisor f r)
unfolding over_divisor
divisor_over f r some = by (quotients f r) refl
  where
    by : (o : Result Row (Unit {0})) → quotients f r ≡ o → IsOver r (or_kept r o)
    by (Ok q) found = quotients_over f r q some found
    by (Err e) none = same_row r

number_nonzero : (g : ℕ) → 0 < g → number (pos g) ≢ polys.zero
number_nonzero g some vanishes =
    let zero_too : pos g ≡ pos 0 = sym (finite_maps.of_a_term unit (pos g)) ∙ ap (λ p. coefficient p unit) (sym (number_is (pos g)) ∙ vanishes)
    ∙ finite_maps.of_zero unit in
    let none : g ≡ 0 = cc in
    omega (arith, some, none)

over_whole_is : (g : ℕ) (x : Polynomial) → DividesEach g x → x ≡ polys.◌*◌ (number (pos g)) (divided unit (pos g) x)
unfolding times
over_whole_is g x each =
    sym (divided_whole unit (pos g) x (each_divides g x.terms each)) ∙ ap (λ w. polys.◌*◌ w (divided unit (pos g) x)) (sym (number_is (pos g)))

number_over : (g : ℕ) (r : Row) → 1 < g → DividesRow g r → IsOver r (map (λ x. divided unit (pos g) x) r)
number_over g r large divides = record {
  factor = number (pos g);
  nonzero = number_nonzero g (omega (arith, large));
  lengths = length-map r _;
  entries = all r divides;
}
  where
    all : (r : Row) → DividesRow g r → (j : ℕ) → entry r j ≡ polys.◌*◌ (number (pos g)) (entry (map (λ x. divided unit (pos g) x) r) j)
    all [] divides j = sym (mul_zero polys (number (pos g)))
    all (x ∷ xs) divides zero = over_whole_is g x divides.0
    all (x ∷ xs) divides (suc j) = all xs divides.1 j

content_over : (r : Row) → IsOver r (over_content r)
unfolding over_content
content_over r = by (ltb 1 (row_content r)) refl
  where
    by : (b : Bool) → ltb 1 (row_content r) ≡ b → IsOver r (cond b (map (λ x. divided unit (pos (row_content r)) x) r) r)
    by true large = number_over (row_content r) r (ltb-true _ _ large) (divides_row (row_content r) r (row_content_is r))
    by false small = same_row r

-- ---- another row

-- the pivot's entry times r less the entry of r times the pivot's row is a nonzero factor times t
pub record IsRowStep (c : ℕ) (pivot r t : Row) : Type 0 where
  pub factor : Polynomial
  pub nonzero : factor ≢ polys.zero
  pub lengths : length t ≡ length r
  pub entries :
      (j : ℕ) → j < length r → crossing (entry pivot c) (entry r c) (entry r j) (entry pivot j) ≡ polys.◌*◌ factor (entry t j)

crossed_at :
    (c : ℕ) (pivot r w : Row) → checked_crossed c (entry pivot c) (entry r c) pivot r ≡ Ok w → (j : ℕ) → j < length r →
    crossing (entry pivot c) (entry r c) (entry r j) (entry pivot j) ≡ entry w j
crossed_at c pivot r w fits j small =
    by (eqb j c) refl
    (ap (λ k. crossed_entry c (entry pivot c) (entry r c) pivot k (entry r j)) (let same : j ≡ 0 + j = omega arith in same)
    ∙ each_at (crossed_entry c (entry pivot c) (entry r c) pivot) 0 r w fits j polys.zero polys.zero small)
  where
    by : (b : Bool) → eqb j c ≡ b → cond b (Ok polys.zero) (checked_cross (entry pivot c) (entry r c) (entry r j) (entry pivot j)) ≡ Ok (entry w j)
        → crossing (entry pivot c) (entry r c) (entry r j) (entry pivot j) ≡ entry w j
    by true is value =
        let there : j ≡ c = eqb-true j c is in
        let zero_too : polys.zero ≡ entry w j = cc in
        ap (λ k. crossing (entry pivot c) (entry r c) (entry r k) (entry pivot k)) there
        ∙ ap (λ v. polys.◌+◌ v (polys.neg (polys.◌*◌ (entry r c) (entry pivot c)))) (polys.mul_comm (entry pivot c) (entry r c))
        ∙ polys.add_neg (polys.◌*◌ (entry r c) (entry pivot c)) ∙ zero_too
    by false other value = cross_is (entry pivot c) (entry r c) (entry r j) (entry pivot j) (entry w j) value

pub other_step :
    (c : ℕ) (pivot : Row) (prev : Polynomial) (r t : Row) → prev ≢ polys.zero → checked_other c pivot prev r ≡ Ok t →
    IsRowStep c pivot r t
unfolding checked_other checked_divided
other_step c pivot prev r t some fits =
    let f = primitive_form prev in
    let outer = both_fit (checked_divided c (entry pivot c) (entry r c) f pivot r) (λ w. Ok (over_content w)) t fits in
    let inner = both_fit (checked_crossed c (entry pivot c) (entry r c) pivot r) (λ w. Ok (over_divisor f w)) outer.value outer.first in
    let first : over_divisor f inner.value ≡ outer.value = cc in
    let second : over_content outer.value ≡ t = cc in
    let over : IsOver inner.value t = over_over (subst (IsOver inner.value) first (divisor_over f inner.value (form_nonzero prev some)))
    (subst (IsOver outer.value) second (content_over outer.value)) in
    record {
      factor = over.factor;
      nonzero = over.nonzero;
      lengths = over.lengths ∙ each_length (crossed_entry c (entry pivot c) (entry r c) pivot) 0 r inner.value inner.first;
      entries = λ j small. crossed_at c pivot r inner.value inner.first j small ∙ over.entries j;
    }

-- ---- all rows

pub record AreRowSteps (c q : ℕ) (rows ts : List Row) : Type 0 where
  pub lengths : length ts ≡ length rows
  pub kept : row_at ts q ≡ row_at rows q
  pub others : (r : ℕ) → r < length rows → r ≢ q → IsRowStep c (row_at rows q) (row_at rows r) (row_at ts r)

pub rows_step :
    (c q : ℕ) (prev : Polynomial) (rows ts : List Row) → prev ≢ polys.zero → q < length rows → checked_rows c q prev rows ≡ Ok ts →
    AreRowSteps c q rows ts
rows_step c q prev rows ts some below fits = record {
  lengths = each_length (row_after c q (row_at rows q) prev) 0 rows ts fits;
  kept = keep (eqb q q) refl (at q below);
  others = λ r small other. change r (eqb r q) refl other (at r small);
}
  where
    at : (r : ℕ) → r < length rows → row_after c q (row_at rows q) prev r (row_at rows r) ≡ Ok (row_at ts r)
    at r small =
        ap (λ k. row_after c q (row_at rows q) prev k (row_at rows r)) (let same : r ≡ 0 + r = omega arith in same)
        ∙ each_at (row_after c q (row_at rows q) prev) 0 rows ts fits r [] [] small

    keep : (b : Bool) → eqb q q ≡ b → cond b (Ok (row_at rows q)) (checked_other c (row_at rows q) prev (row_at rows q)) ≡ Ok (row_at ts q)
        → row_at ts q ≡ row_at rows q
    keep true is value = cc
    keep false other value = absurd (eqb-false q q other refl)

    change : (r : ℕ) (b : Bool) → eqb r q ≡ b → r ≢ q → cond b (Ok (row_at rows r)) (checked_other c (row_at rows q) prev (row_at rows r)) ≡ Ok
        (row_at ts r)
        → IsRowStep c (row_at rows q) (row_at rows r) (row_at ts r)
    change r true is other value = absurd (other (eqb-true r q is))
    change r false is other value = other_step c (row_at rows q) prev (row_at rows r) (row_at ts r) some value
