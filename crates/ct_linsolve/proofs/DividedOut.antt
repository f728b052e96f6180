-- Slimming ends, and what it divides out is a factor of all entries. Main lemmas: `out_start`, `out_more`, `out_done` for the loop of
-- `divide_out`; `without_kept` for the loops over candidates; `divides_out`, the law.
-- The sum of the degrees falls with each quotient, as long as some entry isn't zero.
use Rattle.ct_linsolve.proofs.Base.{◌≡◌, ◌≢◌, ◌⊎◌, inl, inr, refl, ℕ, zero, suc, ◌+◌, ◌<◌, ◌≤◌, ℤ, Bool, true, false, cond, eqb, eqb-true, eqb-false}
use Rattle.ct_linsolve.proofs.Base.{Some, Ok, Err, Result, List, [], ◌∷◌, length, sym, ◌∙◌, ap, ap₂, arith, range_with_len, Mono, monomials}
use Rattle.ct_linsolve.proofs.Base.{int_group}
use Rattle.ct_linsolve.proofs.Base.{Polynomial, polys, times, mul_zero, none_of, has_none, each_means, primitive_form}
use Rattle.std.specs.List.{fold}
use Rattle.ct_algebra.proofs.PolynomialLawProofs.{degrees}
use Rattle.ct_algebra.specs.Leading.{leading}
use Rattle.ct_algebra.specs.Monomial.{total, total-·}
use Rattle.ct_algebra.specs.Polynomial.{degree, degree_of}
use Rattle.ct_poly.proofs.ProductLeads.{product_leads}
use Rattle.ct_telescoping.proofs.EntriesFree.{zero_or_not}
use Rattle.ct_linsolve.specs.Rows.{Row, entry, quotient_or_none, quotients}
use Rattle.ct_linsolve.specs.Slimming.{on_quotients, divided_out, row_degree, without, without_entry, slimmed, IsNonzero, IsOver, SlimmingDividesOut}
use Rattle.ct_linsolve.proofs.RowSteps.{same_row, over_over, one_quotient, quotients_over}

-- ---- degrees

product_degree : (q f : Polynomial) → q ≢ polys.zero → f ≢ polys.zero → degree (times q f) ≡ degree q + degree f
unfolding degree
product_degree q f some other = by q.terms refl f.terms refl
  where
    first : (es : List (Mono × ℤ)) (t : Mono × ℤ) → leading es ≡ Some t → degree_of es ≡ total t.0
    first [] t is = cc
    first (e ∷ es) t is = let same : e ≡ t = cc in ap (λ (e : Mono × ℤ). total e.0) same

    by : (es : List (Mono × ℤ)) → q.terms ≡ es → (gs : List (Mono × ℤ)) → f.terms ≡ gs
        → degree_of (times q f).terms ≡ degree_of q.terms + degree_of f.terms
    by [] q_is gs f_is = absurd (some (none_of monomials int_group q (ap (has_none monomials int_group) q_is)))
    by (e ∷ es) q_is [] f_is = absurd (other (none_of monomials int_group f (ap (has_none monomials int_group) f_is)))
    by (e ∷ es) q_is (g ∷ gs) f_is =
        first (times q f).terms _ (product_leads f g gs f_is q e es q_is) ∙ total-· e.0 g.0
        ∙ sym (ap₂ (λ es gs. degree_of es + degree_of gs) q_is f_is)

pub has_degree : (f : Polynomial) → 0 < degree f → f ≢ polys.zero
has_degree f high none = omega (arith, high, ap degree none, degrees.of_zero)

quotient_degree : (f x y : Polynomial) → 0 < degree f → x ≡ polys.◌*◌ f y → (degree y ≤ degree x) × (x ≢ polys.zero → degree y < degree x)
unfolding times
quotient_degree f x y high is = by (zero_or_not y)
  where
    by : (y ≡ polys.zero) ⊎ (y ≢ polys.zero) → (degree y ≤ degree x) × (x ≢ polys.zero → degree y < degree x)
    by (inl none) = (
      omega (arith, ap degree none, degrees.of_zero),
      λ some. absurd (some (is ∙ ap (polys.◌*◌ f) none ∙ mul_zero polys f)),
    )
    by (inr some) =
        let sum : degree x ≡ degree f + degree y = ap degree is ∙ product_degree f y (has_degree f high) some in
        (omega (arith, sum), λ _. omega (arith, sum, high))

record Falls (r q : Row) : Type 0 where
  no_higher : row_degree q ≤ row_degree r
  lower : IsNonzero r → row_degree q < row_degree r

row_falls : (f : Polynomial) → 0 < degree f → (r q : Row) → quotients f r ≡ Ok q → Falls r q
row_falls f high r q found =
    each_means (λ _ x. quotient_or_none f x) Falls (record { no_higher = omega arith; lower = λ some. absurd (some.1 refl) }) more 1 r q found
  where
    more : (n : ℕ) (x y : Polynomial) (xs ys : Row) → quotient_or_none f x ≡ Ok y → Falls xs ys → Falls (x ∷ xs) (y ∷ ys)
    more n x y xs ys one rest =
        let d = quotient_degree f x y high (one_quotient f x y one) in
        record { no_higher = omega (arith, d.0, rest.no_higher); lower = λ some. by some.0 some.1 d.1 }
      where
        by : (c : ℕ) → entry (x ∷ xs) c ≢ polys.zero → (x ≢ polys.zero → degree y < degree x) → row_degree (y ∷ ys) < row_degree (x ∷ xs)
        by zero some less = omega (arith, less some, rest.no_higher)
        by (suc c) some less =
            let d = quotient_degree f x y high (one_quotient f x y one) in omega (arith, d.0, rest.lower (c, some))

-- ---- factors

over_nonzero : {r s : Row} → IsOver r s → IsNonzero r → IsNonzero s
over_nonzero {r} {s} over some =
    (some.0, λ none. some.1 (over.entries some.0 ∙ ap (polys.◌*◌ over.factor) none ∙ mul_zero polys over.factor))

quotients_nonzero : (f : Polynomial) (r q : Row) → 0 < degree f → quotients f r ≡ Ok q → IsNonzero r → IsNonzero q
quotients_nonzero f r q high found some = over_nonzero (quotients_over f r q (has_degree f high) found) some

out_over : (f : Polynomial) → f ≢ polys.zero → (n : ℕ) (r : Row) → IsOver r (divided_out f n r)
out_over f some zero r = same_row r
out_over f some (suc n) r = by (quotients f r) refl (out_over f some n)
  where
    by : (o : Result Row (Unit {0})) → quotients f r ≡ o → ((q : Row) → IsOver q (divided_out f n q)) → IsOver r (on_quotients o r (divided_out f n))
    by (Ok q) found later = over_over (quotients_over f r q some found) (later q)
    by (Err e) none later = same_row r

without_over : (r : Row) (f : Polynomial) → IsOver r (without r f)
unfolding without
without_over r f = by (eqb (degree f) 0) refl
  where
    by : (b : Bool) → eqb (degree f) 0 ≡ b → IsOver r (cond b r (divided_out f (row_degree r) r))
    by true is = same_row r
    by false other = out_over f (λ none. eqb-false (degree f) 0 other (ap degree none ∙ degrees.of_zero)) (row_degree r) r

-- a constant, and another candidate
pub constant_stays : (r : Row) (f : Polynomial) → true ≡ eqb (degree f) 0 → r ≡ without r f
unfolding without
constant_stays r f is = ap (λ b. cond b r (divided_out f (row_degree r) r)) is

pub goes_through : (r : Row) (f : Polynomial) → false ≡ eqb (degree f) 0 → divided_out f (row_degree r) r ≡ without r f
unfolding without
goes_through r f is = ap (λ b. cond b r (divided_out f (row_degree r) r)) is

pub some_degree : (f : Polynomial) → false ≡ eqb (degree f) 0 → 0 < degree f
some_degree f is = by (degree f) (eqb-false (degree f) 0 (sym is))
  where
    by : (n : ℕ) → n ≢ 0 → 0 < n
    by zero other = absurd (other refl)
    by (suc n) other = omega arith

pub without_kept : (r : Row) (f : Polynomial) → IsNonzero r → IsNonzero (without r f)
without_kept r f some = over_nonzero (without_over r f) some

fold_over : {X : Type 0} (g : X → Row → Row) → ((x : X) (r : Row) → IsOver r (g x r)) → (xs : List X) (r : Row) → IsOver r (fold (λ r x. g x r) r xs)
fold_over g each [] r = same_row r
fold_over g each (x ∷ xs) r = over_over (each x r) (fold_over g each xs (g x r))

pub slimmed_over : (extra : List Polynomial) (r : Row) → IsOver r (slimmed extra r)
unfolding slimmed
slimmed_over extra r =
    over_over (fold_over (λ f r. without r f) (λ f r. without_over r f) extra r)
    (fold_over (λ c r. without_entry r c) (λ c r. without_over r (primitive_form (entry r c))) (range_with_len 0 (length r)) (fold without r extra))

-- ---- the loop

-- what is done is as far from the end as this many turns
pub record IsDividingOut (f : Polynomial) (r row : Row) : Type 0 where
  left : ℕ
  enough : row_degree row ≤ left
  same : divided_out f (row_degree r) r ≡ divided_out f left row
  pub nonzero : IsNonzero row

pub out_start : (f : Polynomial) (r : Row) → IsNonzero r → IsDividingOut f r r
out_start f r some = record { left = row_degree r; enough = omega arith; same = refl; nonzero = some }

pub out_more :
    (f : Polynomial) (r row q : Row) → 0 < degree f → quotients f row ≡ Ok q → IsDividingOut f r row →
    IsDividingOut f r q × (row_degree q < row_degree row)
out_more f r row q high found d = by d.left d.enough d.same
  where
    falls : row_degree q < row_degree row
    falls = (row_falls f high row q found).lower d.nonzero

    by : (n : ℕ) → row_degree row ≤ n → divided_out f (row_degree r) r ≡ divided_out f n row → IsDividingOut f r q × (row_degree q < row_degree row)
    by zero few same = absurd (omega (arith, few, falls))
    by (suc n) few same = (
      record {
        left = n;
        enough = omega (arith, few, falls);
        same = same ∙ ap (λ o. on_quotients o row (divided_out f n)) found;
        nonzero = quotients_nonzero f row q high found d.nonzero;
      },
      falls,
    )

pub out_done : (f : Polynomial) (r row : Row) → quotients f row ≡ Err tt → IsDividingOut f r row → row ≡ divided_out f (row_degree r) r
out_done f r row none d = by d.left d.same
  where
    by : (n : ℕ) → divided_out f (row_degree r) r ≡ divided_out f n row → row ≡ divided_out f (row_degree r) r
    by zero same = sym same
    by (suc n) same = sym (same ∙ ap (λ o. on_quotients o row (divided_out f n)) none)

-- ---- the law

ended : (f : Polynomial) → 0 < degree f → (n : ℕ) (r : Row) → IsNonzero r → row_degree r ≤ n → quotients f (divided_out f n r) ≡ Err tt
ended f high zero r some few = by (quotients f r) refl
  where
    by : (o : Result Row (Unit {0})) → quotients f r ≡ o → quotients f r ≡ Err tt
    by (Ok q) found = absurd (omega (arith, few, (row_falls f high r q found).lower some))
    by (Err e) none = none
ended f high (suc n) r some few = by (quotients f r) refl (ended f high n)
  where
    by : (o : Result Row (Unit {0})) → quotients f r ≡ o
        → ((q : Row) → IsNonzero q → row_degree q ≤ n → quotients f (divided_out f n q) ≡ Err tt)
        → quotients f (on_quotients o r (divided_out f n)) ≡ Err tt
    by (Ok q) found later =
        later q (quotients_nonzero f r q high found some) (omega (arith, few, (row_falls f high r q found).lower some))
    by (Err e) none later = none

goes_out : (r : Row) (f : Polynomial) → IsNonzero r → 0 < degree f → quotients f (without r f) ≡ Err tt
unfolding without
goes_out r f some high = by (eqb (degree f) 0) refl
  where
    by : (b : Bool) → eqb (degree f) 0 ≡ b → quotients f (cond b r (divided_out f (row_degree r) r)) ≡ Err tt
    by true is = absurd (omega (arith, high, eqb-true (degree f) 0 is))
    by false other = ended f high (row_degree r) r some (omega arith)

pub divides_out : SlimmingDividesOut
divides_out = record { goes_out = goes_out; is_factor = slimmed_over }
