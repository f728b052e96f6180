-- Rows whose entries are divided as they are made. Main lemmas `zero_divided`, `both_zero_divided`, `cross_divided`, `dividing_start`,
-- `dividing_more`, `divided_all` and `divided_answers`, which the functions of `entries` cite.
-- The row of p·x − a·y isn't made; it is only known what it would be, and that its quotients are those that were found.
use Rattle.ct_linsolve.proofs.Base.{◌≡◌, ◌≢◌, refl, ℕ, ℤ, Bool, true, false, cond, eqb, List, [], ◌∷◌, ◌++◌, length, Ok, Some, inr, sym, ◌∙◌, ap, ap₂}
use Rattle.ct_linsolve.proofs.Base.{subst, arith, append_assoc, append-nil, length-append, None, Option, IfSome, ok_or, Mono, monomials, Polynomial}
use Rattle.ct_linsolve.proofs.Base.{polys, plus_is, times, count, norm, zero_mul, one_mul, none, none_of, has_none, int_group, ◌>>=◌, verdict_fits}
use Rattle.ct_linsolve.proofs.Base.{each_behind, cross, checked_cross, IsCrossQuotient, quotient, checked_quotient, value_or_none, minus}
use Rattle.ct_linsolve.proofs.Base.{checked_times, checked_minus, quotient_is}
use Rattle.ct_checked.proofs.Traversals.{behind as behind_one}
use Rattle.ct_poly.proofs.FittingQuotients.{fitting_quotient}
use Rattle.ct_poly.proofs.OverflowRules.{sum_fits}
use Rattle.ct_poly.proofs.Values.{product_with_zero_answers}
use Rattle.ct_linsolve.specs.DividedRow.{IsDividedEntry, IsDividedRow}
use Rattle.ct_linsolve.specs.Elimination.{crossed_entry, checked_crossed, checked_divided}
use Rattle.ct_linsolve.specs.Rows.{Row, entry, quotient_or_none, quotients, or_kept, over_divisor}
use Rattle.ct_linsolve.proofs.FromZero.{behind, zero_behind}
use Rattle.ct_linsolve.proofs.RowContents.{no_row}

-- ---- one entry

pub IfSome_weaker : {X : Type 0} {P Q : X → Type 0} (o : Option X) → ((x : X) → P x → Q x) → IfSome o P → IfSome o Q
IfSome_weaker None weaker holds = tt
IfSome_weaker (Some x) weaker holds = weaker x holds

module _ (f : Polynomial) (some : f ≢ polys.zero) where
  times_zero : times polys.zero f ≡ polys.zero
  unfolding times
  times_zero = zero_mul polys f

  pub zero_quotient : quotient polys.zero f ≡ Some polys.zero
  unfolding quotient count norm none
  zero_quotient = ap value_or_none (by f.terms refl)
    where
      by : (es : List (Mono × ℤ)) → f.terms ≡ es → checked_quotient polys.zero f ≡ Ok (Some polys.zero)
      by [] empty = absurd (some (none_of monomials int_group f (ap (has_none monomials int_group) empty)))
      by (e ∷ es) f_is = fitting_quotient polys.zero f polys.zero e es f_is times_zero (omega arith) (omega arith) (omega arith) (omega arith)

  pub zero_divided : (p a x y q : Polynomial) → q ≡ polys.zero → IsDividedEntry true p a f x y q
  zero_divided p a x y q zero_too = record { value = polys.zero; is_value = refl; divides = zero_quotient ∙ ap (λ w. Some w) (sym zero_too) }

  -- the cross difference of zeros
  zeros_fit : checked_minus polys.zero polys.zero ≡ Ok polys.zero
  unfolding checked_minus minus count norm none
  zeros_fit = verdict_fits _ _ _ (sum_fits polys.zero polys.zero (omega arith) (omega arith)) (plus_is _ _ ∙ polys.add_neg polys.zero)

  zero_cross : (p a x y : Polynomial) → x ≡ polys.zero → y ≡ polys.zero → checked_cross p a x y ≡ Ok polys.zero
  unfolding checked_cross
  zero_cross p a x y first second =
      ap (λ c. c >>= (λ u. checked_times a y >>= (λ v. checked_minus u v))) (product_with_zero_answers p x polys.zero (inr first) refl)
      ∙ ap (λ c. c >>= (λ v. checked_minus polys.zero v)) (product_with_zero_answers a y polys.zero (inr second) refl)
      ∙ zeros_fit

  pub both_zero_divided : (b : Bool) (p a x y q : Polynomial) → x ≡ polys.zero → y ≡ polys.zero → q ≡ polys.zero → IsDividedEntry b p a f x y q
  both_zero_divided true p a x y q first second zero_too = zero_divided p a x y q zero_too
  both_zero_divided false p a x y q first second zero_too =
      record { value = polys.zero; is_value = zero_cross p a x y first second; divides = zero_quotient ∙ ap (λ w. Some w) (sym zero_too) }

  pub cross_divided : (b : Bool) (p a x y q : Polynomial) → b ≡ false → IsCrossQuotient p a x y f q → IsDividedEntry b p a f x y q
  cross_divided true p a x y q other found = cc
  cross_divided false p a x y q other found = record { value = cross p a x y; is_value = found.crosses; divides = found.divides }

-- ---- all entries

-- the entries so far, undivided and divided
pub record IsDividing (c : ℕ) (p a f : Polynomial) (pivot r done rest : Row) : Type 0 where
  pub crossed : Row
  pub long : length crossed ≡ length done
  pub crosses : checked_crossed c p a pivot r ≡ behind (crossed_entry c p a pivot) crossed rest
  pub divides : (zs : Row) → quotients f (crossed ++ zs) ≡ behind_one (λ _ x. quotient_or_none f x) done zs

pub dividing_start : (c : ℕ) (p a f : Polynomial) (pivot r : Row) {done : Row} → done ≡ [] → IsDividing c p a f pivot r done r
dividing_start c p a f pivot r {done} empty = record {
  crossed = [];
  long = ap length (sym empty);
  crosses = zero_behind (crossed_entry c p a pivot) [] r refl;
  divides = λ zs. each_behind (λ _ x. quotient_or_none f x) done zs empty;
}

pub dividing_more :
    {c : ℕ} {p a f x y q : Polynomial} {pivot r done more_done rest more : Row} (b : Bool) → b ≡ eqb (length done) c →
    y ≡ entry pivot (length done) → rest ≡ x ∷ more → more_done ≡ done ++ q ∷ [] → IsDividedEntry b p a f x y q →
    IsDividing c p a f pivot r done rest → IsDividing c p a f pivot r more_done more
dividing_more {c} {p} {a} {f} {x} {y} {q} {pivot} {r} {done} {more_done} {rest} {more} b b_is y_is rest_is done_is e d =
    subst (λ n. IsDividing c p a f pivot r n more) (sym done_is) (record {
      crossed = d.crossed ++ e.value ∷ [];
      long = omega (arith, d.long, length-append d.crossed (e.value ∷ []), length-append done (q ∷ []));
      crosses =
          d.crosses ∙ ap (behind (crossed_entry c p a pivot) d.crossed) rest_is
          ∙ ap (λ v. v >>= (λ z. behind (crossed_entry c p a pivot) (d.crossed ++ z ∷ []) more)) value;
      divides = λ zs.
          ap (quotients f) (append_assoc d.crossed (e.value ∷ []) zs) ∙ d.divides (e.value ∷ zs)
          ∙ ap (λ o. ok_or o tt >>= (λ q. behind_one (λ _ x. quotient_or_none f x) (done ++ q ∷ []) zs)) e.divides;
    })
  where
    value : crossed_entry c p a pivot (length d.crossed) x ≡ Ok e.value
    value =
        ap (λ n. crossed_entry c p a pivot n x) d.long
        ∙ ap₂ (λ t y. cond t (Ok polys.zero) (checked_cross p a x y)) (sym b_is) (sym y_is) ∙ e.is_value

pub divided_all :
    {c : ℕ} {p a f : Polynomial} {pivot r done rest : Row} → IsDividing c p a f pivot r done rest → length rest ≡ 0 →
    IsDividedRow c p a f pivot r done
divided_all {c} {p} {a} {f} {pivot} {r} {done} {rest} d empty = record {
  crossed = d.crossed;
  crosses = d.crosses ∙ ap (behind (crossed_entry c p a pivot) d.crossed) (no_row rest empty);
  divides = ap (quotients f) (sym (append-nil d.crossed)) ∙ d.divides [];
}

-- ---- the answer

pub divided_answers :
    {c : ℕ} {p a f : Polynomial} {pivot r q : Row} → IsDividedRow c p a f pivot r q → checked_divided c p a f pivot r ≡ Ok q
unfolding checked_divided over_divisor
divided_answers {c} {p} {a} {f} {pivot} {r} {q} d =
    ap (λ v. v >>= (λ r. Ok (or_kept r (quotients f r)))) d.crosses ∙ ap (λ o. Ok (or_kept d.crossed o)) d.divides

-- ---- by one

-- the quotient by one is the value itself
pub crossed_by_one : (p a x y q : Polynomial) → IsCrossQuotient p a x y polys.one q → checked_cross p a x y ≡ Ok q
unfolding times
crossed_by_one p a x y q found =
    found.crosses ∙ ap (λ w. Ok w) (sym (quotient_is (cross p a x y) polys.one q found.divides) ∙ polys.mul_comm q polys.one ∙ one_mul polys q)
