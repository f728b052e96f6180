-- The loop of a division: its lists are those of the states of the checked computation. Main lemmas `division_start`,
-- `division_more`, `division_stops`, `division_found` and `division_fails`, which `Poly::divide` cites.
-- A term that is found is below all terms of the quotient so far, since times the leading term of f it leads the rest.
use Rattle.ct_poly.proofs.Base.{◌≡◌, refl, ℕ, ◌+◌, ◌*◌, ◌≤◌, ◌<◌, Bool, true, false, ltb, T, cond, ℤ, unsigned_abs, nat_abs, List, [], ◌∷◌, ◌++◌}
use Rattle.ct_poly.proofs.Base.{length, Ok, Err, Some, None, Option, Less, sym, ◌∙◌, ap, ap₂, subst, subst₂, arith, ltb-false, length-append}
use Rattle.ct_poly.proofs.Base.{sum_by-cons, sum_by-append, leading, AllBelow_trans, less_is, Mono, monomials, mono_ordered, mono_cmp, ◌·◌}
use Rattle.ct_poly.proofs.Base.{Polynomial, polys, plus_is, times, norm, term, has_none, AllBelow, IsCanonical, EachTerm, EachTerm-weaker, is_less}
use Rattle.ct_poly.proofs.Base.{int_group, int_is_zero, Checked, ◌>>=◌, verdict_fits, verdict_refuses, most_terms, largest_norm, run, run_step}
use Rattle.ct_poly.proofs.Base.{run_done, Kind, Terms, Number}
use Rattle.ct_poly.specs.declared.term.Term.{Term}
use Rattle.ct_poly.specs.declared.division.Measure.{Measure}
use Rattle.ct_poly.specs.Division.{Dividing, leading_over, next_term, step_rules, step_overflow, step_of, checked_step, leading_rank, dividing_rank}
use Rattle.ct_poly.specs.Division.{found_quotient, checked_quotient}
use Rattle.ct_poly.specs.Measures.{minus, broken}
use Rattle.ct_poly.specs.Terms.{entries, entry, size_of, IsFalling, IsListOf, poly_of_terms}
use Rattle.ct_poly.proofs.DivisionSteps.{IsNext, next_is, coef_nonzero, rest_below, rank_falls, division_falls}
use Rattle.ct_poly.proofs.ProductLeads.{all_below}
use Rattle.ct_poly.proofs.TermLists.{no_length, terms_of, count_of-terms, norm_of-terms, poly_of-none, poly_of-one, poly_of-append, entries-append}
use Rattle.ct_poly.proofs.TermLists.{nonzero_coef}
use Rattle.ct_poly.proofs.Values.{IsKept}

-- ---- the rules

pub record StepFits (rest_count rest_norm by_count by_norm quotient_count quotient_norm size : ℕ) : Type 0 where
  pub few : rest_count + by_count ≤ most_terms
  pub room : quotient_count + 1 ≤ most_terms
  pub small : rest_norm + size * by_norm ≤ largest_norm
  pub fits : quotient_norm + size ≤ largest_norm

pub step_fits : (a b c d e g h : ℕ) → step_rules a b c d e g h ≡ None → StepFits a b c d e g h
step_fits a b c d e g h none =
    by (ltb most_terms (a + c)) (ltb most_terms (e + 1)) (ltb largest_norm (h * d)) (ltb largest_norm (b + h * d))
    (ltb largest_norm (g + h)) refl refl refl refl none
  where
    by : (u v w x y : Bool) → ltb most_terms (a + c) ≡ u → ltb most_terms (e + 1) ≡ v → ltb largest_norm (b + h * d) ≡ x →
        ltb largest_norm (g + h) ≡ y
        → broken u Terms (broken v Terms (broken w Number (broken x Number (broken y Number None)))) ≡ None → StepFits a b c d e g h
    by true v w x y p q r s fits = cc
    by false true w x y p q r s fits = cc
    by false false true x y p q r s fits = cc
    by false false false true y p q r s fits = cc
    by false false false false true p q r s fits = cc
    by false false false false false p q r s fits =
        record { few = ltb-false _ _ p; room = ltb-false _ _ q; small = ltb-false _ _ r; fits = ltb-false _ _ s }

-- ---- one more term at the end

canonical_end :
    (es : List (Mono × ℤ)) (u : Mono × ℤ) → IsCanonical monomials int_group es → EachTerm (λ k c. mono_cmp u.0 k ≡ Less) es →
    T (cond (int_is_zero u.1) false true) → IsCanonical monomials int_group (es ++ u ∷ [])
canonical_end [] u canonical lower some = (some, tt, tt)
canonical_end (e ∷ es) u canonical lower some = (canonical.0, below es canonical.1, canonical_end es u canonical.2 lower.1 some)
  where
    below : (es : List (Mono × ℤ)) → AllBelow monomials int_group e.0 es → AllBelow monomials int_group e.0 (es ++ u ∷ [])
    below [] all = (subst (λ r. T (is_less r)) (sym lower.0) tt, tt)
    below (d ∷ es) all = (all.0, below es all.1)

EachTerm-append :
    (Q : Mono → ℤ → Type 0) (es ds : List (Mono × ℤ)) → EachTerm Q es → EachTerm Q ds → EachTerm Q (es ++ ds)
EachTerm-append Q [] ds first second = second
EachTerm-append Q (e ∷ es) ds first second = (first.0, EachTerm-append Q es ds first.1 second)

-- ---- the state

abbrev pub dividing : List Term → List Term → Dividing
dividing rest quotient = record { rest = poly_of_terms rest; quotient = poly_of_terms quotient }

abbrev pub IsShort : List Term → Type 0
IsShort ts = IsFalling ts × (length ts ≤ most_terms) × (size_of ts ≤ largest_norm)

-- every term of the quotient times n is above the rest
abbrev pub IsAbove : Mono → List Term → List Term → Type 0
IsAbove n rest quotient = EachTerm (λ k c. AllBelow monomials int_group (k · n) (entries rest)) (entries quotient)

abbrev pub outcome : Polynomial → Dividing → Checked (Option Polynomial)
outcome f s = run dividing_rank (next_term f) (checked_step f) s >>= (λ s. Ok (found_quotient s))

pub record IsDivision (p f : Polynomial) (rest quotient : List Term) (size : ℕ) : Type 0 where
  pub rest_short : IsShort rest
  pub quotient_short : IsShort quotient
  pub size_is : size ≡ size_of quotient
  pub above : (b : Mono × ℤ) (bs : List (Mono × ℤ)) → f.terms ≡ b ∷ bs → IsAbove b.0 rest quotient
  pub goes_on : checked_quotient p f ≡ outcome f (dividing rest quotient)

pub division_start : {p f : Polynomial} {ts rest quotient : List Term} → IsKept p ts → rest ≡ ts → quotient ≡ [] → IsDivision p f rest quotient 0
unfolding checked_quotient
division_start {p} {f} {ts} kept rest_is empty = subst₂ (λ r q. IsDivision p f r q 0) (sym rest_is) (sym empty) (record {
  rest_short = (kept.falling, kept.few, kept.small);
  quotient_short = (tt, omega arith, omega arith);
  size_is = refl;
  above = λ b bs f_is. tt;
  goes_on = ap (outcome f) (λ i. record { rest = sym kept.value i; quotient = sym poly_of-none i });
})

module _ {p f : Polynomial} {rest quotient divisor : List Term} {size : ℕ} (kept : IsKept f divisor) (d : IsDivision p f rest quotient size) where
  abbrev s : Dividing
  s = dividing rest quotient

  abbrev found : Option (Mono × ℤ)
  found = leading_over (leading (entries rest)) (leading (entries divisor))

  rest_terms : entries rest ≡ (poly_of_terms rest).terms
  rest_terms = terms_of rest d.rest_short.0 refl

  by_terms : entries divisor ≡ f.terms
  by_terms = terms_of divisor kept.falling kept.value

  found_next : next_term f s ≡ found
  unfolding next_term
  found_next = ap₂ (λ a b. leading_over (leading a) (leading b)) (sym rest_terms) (sym by_terms)

  module _ (u : Term) (some : found ≡ Some (entry u)) where
    is_next : IsNext s.rest.terms f.terms (entry u)
    is_next = next_is f s (entry u) (found_next ∙ some)

    abbrev rules : Option Kind
    rules = step_rules (length rest) (size_of rest) (length divisor) (size_of divisor) (length quotient) size (unsigned_abs u.coef)

    rules_are : step_overflow f (entry u) s ≡ rules
    unfolding step_overflow
    rules_are =
        let a = count_of-terms rest d.rest_short.0 refl in
        let b = norm_of-terms rest d.rest_short.0 refl in
        let c = count_of-terms divisor kept.falling kept.value in
        let e = norm_of-terms divisor kept.falling kept.value in
        let g = count_of-terms quotient d.quotient_short.0 refl in
        let h : norm (poly_of_terms quotient) ≡ size = norm_of-terms quotient d.quotient_short.0 refl ∙ sym d.size_is in
        λ i. step_rules (a i) (b i) (c i) (e i) (g i) (h i) (unsigned_abs u.coef)

    one_step : outcome f s ≡ (checked_step f (entry u) s >>= outcome f)
    one_step =
        ap (λ r. r >>= (λ s. Ok (found_quotient s)))
        (run_step dividing_rank (next_term f) (checked_step f) (division_falls f) s (entry u) (found_next ∙ some))
        ∙ inside (checked_step f (entry u) s)
      where
        inside : (c : Checked Dividing) → (c >>= run dividing_rank (next_term f) (checked_step f)) >>= (λ s. Ok (found_quotient s)) ≡
            (c >>= outcome f)
        inside (Ok t) = refl
        inside (Err kind) = refl

    pub division_stops : (kind : Kind) → rules ≡ Some kind → checked_quotient p f ≡ Err kind
    unfolding checked_step
    division_stops kind refused =
        d.goes_on ∙ one_step ∙ ap (λ c. c >>= outcome f) (verdict_refuses _ (step_of f (entry u) s) kind (rules_are ∙ refused))

    stepped_terms :
        (v : List Term) → IsFalling v → poly_of_terms v ≡ minus (poly_of_terms rest) (times (term u.mono u.coef) (poly_of_terms divisor)) →
        entries v ≡ (step_of f (entry u) s).rest.terms
    unfolding step_of
    stepped_terms v falling value = terms_of v falling (value ∙ ap (λ w. minus (poly_of_terms rest) (times (term u.mono u.coef) w)) kept.value)

    pub division_falls_here :
        (v : List Term) → IsFalling v → poly_of_terms v ≡ minus (poly_of_terms rest) (times (term u.mono u.coef) (poly_of_terms divisor)) →
        leading_rank (leading (entries v)) < leading_rank (leading (entries rest))
    unfolding step_of dividing_rank
    division_falls_here v falling value =
        subst₂ (λ a b. leading_rank (leading a) < leading_rank (leading b)) (sym (stepped_terms v falling value)) (sym rest_terms)
        (rank_falls f s (entry u) is_next)

    pub division_more :
        (v more : List Term) (next : ℕ) → None ≡ rules →
        IsListOf (minus (poly_of_terms rest) (times (term u.mono u.coef) (poly_of_terms divisor))) (length rest + length divisor)
        (size_of rest + unsigned_abs u.coef * size_of divisor) v →
        more ≡ quotient ++ u ∷ [] → next ≡ size + unsigned_abs u.coef → IsDivision p f v more next
    unfolding checked_step step_of
    division_more v more next none left more_is next_is = subst (λ q. IsDivision p f v q next) (sym more_is) (record {
      rest_short = (left.falling, omega (arith, left.few, fits.few), omega (arith, left.small, fits.small));
      quotient_short = (
        subst (IsCanonical monomials int_group) (sym (entries-append quotient (u ∷ [])))
            (canonical_end (entries quotient) (entry u) d.quotient_short.0
            (lower (entries quotient) (d.above is_next.lead is_next.others is_next.by_is))
            (nonzero_coef u.coef (coef_nonzero f s (entry u) is_next))),
        omega (arith, fits.room, length-append quotient (u ∷ [])),
        omega (arith, fits.fits, d.size_is, size_end),
      );
      size_is = omega (arith, next_is, d.size_is, size_end);
      above = λ b bs f_is. still b bs f_is;
      goes_on = d.goes_on ∙ one_step
          ∙ ap (λ c. c >>= outcome f) (verdict_fits _ _ (dividing v (quotient ++ u ∷ [])) (rules_are ∙ sym none) stepped);
    })
      where
        fits : StepFits (length rest) (size_of rest) (length divisor) (size_of divisor) (length quotient) size (unsigned_abs u.coef)
        fits = step_fits _ _ _ _ _ _ _ (sym none)

        size_end : size_of (quotient ++ u ∷ []) ≡ size_of quotient + unsigned_abs u.coef
        size_end = omega (arith, sum_by-append (λ t. nat_abs t.coef) quotient (u ∷ []), sum_by-cons (λ t. nat_abs t.coef) u [])

        stepped : step_of f (entry u) s ≡ dividing v (quotient ++ u ∷ [])
        stepped = λ i. record {
          rest = (ap (λ w. minus (poly_of_terms rest) (times (term u.mono u.coef) w)) (sym kept.value) ∙ sym left.value) i;
          quotient = (plus_is (poly_of_terms quotient) (term u.mono u.coef)
              ∙ sym (poly_of-append quotient (u ∷ []) ∙ ap (polys.◌+◌ (poly_of_terms quotient)) (poly_of-one u))) i;
        }

        top_below : AllBelow monomials int_group is_next.top.0 (entries v)
        top_below = subst (AllBelow monomials int_group is_next.top.0) (sym (stepped_terms v left.falling left.value))
            (all_below is_next.top.0 _ (rest_below f s (entry u) is_next))

        top_in : (m : Mono) → AllBelow monomials int_group m (entries rest) → mono_cmp is_next.top.0 m ≡ Less
        top_in m below = less_is monomials int_group _ (subst (AllBelow monomials int_group m) (rest_terms ∙ is_next.rest_is) below).0

        lower : (es : List (Mono × ℤ)) → EachTerm (λ k c. AllBelow monomials int_group (k · is_next.lead.0) (entries rest)) es →
            EachTerm (λ k c. mono_cmp u.mono k ≡ Less) es
        lower es each = EachTerm-weaker (λ k c below. sym (mono_ordered.shifted is_next.lead.0 u.mono k)
            ∙ ap (λ w. mono_cmp w (k · is_next.lead.0)) is_next.mono ∙ top_in (k · is_next.lead.0) below) es each

        head_mono : Mono → List (Mono × ℤ) → Mono
        head_mono m [] = m
        head_mono m (e ∷ es) = e.0

        still : (b : Mono × ℤ) (bs : List (Mono × ℤ)) → f.terms ≡ b ∷ bs → IsAbove b.0 v (quotient ++ u ∷ [])
        still b bs f_is =
            let lead : is_next.lead.0 ≡ b.0 = ap (head_mono b.0) (sym is_next.by_is ∙ f_is) in
            subst (EachTerm (λ k c. AllBelow monomials int_group (k · b.0) (entries v))) (sym (entries-append quotient (u ∷ [])))
            (EachTerm-append _ (entries quotient) (entry u ∷ [])
            (EachTerm-weaker (λ k c below. AllBelow_trans monomials int_group is_next.top.0 (k · b.0) (entries v) (top_in (k · b.0) below) top_below)
            (entries quotient) (d.above b bs f_is))
            (subst (λ m. AllBelow monomials int_group m (entries v)) (sym (ap (λ w. u.mono · w) (sym lead) ∙ is_next.mono)) top_below, tt))

  module _ (none : found ≡ None) where
    finished : checked_quotient p f ≡ Ok (found_quotient s)
    finished =
        d.goes_on ∙ ap (λ r. r >>= (λ s. Ok (found_quotient s)))
        (run_done dividing_rank (next_term f) (checked_step f) (division_falls f) s (found_next ∙ none))

    pub division_found : length rest ≡ 0 → checked_quotient p f ≡ Ok (Some (poly_of_terms quotient))
    unfolding found_quotient
    division_found empty =
        finished ∙ ap (λ es. Ok (cond (has_none monomials int_group es) (Some (poly_of_terms quotient)) None))
        (sym rest_terms ∙ ap entries (no_length rest empty))

    pub division_fails : (length rest ≡ 0 → ⊥) → checked_quotient p f ≡ Ok None
    unfolding found_quotient
    division_fails some =
        finished ∙ ap (λ b. Ok (cond b (Some (poly_of_terms quotient)) None)) (ap (has_none monomials int_group) (sym rest_terms) ∙ full rest some)
      where
        full : (ts : List Term) → (length ts ≡ 0 → ⊥) → has_none monomials int_group (entries ts) ≡ false
        full [] some = absurd (some refl)
        full (t ∷ ts) some = refl

-- ---- what the code reads

pub rules_read :
    (rest divisor quotient : List Term) (size : ℕ) (c : ℤ) {a b : Measure} {n abs : ℕ} {x : Option Kind} →
    a ≡ record { count = length rest; norm = size_of rest } → b ≡ record { count = length divisor; norm = size_of divisor } →
    n ≡ length quotient → abs ≡ unsigned_abs c → x ≡ step_rules a.count a.norm b.count b.norm n size abs →
    x ≡ step_rules (length rest) (size_of rest) (length divisor) (size_of divisor) (length quotient) size (unsigned_abs c)
rules_read rest divisor quotient size c a_is b_is n_is abs_is read =
    read ∙ (λ i. step_rules (a_is i).count (a_is i).norm (b_is i).count (b_is i).norm (n_is i) size (abs_is i))

pub listed : (ts : List Term) → IsShort ts → IsListOf (poly_of_terms ts) (length ts) (size_of ts) ts
listed ts short = record { falling = short.0; value = refl; few = omega arith; small = omega arith }
