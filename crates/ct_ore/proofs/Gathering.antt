-- A list in written form falls into runs of equal symbols, and each run is a term of the operator: the steps that gather it.
-- Main lemmas `gathering_step` and `gathering_end`. Two ways of cutting a list where the symbols change are the same way.
use Rattle.ct_ore.proofs.Base.{◌≡◌, refl, ℕ, suc, ◌+◌, ◌≤◌, nat_abs, ℤ, List, [], ◌∷◌, ◌++◌, length, get_or, map, take, drop, sym, ◌∙◌, ap, ap₂}
use Rattle.ct_ore.proofs.Base.{subst, subst₂, arith, length-append, append_assoc, append-nil, T, cond, true, false, sum_by-cons, sum_by-append}
use Rattle.ct_ore.proofs.Base.{AllBelow, IsCanonical, less_is, Mono, monomials, mono_cmp, mono_same, Polynomial, polys, has_none, same_terms}
use Rattle.ct_ore.proofs.Base.{int_group, back_canonical, most_terms, largest_norm, Term, entries, IsFalling}
use Rattle.std.proofs.lemmas.List.{take-append-drop}
use Rattle.ct_ore.specs.declared.coefficient_term.CoefficientTerm.{CoefficientTerm}
use Rattle.ct_ore.specs.declared.op.OpTerm.{OpTerm}
use Rattle.ct_ore.specs.Terms.{op_entries}
use Rattle.ct_ore.specs.CoefficientTerms.{sum_of_parts, size_of, IsWritten, row_of, all_terms, coefficient_terms}
use Rattle.ct_ore.specs.Lists.{Fits, StartsOther, AllHave, IsRun, IsRunLength, IsGathering, without_symbols}
use Rattle.ct_ore.proofs.WrittenOperators.{op_entries-append}
use Rattle.ct_ore.proofs.WrittenForm.{coefficients_of_sum, all_written}
use Rattle.ct_poly.specs.Terms as poly

-- ---- lists of code and their entries

length-row_of : (m : Mono) (es : List (Mono × ℤ)) → length (row_of m es) ≡ length es
length-row_of m [] = refl
length-row_of m (e ∷ es) = ap (λ n. suc n) (length-row_of m es)

length-entries : (ts : List Term) → length (entries ts) ≡ length ts
length-entries [] = refl
length-entries (t ∷ ts) = ap (λ n. suc n) (length-entries ts)

size_of-row : (m : Mono) (run : List Term) → size_of (row_of m (entries run)) ≡ poly.size_of run
size_of-row m [] = refl
size_of-row m (t ∷ run) =
    sum_by-cons (λ (u : CoefficientTerm). nat_abs u.number) (record { symbols = m; names = t.mono; number = t.coef }) (row_of m (entries run))
    ∙ ap (λ n. nat_abs t.coef + n) (size_of-row m run) ∙ sym (sum_by-cons (λ (u : Term). nat_abs u.coef) t run)

drop-row :
    (m : Mono) (run : List Term) (rest : List CoefficientTerm) → drop (length run) (row_of m (entries run) ++ rest) ≡ rest
drop-row m [] rest = refl
drop-row m (t ∷ run) rest = drop-row m run rest

-- what is not yet passed is what is dropped
run_ends :
    {m : Mono} {ts : List CoefficientTerm} {run : List Term} (rest : List CoefficientTerm) → ts ≡ row_of m (entries run) ++ rest →
    StartsOther m rest → IsRun m ts run
run_ends {m} {ts} {run} rest whole other =
    let dropped : drop (length run) ts ≡ rest = ap (drop (length run)) whole ∙ drop-row m run rest in
    record {
      whole = whole ∙ ap (λ us. row_of m (entries run) ++ us) (sym dropped);
      other = subst (StartsOther m) (sym dropped) other;
    }

-- ---- the first terms with given symbols

run_row : (m : Mono) (ts : List CoefficientTerm) → AllHave m ts → row_of m (entries (map without_symbols ts)) ≡ ts
run_row m [] all = refl
run_row m (t ∷ ts) all = λ i. record { symbols = sym all.0 i; names = t.names; number = t.number } ∷ run_row m ts all.1 i

pub run_of :
    {m : Mono} {ts front : List CoefficientTerm} {run : List Term} {n : ℕ} → IsRunLength m ts n → front ≡ take n ts →
    run ≡ map without_symbols front → IsRun m ts run
run_of {m} {ts} {front} {run} {n} l first made =
    run_ends (drop n ts)
    (sym (take-append-drop n ts)
    ∙ ap (λ us. us ++ drop n ts) (sym (ap (λ us. row_of m (entries us)) (made ∙ ap (map without_symbols) first) ∙ run_row m (take n ts) l.same)))
    l.other

-- ---- where the symbols change

-- two cuts at the first other symbols agree
pub record SameCut (ds es : List (Mono × ℤ)) (xs ys : List CoefficientTerm) : Type 0 where
  pub rows : ds ≡ es
  pub rests : xs ≡ ys

same_cut :
    (m : Mono) (ds es : List (Mono × ℤ)) (xs ys : List CoefficientTerm) → row_of m ds ++ xs ≡ row_of m es ++ ys →
    StartsOther m xs → StartsOther m ys → SameCut ds es xs ys
same_cut m [] [] xs ys same ox oy = record { rows = refl; rests = same }
same_cut m [] (e ∷ es) xs ys same ox oy = absurd (starts xs same ox)
  where
    starts :
        (xs : List CoefficientTerm) → xs ≡ record { symbols = m; names = e.0; number = e.1 } ∷ (row_of m es ++ ys) →
        StartsOther m xs → ⊥
    starts [] same other = cc
    starts (x ∷ xs) same other = other (cc)
same_cut m (d ∷ ds) [] xs ys same ox oy = absurd (starts ys (sym same) oy)
  where
    starts :
        (ys : List CoefficientTerm) → ys ≡ record { symbols = m; names = d.0; number = d.1 } ∷ (row_of m ds ++ xs) →
        StartsOther m ys → ⊥
    starts [] same other = cc
    starts (y ∷ ys) same other = other (cc)
same_cut m (d ∷ ds) (e ∷ es) xs ys same ox oy =
    let t : CoefficientTerm = record { symbols = m; names = d.0; number = d.1 } in
    let names : d.0 ≡ e.0 = ap (λ us. (get_or us 0 t).names) same in
    let numbers : d.1 ≡ e.1 = ap (λ us. (get_or us 0 t).number) same in
    let first : d ≡ e = λ i. (names i, numbers i) in
    let tails : row_of m ds ++ xs ≡ row_of m es ++ ys = ap (drop 1) same in
    let more = same_cut m ds es xs ys tails ox oy in
    record { rows = ap₂ (λ u us. u ∷ us) first more.rows; rests = more.rests }

-- what follows a term of an operator begins with lower symbols
later_other :
    (m : Mono) (es : List (Mono × Polynomial)) → AllBelow monomials polys.group m es →
    IsCanonical monomials polys.group es → StartsOther m (all_terms es)
later_other m [] below h = tt
later_other m (e ∷ es) below h = by e.1.terms h.0
  where
    by :
        (ds : List (Mono × ℤ)) → T (cond (has_none monomials int_group ds) false true) →
        StartsOther m (row_of e.0 ds ++ all_terms es)
    by [] some = absurd some
    by (d ∷ ds) some = λ same. cc (less_is monomials polys.group _ below.0, ap (λ k. mono_cmp k m) same ∙ mono_same m)

-- ---- the next term of the operator

pub record NextTerm (later : List (Mono × Polynomial)) (m : Mono) (rest : List CoefficientTerm) (run : List Term) : Type 0 where
  pub coefficient : Polynomial
  pub after : List (Mono × Polynomial)
  pub first : later ≡ (m, coefficient) ∷ after
  pub run_is : entries run ≡ coefficient.terms
  pub rest_is : drop (length run) rest ≡ all_terms after

first_symbols :
    (e : Mono × Polynomial) (us : List CoefficientTerm) (t : CoefficientTerm) (more : List CoefficientTerm) →
    T (cond (has_none monomials int_group e.1.terms) false true) → t ∷ more ≡ row_of e.0 e.1.terms ++ us →
    t.symbols ≡ e.0
first_symbols e us t more some same = by e.1.terms some same
  where
    by :
        (ds : List (Mono × ℤ)) → T (cond (has_none monomials int_group ds) false true) →
        t ∷ more ≡ row_of e.0 ds ++ us → t.symbols ≡ e.0
    by [] some same = absurd some
    by (d ∷ ds) some same = cc

next_of :
    (later : List (Mono × Polynomial)) (t : CoefficientTerm) (rest more : List CoefficientTerm) (run : List Term) →
    IsCanonical monomials polys.group later → rest ≡ all_terms later → rest ≡ t ∷ more → IsRun t.symbols rest run →
    NextTerm later t.symbols rest run
next_of [] t rest more run h left head cut = absurd (no_head (sym head ∙ left))
  where
    no_head : t ∷ more ≡ [] → ⊥
    no_head e = cc
next_of (e ∷ es) t rest more run h left head cut =
    let symbols : t.symbols ≡ e.0 = first_symbols e (all_terms es) t more h.0 (sym head ∙ left) in
    let same : row_of t.symbols e.1.terms ++ all_terms es ≡ row_of t.symbols (entries run) ++ drop (length run) rest =
    ap (λ m. row_of m e.1.terms ++ all_terms es) symbols ∙ sym left ∙ cut.whole in
    let cuts = same_cut t.symbols e.1.terms (entries run) (all_terms es) (drop (length run) rest) same
    (subst (λ m. StartsOther m (all_terms es)) (sym symbols) (later_other e.0 es h.1 h.2)) cut.other in
    record {
      coefficient = e.1;
      after = es;
      first = λ i. (sym symbols i, e.1) ∷ es;
      run_is = sym cuts.rows;
      rest_is = sym cuts.rests;
    }

pub next_term :
    {ts : List CoefficientTerm} {out : List OpTerm} {rest more : List CoefficientTerm} {t : CoefficientTerm} {run : List Term} →
    (g : IsGathering ts out rest) → rest ≡ t ∷ more → IsRun t.symbols rest run → NextTerm g.later t.symbols rest run
next_term {ts} {out} {rest} {more} {t} {run} g head cut =
    next_of g.later t rest more run
    (back_canonical monomials polys.group (op_entries out) g.later (subst (IsCanonical monomials polys.group) g.whole (sum_of_parts ts).canonical))
    g.left head cut

pub rest_written : {ts : List CoefficientTerm} {out : List OpTerm} {rest : List CoefficientTerm} → IsGathering ts out rest → IsWritten rest
rest_written {ts} {out} {rest} g =
    subst IsWritten (sym g.left)
    (all_written g.later (back_canonical monomials polys.group (op_entries out) g.later
    (subst (IsCanonical monomials polys.group) g.whole (sum_of_parts ts).canonical)))

-- ---- steps of the loop

pub gathering_start : (ts : List CoefficientTerm) → Fits ts → IsGathering ts [] ts
unfolding coefficient_terms
gathering_start ts fits = record {
  later = (sum_of_parts ts).terms;
  whole = refl;
  left = sym (coefficients_of_sum ts fits.written);
  few = omega arith;
  small = omega arith;
}

-- the run is the terms of a polynomial within the limits
pub run_fits :
    {ts : List CoefficientTerm} {out : List OpTerm} {rest more : List CoefficientTerm} {t : CoefficientTerm} {run : List Term} →
    Fits ts → IsGathering ts out rest → rest ≡ t ∷ more → IsRun t.symbols rest run →
    IsFalling run × (length run ≤ most_terms) × (poly.size_of run ≤ largest_norm)
run_fits {ts} {out} {rest} {more} {t} {run} fits g head cut =
    let next = next_term g head cut in (
      subst (IsCanonical monomials int_group) (sym next.run_is) next.coefficient.canonical,
      omega (
        arith,
        fits.few,
        g.few,
        ap length cut.whole,
        length-append (row_of t.symbols (entries run)) (drop (length run) rest),
        length-row_of t.symbols (entries run),
        length-entries run,
      ),
      omega (
        arith,
        fits.small,
        g.small,
        ap size_of cut.whole,
        sum_by-append (λ (u : CoefficientTerm). nat_abs u.number) (row_of t.symbols (entries run)) (drop (length run) rest),
        size_of-row t.symbols run,
      ),
    )

pub gathering_step :
    {ts : List CoefficientTerm} {out out' : List OpTerm} {rest rest' more : List CoefficientTerm} {t : CoefficientTerm} {run : List Term}
    (o : OpTerm) → rest ≡ t ∷ more → IsRun t.symbols rest run → o.mono ≡ t.symbols → o.coef.terms ≡ entries run →
    out' ≡ out ++ o ∷ [] → rest' ≡ drop (length run) rest → IsGathering ts out rest → IsGathering ts out' rest'
gathering_step {ts} {out} {out'} {rest} {rest'} {more} {t} {run} o head cut symbols coef pushed dropped g =
    let next = next_term g head cut in
    let same : o.coef ≡ next.coefficient = same_terms monomials int_group o.coef next.coefficient (coef ∙ next.run_is) in
    let term : ◌≡◌ {A = Mono × Polynomial} (o.mono, o.coef) (t.symbols, next.coefficient) = λ i. (symbols i, same i) in
    subst₂ (IsGathering ts) (sym pushed) (sym dropped) (record {
      later = next.after;
      whole = g.whole ∙ ap (λ es. op_entries out ++ es) (next.first ∙ ap (λ e. e ∷ next.after) (sym term))
          ∙ sym (append_assoc (op_entries out) ((o.mono, o.coef) ∷ []) next.after)
          ∙ ap (λ es. es ++ next.after) (sym (op_entries-append out (o ∷ [])));
      left = next.rest_is;
      few = omega (arith, g.few, ap length cut.whole, length-append (row_of t.symbols (entries run)) (drop (length run) rest));
      small = omega (
        arith,
        g.small,
        ap size_of cut.whole,
        sum_by-append (λ (u : CoefficientTerm). nat_abs u.number) (row_of t.symbols (entries run))
            (drop (length run) rest),
      );
    })

pub gathering_end :
    {ts : List CoefficientTerm} {out : List OpTerm} {rest : List CoefficientTerm} → length rest ≡ 0 →
    IsGathering ts out rest → op_entries out ≡ (sum_of_parts ts).terms
gathering_end {ts} {out} {rest} none g =
    sym (g.whole ∙ ap (λ es. op_entries out ++ es) (by g.later canonical (sym (ap length g.left) ∙ none)) ∙ append-nil (op_entries out))
  where
    canonical : IsCanonical monomials polys.group g.later
    canonical =
        back_canonical monomials polys.group (op_entries out) g.later (subst (IsCanonical monomials polys.group) g.whole (sum_of_parts ts).canonical)

    row_some :
        (m : Mono) (ds : List (Mono × ℤ)) (us : List CoefficientTerm) → T (cond (has_none monomials int_group ds) false true) →
        length (row_of m ds ++ us) ≡ 0 → ⊥
    row_some m [] us some e = absurd some
    row_some m (d ∷ ds) us some e = omega arith

    by : (es : List (Mono × Polynomial)) → IsCanonical monomials polys.group es → length (all_terms es) ≡ 0 → es ≡ []
    by [] h none = refl
    by (e ∷ es) h none = absurd (row_some e.0 e.1.terms (all_terms es) h.0 none)
