-- No name past the declared ones comes into normal forms: main lemma `module_fits`. Each step moves a generator by symbols and divides by
-- its leading coefficient, and neither brings in a name.
use Rattle.ct_border.proofs.Base.{◌≡◌, ℕ, zero, suc, Bool, true, false, cond, List, [], ◌∷◌, length, map, Ok, Option, None, Some, IfOk, refl, subst}
use Rattle.ct_border.proofs.Base.{All, All-cons, All-head, All-nil, All-tail, Action, Mono, unit, Name, ◌·◌}
use Rattle.ct_border.proofs.Base.{symbol, Operator, Polynomial, polys, actions_of, mono_eq}
use Rattle.std.specs.Prelude.{replicate, zip}
use Rattle.std.proofs.lemmas.List.Elements.{All-get_or, All-replicate}
use Rattle.ct_algebra.specs.Actions.{by_action}
use Rattle.ct_algebra.specs.Operators.{no_operator, term_of}
use Rattle.ct_algebra.specs.Terms.{EachTerm}
use Rattle.ct_checked.specs.Checked.{Checked}
use Rattle.ct_frac.specs.Arithmetic.{checked_fraction_product}
use Rattle.ct_frac.specs.Written.{Written, whole_polynomial}
use Rattle.ct_module.specs.Combination.{checked_combination, checked_term, checked_with, checked_with_entry}
use Rattle.ct_module.specs.Fitting.{FractionFits, PolynomialFits}
use Rattle.ct_module.specs.Modules.{WrittenModule, written_zero}
use Rattle.ct_mono.specs.Rank.{mono_rank}
use Rattle.ct_ore.specs.Measures.{checked_product}
use Rattle.ct_ore.specs.Naming.{Naming}
use Rattle.ct_reduce.proofs.FirstReducers.{stands}
use Rattle.ct_reduce.specs.Reduction.{Reducer, first_reducer}
use Rattle.ct_border.specs.Build.{checked_moved_elements, checked_rows_of, declared, form_by, forms_in, share_over, shares, unit_at, written_one}
unfoldable use Rattle.ct_border.specs.Build.{checked_form, checked_module, checked_reduced}
use Rattle.ct_border.specs.BuildViews.{OperatorFits}
use Rattle.ct_border.proofs.KeptFacts.{each_keeps, fold_keeps, then_keeps, value_keeps}
use Rattle.ct_border.proofs.NamesKept.{FactorFits, fits-negative, fits_fraction_product, fits_fraction_sum, fits_one, fits_quotient, fits_zero}
use Rattle.ct_border.proofs.OperatorNames.{fits_checked_product, fits_term_of}

module _ (n : ℕ) where
  abbrev EntriesFit : List Written → Type 0
  EntriesFit v = All (FractionFits n) v

  whole_fits : (p : Polynomial) → PolynomialFits n p → FractionFits n (whole_polynomial p)
  whole_fits p fits = (fits, All-nil (FactorFits n))

  unit_fits : (ms : List Mono) (m : Mono) → EntriesFit (unit_at ms m)
  unit_fits [] m = All-nil (FractionFits n)
  unit_fits (e ∷ es) m = All-cons (FractionFits n) _ _ (by (mono_eq e m)) (unit_fits es m)
    where
      by : (b : Bool) → FractionFits n (cond b written_one written_zero)
      by true = whole_fits polys.one (fits_one n)
      by false = whole_fits polys.zero (fits_zero n)

  -- ---- sums with shares

  pairs_fit : (v w : List Written) → EntriesFit v → EntriesFit w → All (λ p. FractionFits n p.0 × FractionFits n p.1) (zip v w)
  pairs_fit [] w first second = All-nil (λ p. FractionFits n p.0 × FractionFits n p.1)
  pairs_fit (x ∷ v) [] first second = All-nil (λ p. FractionFits n p.0 × FractionFits n p.1)
  pairs_fit (x ∷ v) (y ∷ w) first second =
      All-cons (λ p. FractionFits n p.0 × FractionFits n p.1) (x, y) (zip v w)
      (All-head (FractionFits n) x v first, All-head (FractionFits n) y w second)
      (pairs_fit v w (All-tail (FractionFits n) x v first) (All-tail (FractionFits n) y w second))

  with_fits :
      (q : Written) (sum v : List Written) → FractionFits n q → EntriesFit sum → EntriesFit v → IfOk (checked_with q sum v) EntriesFit
  with_fits q sum v factor before vector =
      each_keeps (λ p. FractionFits n p.0 × FractionFits n p.1) (FractionFits n) (λ _ p. checked_with_entry q p)
      (λ _ p both. then_keeps (FractionFits n) (FractionFits n) (checked_fraction_product q p.1) _ (fits_fraction_product n q p.1 factor both.1)
      (λ product kept. fits_fraction_sum n p.0 product both.0 kept))
      1 (zip sum v) (pairs_fit sum v before vector)

  combination_fits :
      {X : Type 0} (vector : X → Checked (List Written)) (d : ℕ) (ts : List (X × Written)) → ((x : X) → IfOk (vector x) EntriesFit) →
      All (λ t. FractionFits n t.1) ts → IfOk (checked_combination vector d ts) EntriesFit
  combination_fits vector d ts vectors all =
      fold_keeps (λ t. FractionFits n t.1) EntriesFit (checked_term vector)
      (λ sum t before factor. then_keeps EntriesFit EntriesFit (vector t.0) _ (vectors t.0) (λ v fits. with_fits t.1 sum v factor before fits))
      (replicate d written_zero) ts (All-replicate (FractionFits n) d written_zero (whole_fits polys.zero (fits_zero n))) all

  shares_fit : (es : List (Mono × Polynomial)) → EachTerm (λ m c. PolynomialFits n c) es → All (λ t. FractionFits n t.1) (shares es)
  shares_fit [] fits = All-nil (λ t. FractionFits n t.1)
  shares_fit (e ∷ es) fits = go es fits.1
    where
      go : (es : List (Mono × Polynomial)) → EachTerm (λ m c. PolynomialFits n c) es → All (λ t. FractionFits n t.1) (map (share_over e.1) es)
      go [] rest = All-nil (λ t. FractionFits n t.1)
      go (t ∷ ts) rest =
          All-cons (λ t. FractionFits n t.1) (share_over e.1 t) (map (share_over e.1) ts)
          (fits_quotient n (polys.neg t.1) e.1 (fits-negative n t.1 rest.0) fits.0) (go ts rest.1)

  -- ---- normal forms

  module _ (a : Name → Action) (gs : List Operator) (ms : List Mono) (generators : All (OperatorFits n) gs) where
    forms_fit : (k : ℕ) (m : Mono) → IfOk (forms_in a gs ms k m) EntriesFit
    unfolding checked_reduced
    forms_fit zero m = unit_fits ms m
    forms_fit (suc k) m = by (first_reducer m gs) refl (forms_fit k)
      where
        by :
            (o : Option Reducer) → first_reducer m gs ≡ o → ((e : Mono) → IfOk (forms_in a gs ms k e) EntriesFit) →
            IfOk (form_by a gs ms (forms_in a gs ms k) m o) EntriesFit
        by None none forms = unit_fits ms m
        by (Some r) found forms =
            then_keeps (OperatorFits n) EntriesFit (checked_product a (term_of r.symbols polys.one) r.generator) _
            (fits_checked_product n a (term_of r.symbols polys.one) r.generator (fits_term_of n r.symbols polys.one (fits_one n)) generator)
            (λ moved fits. combination_fits (forms_in a gs ms k) (length ms) (shares moved.terms) forms (shares_fit moved.terms fits))
          where
            generator : OperatorFits n r.generator
            generator =
                let w = stands 0 m gs r found in
                subst (OperatorFits n) w.is_there (All-get_or (OperatorFits n) gs w.index no_operator w.inside generators)

    form_fits : (m : Mono) → IfOk (checked_form a gs ms m) EntriesFit
    unfolding checked_form
    form_fits m = forms_fit (suc (mono_rank m)) m

    rows_fit : (i : Name) → IfOk (checked_rows_of a gs ms i) (All EntriesFit)
    rows_fit i = by (a i)
      where
        moved : IfOk (checked_moved_elements a gs ms i) (All EntriesFit)
        moved =
            each_keeps (λ e. Unit {0}) EntriesFit (λ _ e. checked_form a gs ms (symbol i · e)) (λ _ e any. form_fits (symbol i · e)) 1 ms
            (λ _ _ _. tt)

        by : (t : Action) → IfOk (by_action t (checked_moved_elements a gs ms i) (checked_moved_elements a gs ms i) (Ok [])) (All EntriesFit)
        by Action.Shift = moved
        by Action.Derive = moved
        by Action.Still = All-nil EntriesFit

pub module_fits :
    (ns : List Naming) (gs : List Operator) (ms : List Mono) (m : WrittenModule) → All (OperatorFits (length ns)) gs →
    checked_module ns gs ms ≡ Ok m →
    All (λ rows. All (λ row. All (FractionFits (length ns)) row) rows) m.rows × All (FractionFits (length ns)) m.start
unfolding checked_module
module_fits ns gs ms m generators is =
    value_keeps PartsFit (checked_module ns gs ms) m
    (then_keeps (All RowsFit) PartsFit _ _
    (each_keeps (λ i. Unit {0}) RowsFit (λ _ i. checked_rows_of (actions_of ns) gs ms i)
    (λ _ i any. rows_fit (length ns) (actions_of ns) gs ms generators i) 1 (declared ns) (λ _ _ _. tt))
    (λ rows fit. (fit, unit_fits (length ns) ms unit)))
    is
  where
    RowsFit : List (List Written) → Type 0
    RowsFit rows = All (λ row. All (FractionFits (length ns)) row) rows

    PartsFit : WrittenModule → Type 0
    PartsFit m = All RowsFit m.rows × All (FractionFits (length ns)) m.start
