-- The proof of the example: the list of one derivation is tested.
use Rattle.ct_telescoping.proofs.Base.{◌≡◌, ◌≢◌, [], ◌∷◌, cond, ◌⊎◌, All, sym, ◌∙◌, ap, subst, arith, lit<, eq-eqb, inl, inr, Less, All-cons, All-nil}
use Rattle.ct_telescoping.proofs.Base.{EachTerm, EachTerm-weaker, at, at-none, EachTerm-single, Mono, exp, exp-·, exp-unit, unit, ◌·◌, ·_comm, ·-unit}
use Rattle.ct_telescoping.proofs.Base.{mono_cmp, monomials, total, total-·, Name, x0, x1, x2, x3, x4, x5, place, place_small, symbol, exp-symbol}
use Rattle.ct_telescoping.proofs.Base.{power-symbol, Polynomial, polys, polys_domain, Still, polynomials, Module, Operator, no_operator, IsWithout}
use Rattle.ct_telescoping.proofs.Base.{IsOver, OperatorLeads, LeadingDivides, IsIrreducible, K, field, coefficients, at-term_of, pick-same}
use Rattle.ct_telescoping.proofs.Base.{pick-other, term_of-single, apply-term_of}
use Rattle.std.specs.Prelude.{refl}
use Rattle.ct_algebra.proofs.LeadingTerms.{leads_of}
use Rattle.ct_telescoping.specs.Vector.{Vector, same_vector, entry-zero_vector, vector_group}
use Rattle.ct_telescoping.specs.StaircaseModule.{RowsCommute, staircase_module, start}
use Rattle.ct_telescoping.specs.Staircase.{HasOperators, IsStaircaseOf, StartsUnits}
use Rattle.ct_telescoping.specs.Tested.{image, PassesTests}
use Rattle.ct_telescoping.specs.Example.{first_derives, the_derivation, only_one, no_rows, ConstantsAreTested}
use Rattle.ct_telescoping.proofs.RisingLists.{total_unit, total-symbol, not_lower}
use Rattle.ct_telescoping.proofs.StaircaseGrows.{split, IsProductOf}
use Rattle.ct_telescoping.proofs.StaircaseUnits.{entry-act_unit_vector}
use Rattle.ct_telescoping.proofs.StillNames.{commute_of_tests}
use Rattle.ct_telescoping.proofs.TestedModule.{image-apply}
use Rattle.ct_telescoping.proofs.TestsSuffice.{tests_suffice}

-- the first name alone has an operator
first_or_still : (i : Name) → (i ≡ x0) ⊎ (first_derives i ≡ Still)
first_or_still x0 = inl refl
first_or_still x1 = inr refl
first_or_still x2 = inr refl
first_or_still x3 = inr refl
first_or_still x4 = inr refl
first_or_still x5 = inr refl

acting_is_first : (i : Name) → first_derives i ≢ Still → i ≡ x0
acting_is_first i acts = by (first_or_still i)
  where
    by : (i ≡ x0) ⊎ (first_derives i ≡ Still) → i ≡ x0
    by (inl same) = same
    by (inr still) = absurd (acts still)

not_still : first_derives x0 ≡ Still → ⊥
not_still e = cc

first_has : HasOperators first_derives (symbol x0)
first_has x0 still = absurd (not_still still)
first_has x1 still = exp-symbol x0 1 (lit< tt)
first_has x2 still = exp-symbol x0 2 (lit< tt)
first_has x3 still = exp-symbol x0 3 (lit< tt)
first_has x4 still = exp-symbol x0 4 (lit< tt)
first_has x5 still = exp-symbol x0 5 (lit< tt)

not_unit : (i : Name) (m : Mono) → symbol i · m ≢ unit
not_unit i m same =
    absurd (omega (arith, sym (ap total same) ∙ total-· (symbol i) m, total_unit, total-symbol i))

-- ---- the generator

value : at monomials polys.group the_derivation (symbol x0) ≡ polys.one
value = at-term_of (symbol x0) (symbol x0) polys.one ∙ pick-same (symbol x0) (symbol x0) polys.one refl

leads : OperatorLeads the_derivation (symbol x0) (at monomials polys.group the_derivation (symbol x0))
leads =
    leads_of monomials polys.group the_derivation (symbol x0) (λ none. polys_domain.proper (sym value ∙ none))
    (λ k above. at-term_of (symbol x0) k polys.one ∙ pick-other k (symbol x0) polys.one
    (λ same. not_lower k (subst (λ x. mono_cmp x k ≡ Less) same above)))

terms : EachTerm (λ m c. m ≡ symbol x0) the_derivation.terms
terms =
    subst (λ p. EachTerm (λ m c. m ≡ symbol x0) p.terms) (sym (term_of-single (symbol x0) polys.one))
    (EachTerm-single monomials polys.group (λ m. m ≡ symbol x0) (symbol x0) polys.one refl)

lead_is : (m : Mono) (c : Polynomial) → OperatorLeads the_derivation m c → m ≡ symbol x0
lead_is m c first = (subst (EachTerm (λ m c. m ≡ symbol x0)) first.is_first terms).0

no_divisor : (m : Mono) → LeadingDivides the_derivation m → (t : Mono) × (m ≡ symbol x0 · t)
no_divisor m divides =
    (divides.quotient, sym divides.product ∙ ap (λ n. divides.quotient · n) (lead_is divides.mono divides.coef divides.leads) ∙ ·_comm _ _)

alone : (P : Operator → Type 0) → P the_derivation → All P (the_derivation ∷ [])
alone P holds = All-cons P the_derivation [] holds (All-nil P)

-- ---- the staircase

unit_irreducible : IsIrreducible (the_derivation ∷ []) unit
unit_irreducible =
    alone (λ g. ¬ LeadingDivides g unit) (λ divides. let product = no_divisor unit divides in not_unit x0 product.0 (sym product.1))

staircase : IsStaircaseOf 1 only_one first_derives (the_derivation ∷ [])
staircase = record {
  rises = λ j k less below. absurd (omega (arith, less, below));
  irreducible = λ k below. unit_irreducible;
  have_operators = λ k below i still. exp-unit (place i) (place_small i);
  complete = λ m has irreducible. record { place = 0; in_range = lit< tt; is = by m has irreducible (split m) };
}
  where
    by : (m : Mono) → HasOperators first_derives m → IsIrreducible (the_derivation ∷ []) m → (m ≡ unit) ⊎ IsProductOf m → m ≡ unit
    by m has irreducible (inl same) = same
    by m has irreducible (inr w) = first (first_or_still w.name)
      where
        first : (w.name ≡ x0) ⊎ (first_derives w.name ≡ Still) → m ≡ unit
        first (inl same) =
            absurd (irreducible 0 the_derivation (lit< tt) (record {
              mono = symbol x0;
              coef = at monomials polys.group the_derivation (symbol x0);
              leads = leads;
              quotient = w.rest;
              product = ·_comm _ _ ∙ ap (λ i. symbol i · w.rest) (sym same) ∙ sym w.is;
            }))
        first (inr still) =
            let one : exp (symbol w.name) (place w.name) ≡ 1 = exp-symbol w.name (place w.name)
            (place_small w.name) ∙ ap (λ b. cond b 1 0) (eq-eqb (place w.name) (place w.name) refl) in
            let none : exp (symbol w.name · w.rest) (place w.name) ≡ 0 = ap (λ x. exp x (place w.name)) (sym w.is) ∙ has w.name still in
            let sum = exp-· (symbol w.name) w.rest (place w.name) (place_small w.name) in
            absurd (omega arith)

-- ---- the rows

closed : PassesTests first_derives 1 no_rows
closed i j acts also less b below c within =
    absurd (omega (arith, less, ap place (acting_is_first i acts), ap place (acting_is_first j also)))

commutes : RowsCommute first_derives 1 no_rows
commutes = commute_of_tests first_derives 1 no_rows (λ i still b c below within. refl) closed

abbrev W : Module polys (polynomials first_derives) (Vector K 1)
W = staircase_module first_derives 1 no_rows commutes

killed : image first_derives 1 no_rows the_derivation ≡ (vector_group field.group 1).zero
killed =
    image-apply first_derives 1 no_rows commutes the_derivation
    ∙ apply-term_of first_derives W (symbol x0) polys.one (start first_derives 1 no_rows commutes)
    ∙ W.scale_one _ ∙ power-symbol W.D W.D_D x0 (start first_derives 1 no_rows commutes)
    ∙ same_vector field.group 1 _ _ (λ c below.
    entry-act_unit_vector field (coefficients first_derives) 1 no_rows x0 0 (lit< tt) c below
    ∙ sym (entry-zero_vector field.group 1 c below))

units : StartsUnits 1 only_one no_rows
units i b k below small same c within = absurd (not_unit i unit (sym same))

over : IsOver first_derives the_derivation
over = EachTerm-weaker (λ m c same. subst (HasOperators first_derives) (sym same) first_has) the_derivation.terms terms

nonzero : the_derivation ≢ no_operator
unfolding no_operator
nonzero none =
    polys_domain.proper
    (sym value ∙ ap (λ p. at monomials polys.group p (symbol x0)) none ∙ at-none monomials polys.group (symbol x0))

pure : (j : Name) → j ≢ x0 → IsWithout j (symbol x0)
pure j other = by (first_or_still j)
  where
    by : (j ≡ x0) ⊎ (first_derives j ≡ Still) → IsWithout j (symbol x0)
    by (inl same) = absurd (other same)
    by (inr still) = first_has j still

pub constants_are_tested : ConstantsAreTested
constants_are_tested = record {
  over = alone (IsOver first_derives) over;
  nonzero = alone (λ g. g ≢ no_operator) nonzero;
  not_trivial = alone (λ g. (m : Mono) (c : Polynomial) → OperatorLeads g m c → m ≢ unit) (λ m c first same.
      not_unit x0 unit (·-unit (symbol x0) ∙ sym (lead_is m c first) ∙ same));
  finite = λ i acts. record {
    generator = the_derivation;
    stands = (0, lit< tt, refl);
    mono = symbol x0;
    coef = at monomials polys.group the_derivation (symbol x0);
    leads = leads;
    pure = λ j other. pure j (λ same. other (same ∙ sym (acting_is_first i acts)));
  };
  staircase = staircase;
  few = omega arith;
  rows = tests_suffice first_derives (the_derivation ∷ []) 1 only_one no_rows staircase unit_irreducible units
      (λ i still b c below within. refl) closed
      (alone (λ g. image first_derives 1 no_rows g ≡ (vector_group field.group 1).zero) killed);
  closed = closed;
  killed = alone (λ g. image first_derives 1 no_rows g ≡ (vector_group field.group 1).zero) killed;
}
