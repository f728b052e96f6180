-- The first generator whose leading monomial divides a monomial. Main lemmas `found_is_first`, `none_reduces`,
-- `first_is_first`. Cited by `Searching` and by the laws of steps.
use Rattle.ct_reduce.proofs.Base.{◌≡◌, ℕ, zero, suc, ◌+◌, ◌<◌, None, Some, List, [], ◌∷◌, refl, length, get_or, MatchOption, Option, sym, ◌∙◌, ap}
use Rattle.ct_reduce.proofs.Base.{arith, subst, leading, OperatorLeads, LeadingDivides, IsIrreducible, Mono, monomials, ◌·◌, Polynomial, polys}
use Rattle.ct_reduce.proofs.Base.{Operator, no_operator, leading-Leads, Leads-leading}
use Rattle.ct_mono.specs.Division.{over_is, over_none}
use Rattle.ct_reduce.specs.Reduction.{Reducer, or_later, over_leading, reducer_by, first_reducer_from, first_reducer}
use Rattle.ct_reduce.specs.ReductionLaws.{IsFirstReducer}

-- ---- one generator

pub over_leading_none : (m : Mono) (g : Operator) → over_leading m (leading g.terms) ≡ None → ¬ LeadingDivides g m
over_leading_none m g none w =
    over_none m w.mono (sym (ap (over_leading m) (leading-Leads monomials polys.group g w.mono w.coef w.leads)) ∙ none)
    (w.quotient, w.product)

-- the leading monomial that divides
pub record Over (m : Mono) (g : Operator) (t : Mono) : Type 0 where
  pub mono : Mono
  pub coef : Polynomial
  pub leads : OperatorLeads g mono coef
  pub divides : t · mono ≡ m

pub over_leading_some : (m : Mono) (g : Operator) (t : Mono) → over_leading m (leading g.terms) ≡ Some t → Over m g t
over_leading_some m g t found = by (leading g.terms) refl found
  where
    by : (o : Option (Mono × Polynomial)) → leading g.terms ≡ o → over_leading m o ≡ Some t → Over m g t
    by None first found = cc
    by (Some e) first found = record {
      mono = e.0;
      coef = e.1;
      leads = Leads-leading monomials polys.group g e.0 e.1 first;
      divides = over_is m e.0 t found;
    }

-- ---- the first reducer

-- where it stands among generators that are counted from a place on
pub record Stands (place : ℕ) (m : Mono) (generators : List Operator) (r : Reducer) : Type 0 where
  pub index : ℕ
  pub place_is : r.place ≡ place + index
  pub inside : index < length generators
  pub is_there : get_or generators index no_operator ≡ r.generator
  pub divides : over_leading m (leading r.generator.terms) ≡ Some r.symbols
  pub none_before : (k : ℕ) → k < index → ¬ LeadingDivides (get_or generators k no_operator) m

pub stands :
    (place : ℕ) (m : Mono) (generators : List Operator) (r : Reducer) →
    first_reducer_from place m generators ≡ Some r → Stands place m generators r
stands place m [] r found = cc
stands place m (g ∷ gs) r found = by (over_leading m (leading g.terms)) refl (stands (place + 1) m gs r) found
  where
    further : over_leading m (leading g.terms) ≡ None → Stands (place + 1) m gs r → Stands place m (g ∷ gs) r
    further none w = record {
      index = suc w.index;
      place_is = let p = w.place_is in omega arith;
      inside = let p = w.inside in omega arith;
      is_there = w.is_there;
      divides = w.divides;
      none_before = before;
    }
      where
        before : (k : ℕ) → k < suc w.index → ¬ LeadingDivides (get_or (g ∷ gs) k no_operator) m
        before zero small = over_leading_none m g none
        before (suc k) small = w.none_before k (omega arith)

    by :
        (o : Option Mono) → over_leading m (leading g.terms) ≡ o →
        (first_reducer_from (place + 1) m gs ≡ Some r → Stands (place + 1) m gs r) →
        or_later (reducer_by place g o) (first_reducer_from (place + 1) m gs) ≡ Some r → Stands place m (g ∷ gs) r
    by None none later found = further none (later found)
    by (Some t) some later found =
        let same : ◌≡◌ {A = Reducer} (record { place = place; generator = g; symbols = t }) r = cc in
        subst (Stands place m (g ∷ gs)) same (record {
          index = 0;
          place_is = omega arith;
          inside = omega arith;
          is_there = refl;
          divides = some;
          none_before = λ k small. absurd (omega arith);
        })

pub none_reduces :
    (place : ℕ) (m : Mono) (generators : List Operator) → first_reducer_from place m generators ≡ None →
    IsIrreducible generators m
none_reduces place m [] none = λ k d small. absurd (omega arith)
none_reduces place m (g ∷ gs) none = by (over_leading m (leading g.terms)) refl (none_reduces (place + 1) m gs) none
  where
    all : ¬ LeadingDivides g m → IsIrreducible gs m → IsIrreducible (g ∷ gs) m
    all here others zero d small = here
    all here others (suc k) d small = others k d (omega arith)

    by :
        (o : Option Mono) → over_leading m (leading g.terms) ≡ o →
        (first_reducer_from (place + 1) m gs ≡ None → IsIrreducible gs m) →
        or_later (reducer_by place g o) (first_reducer_from (place + 1) m gs) ≡ None → IsIrreducible (g ∷ gs) m
    by None first later none = all (over_leading_none m g first) (later none)
    by (Some t) first later none = cc

pub found_is_first :
    (m : Mono) (generators : List Operator) (r : Reducer) → first_reducer m generators ≡ Some r →
    IsFirstReducer m generators r
found_is_first m generators r found =
    let w = stands 0 m generators r found in
    let place : r.place ≡ w.index = let p = w.place_is in omega arith in
    let d = over_leading_some m r.generator r.symbols w.divides in record {
      known = let i = w.inside in omega arith;
      is_there = ap (λ k. get_or generators k no_operator) place ∙ w.is_there;
      mono = d.mono;
      coef = d.coef;
      leads = d.leads;
      divides = d.divides;
      none_before = λ k small. w.none_before k (omega arith);
    }

pub first_is_first :
    (m : Mono) (generators : List Operator) →
    MatchOption (first_reducer m generators) (IsIrreducible generators m) (IsFirstReducer m generators)
first_is_first m generators = by (first_reducer m generators) refl
  where
    by :
        (o : Option Reducer) → first_reducer m generators ≡ o →
        MatchOption o (IsIrreducible generators m) (IsFirstReducer m generators)
    by None none = none_reduces 0 m generators none
    by (Some r) found = found_is_first m generators r found
