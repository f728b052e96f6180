-- Normal forms go by steps. Main lemmas `moved_is`: the generator that is moved to a monomial is led by it, so all other terms are
-- lower; and `form_is`: how many steps are allowed makes no difference, since each goes to lower monomials.
use Rattle.ct_border.proofs.Base.{◌≡◌, ◌≢◌, ◌<◌, ◌∙◌, ℕ, zero, suc, List, [], ◌∷◌, length, map, None, Some, Ok, Err, Option, refl, sym, ap}
use Rattle.ct_border.proofs.Base.{subst, arith, Less, Action, Name, Mono, monomials, mono_cmp, Operator, Polynomial, polys, OperatorLeads, ◌>>=◌}
use Rattle.std.specs.Prelude.{replicate}
use Rattle.ct_algebra.proofs.ShiftedLeading.{shifted_leads}
use Rattle.ct_algebra.specs.Laws.Terms.{less_is, not_zero}
use Rattle.ct_algebra.specs.Operators.{term_of, product_of}
use Rattle.ct_algebra.specs.Terms.{AllBelow, EachTerm, EachTerm-weaker, IsCanonical}
use Rattle.ct_checked.specs.Checked.{Checked}
use Rattle.ct_checked.specs.Traversal.{checked_fold}
use Rattle.ct_frac.specs.Written.{Written}
use Rattle.ct_module.specs.Combination.{checked_with, checked_term, checked_combination}
use Rattle.ct_module.specs.Modules.{written_zero}
use Rattle.ct_mono.specs.Rank.{mono_rank, rank-less}
use Rattle.ct_ore.specs.Measures.{checked_product}
use Rattle.ct_reduce.proofs.FirstReducers.{found_is_first}
use Rattle.ct_reduce.proofs.StepValues.{product_value}
use Rattle.ct_reduce.specs.Reduction.{Reducer, first_reducer}
use Rattle.ct_border.specs.Build.{share_over, shares, checked_reduced, form_by, form_step, forms_in, checked_form}

abbrev Form : Type 0
Form = Mono → Checked (List Written)

-- where the forms of the monomials agree, so do the sums over the terms
module _ (f g : Form) (l : Polynomial) where
  sums_same :
      (sum : List Written) (ts : List (Mono × Polynomial)) → EachTerm (λ n c. f n ≡ g n) ts →
      checked_fold (checked_term f) sum (map (share_over l) ts) ≡ checked_fold (checked_term g) sum (map (share_over l) ts)
  sums_same sum [] same = refl
  sums_same sum (t ∷ ts) same =
      ap (λ o. o >>= (λ v. checked_with (share_over l t).1 sum v) >>= (λ s. checked_fold (checked_term f) s (map (share_over l) ts))) same.0
      ∙ by (checked_term g sum (share_over l t)) (λ s. sums_same s ts same.1)
    where
      by :
          (o : Checked (List Written)) →
          ((s : List Written) →
          checked_fold (checked_term f) s (map (share_over l) ts) ≡ checked_fold (checked_term g) s (map (share_over l) ts)) →
          o >>= (λ s. checked_fold (checked_term f) s (map (share_over l) ts)) ≡
          o >>= (λ s. checked_fold (checked_term g) s (map (share_over l) ts))
      by (Ok s) rest = rest s
      by (Err e) rest = refl

each_lower :
    (m : Mono) (es : List (Mono × Polynomial)) → AllBelow monomials polys.group m es → EachTerm (λ n c. mono_cmp n m ≡ Less) es
each_lower m [] below = tt
each_lower m (e ∷ es) below = (less_is monomials polys.group _ below.0, each_lower m es below.1)

-- a generator that is moved to a monomial
pub record IsMoved (a : Name → Action) (m : Mono) (r : Reducer) (moved : Operator) : Type 0 where
  pub is : moved ≡ product_of a (term_of r.symbols polys.one) r.generator
  pub coef : Polynomial
  pub nonzero : coef ≢ polys.zero
  pub rest : List (Mono × Polynomial)
  pub terms : moved.terms ≡ (m, coef) ∷ rest
  pub lower : EachTerm (λ n c. mono_cmp n m ≡ Less) rest

pub cons_parts : {X : Type 0} {x y : X} {xs ys : List X} → x ∷ xs ≡ y ∷ ys → (x ≡ y) × (xs ≡ ys)
cons_parts same = (cc, cc)

module _ (a : Name → Action) (generators : List Operator) where
  pub moved_is :
      (m : Mono) (r : Reducer) (moved : Operator) → first_reducer m generators ≡ Some r →
      checked_product a (term_of r.symbols polys.one) r.generator ≡ Ok moved → IsMoved a m r moved
  moved_is m r moved found product =
      let first = found_is_first m generators r found in
      let w = shifted_leads a r.symbols r.generator first.mono first.coef first.leads in
      let same = product_value a (term_of r.symbols polys.one) r.generator moved product in
      let leads : OperatorLeads moved m w.0 =
      subst (λ p. OperatorLeads p m w.0) same
      (subst (λ k. OperatorLeads (product_of a (term_of r.symbols polys.one) r.generator) k w.0) first.divides w.1) in
      let canonical : IsCanonical monomials polys.group ((m, w.0) ∷ leads.rest) =
      subst (IsCanonical monomials polys.group) leads.is_first moved.canonical in
      record {
        is = sym same;
        coef = w.0;
        nonzero = not_zero monomials polys.group w.0 canonical.0;
        rest = leads.rest;
        terms = leads.is_first;
        lower = each_lower m leads.rest canonical.1;
      }

  -- a generator that divides has terms
  pub some_terms :
      (m : Mono) (r : Reducer) (moved : Operator) → first_reducer m generators ≡ Some r →
      checked_product a (term_of r.symbols polys.one) r.generator ≡ Ok moved → moved.terms ≡ [] → ⊥
  some_terms m r moved found product none = clash (sym (moved_is m r moved found product).terms ∙ none)
    where
      clash : {e : Mono × Polynomial} {es : List (Mono × Polynomial)} → e ∷ es ≡ [] → ⊥
      clash same = cc

  module _ (ms : List Mono) where
    step_same :
        (f g : Form) (m : Mono) → ((n : Mono) → mono_cmp n m ≡ Less → f n ≡ g n) →
        (o : Option Reducer) → first_reducer m generators ≡ o → form_by a generators ms f m o ≡ form_by a generators ms g m o
    unfolding checked_reduced
    step_same f g m same None none = refl
    step_same f g m same (Some r) found = by (checked_product a (term_of r.symbols polys.one) r.generator) refl
      where
        by :
            (o : Checked Operator) → checked_product a (term_of r.symbols polys.one) r.generator ≡ o →
            o >>= (λ moved. checked_combination f (length ms) (shares moved.terms)) ≡
            o >>= (λ moved. checked_combination g (length ms) (shares moved.terms))
        by (Ok moved) product =
            let w = moved_is m r moved found product in
            subst (λ ts. checked_combination f (length ms) (shares ts) ≡ checked_combination g (length ms) (shares ts)) (sym w.terms)
            (sums_same f g w.coef (replicate (length ms) written_zero) w.rest (EachTerm-weaker (λ n c less. same n less) w.rest w.lower))
        by (Err e) product = refl

    enough :
        (n k : ℕ) (m : Mono) → mono_rank m < n → mono_rank m < k → forms_in a generators ms n m ≡ forms_in a generators ms k m
    enough zero k m less also = absurd (omega arith)
    enough (suc n) zero m less also = absurd (omega arith)
    enough (suc n) (suc k) m less also =
        step_same (forms_in a generators ms n) (forms_in a generators ms k) m
        (λ x lower. let falls = rank-less x m lower in enough n k x (omega arith) (omega arith)) (first_reducer m generators) refl

    pub form_is : (m : Mono) → checked_form a generators ms m ≡ form_step a generators ms (checked_form a generators ms) m
    unfolding checked_form
    form_is m =
        step_same (forms_in a generators ms (mono_rank m)) (checked_form a generators ms) m
        (λ x lower. let falls = rank-less x m lower in enough (mono_rank m) (suc (mono_rank x)) x (omega arith) (omega arith))
        (first_reducer m generators) refl
