-- What a division finds: main lemmas `checked_quotient_is`, `checked_quotient_none`, `quotient_is` and `division_exact`.
-- The dividend stays the quotient so far times f, and the rest. Where a quotient exists, the rest is a multiple of f, so its
-- leading term is one of f's; so the division does not stop before the rest is zero.
use Rattle.ct_poly.proofs.Base.{◌≡◌, ◌≢◌, refl, Bool, true, false, cond, ℤ, List, [], ◌∷◌, Ok, Err, Some, None, Option, Result, sym, ◌∙◌, ap, ap₂}
use Rattle.ct_poly.proofs.Base.{subst, IfOk, IfSome, MatchOption, leading, zero_add, not_zero, Mono, monomials, Polynomial, polys, times, zero_mul}
use Rattle.ct_poly.proofs.Base.{ring3, reify, has_none, none_of, IsCanonical, int_group, Checked, both_fit, Answers, over-·, run, run_keeps}
use Rattle.ct_checked.specs.declared.fault.Fault.{Fault}
use Rattle.ct_poly.specs.Division.{Dividing, both_over, leading_over, next_term, checked_step, dividing_rank, whole_dividend, found_quotient}
use Rattle.ct_poly.specs.Division.{checked_quotient, value_or_none, quotient}
use Rattle.ct_poly.proofs.DivisionSteps.{IsWhole, whole_kept, division_falls}
use Rattle.ct_poly.proofs.ProductLeads.{product_leads}
use Rattle.ct_poly.proofs.WholeQuotients.{whole_over-*}

-- the state at the end
pub record Ended (p f : Polynomial) (o : Option Polynomial) : Type 0 where
  pub state : Dividing
  pub whole : IsWhole p f state
  pub done : next_term f state ≡ None
  pub found : found_quotient state ≡ o

pub ended : (p f : Polynomial) (o : Option Polynomial) → checked_quotient p f ≡ Ok o → Ended p f o
unfolding checked_quotient
ended p f o answer =
    let parts = both_fit (run dividing_rank (next_term f) (checked_step f) (whole_dividend p)) (λ s. Ok (found_quotient s)) o answer in
    let start : IsWhole p f (whole_dividend p) = ap (λ q. polys.◌+◌ q p) (zero_mul polys f) ∙ zero_add polys.group p in
    let kept = run_keeps dividing_rank (next_term f) (checked_step f) (IsWhole p f) (λ s t u found done. whole_kept p f s t u done) (division_falls f)
    (whole_dividend p) parts.value start parts.first in
    record { state = parts.value; whole = kept.0; done = kept.1; found = inside (found_quotient parts.value) parts.rest }
  where
    inside : (a : Option Polynomial) → ◌≡◌ {A = Checked (Option Polynomial)} (Ok a) (Ok o) → a ≡ o
    inside a same = cc

pub checked_quotient_is : (p f q : Polynomial) → checked_quotient p f ≡ Ok (Some q) → times q f ≡ p
unfolding times
checked_quotient_is p f q answer = by (ended p f (Some q) answer)
  where
    by : Ended p f (Some q) → polys.◌*◌ q f ≡ p
    by e = told (polys.is_zero e.state.rest) refl (unfold found_quotient in e.found)
      where
        told : (b : Bool) → polys.is_zero e.state.rest ≡ b → cond b (Some e.state.quotient) None ≡ Some q → polys.◌*◌ q f ≡ p
        told true none found =
            let same : e.state.quotient ≡ q = cc in
            sym (polys.add_zero (polys.◌*◌ q f))
            ∙ ap₂ (λ x y. polys.◌+◌ (polys.◌*◌ x f) y) (sym same) (sym (polys.true_zero e.state.rest none)) ∙ e.whole
        told false some found = cc

-- where the rest is a nonzero multiple of f, there is a next term
multiple_goes_on :
    (f h : Polynomial) (s : Dividing) → (f ≡ polys.zero → ⊥) → (h ≡ polys.zero → ⊥) → times h f ≡ s.rest → next_term f s ≡ None → ⊥
unfolding next_term
multiple_goes_on f h s f_some h_some product = by h.terms f.terms refl refl
  where
    by : (more bs : List (Mono × ℤ)) → h.terms ≡ more → f.terms ≡ bs → leading_over (leading s.rest.terms) (leading f.terms) ≡ None → ⊥
    by [] bs h_is f_is none = absurd (h_some (none_of monomials int_group h (ap (has_none monomials int_group) h_is)))
    by (a ∷ more) [] h_is f_is none = absurd (f_some (none_of monomials int_group f (ap (has_none monomials int_group) f_is)))
    by (a ∷ more) (b ∷ bs) h_is f_is none =
        let lead = ap (λ p. leading p.terms) (sym product) ∙ product_leads f b bs f_is h a more h_is in
        let canonical = subst (IsCanonical monomials int_group) f_is f.canonical in
        let some = ap₂ both_over (over-· a.0 b.0) (whole_over-* a.1 b.1 (not_zero monomials int_group b.1 canonical.0)) in
        let found : leading_over (leading s.rest.terms) (leading f.terms) ≡ Some (a.0, a.1) = ap₂ leading_over lead (ap leading f_is) ∙ some in
        cc

pub checked_quotient_none :
    (p f q : Polynomial) → (f ≡ polys.zero → ⊥) → checked_quotient p f ≡ Ok None → times q f ≡ p → ⊥
unfolding times
checked_quotient_none p f q some answer product = by (ended p f None answer)
  where
    by : Ended p f None → ⊥
    by e = told (polys.is_zero e.state.rest) refl (unfold found_quotient in e.found)
      where
        h : Polynomial
        h = polys.◌+◌ q (polys.neg e.state.quotient)

        rest_is : polys.◌*◌ h f ≡ e.state.rest
        rest_is =
            ring3 polys q e.state.quotient f (λ a b c. (search reify depth 12, search reify depth 12)) refl
            ∙ ap (λ w. polys.◌+◌ w (polys.neg (polys.◌*◌ e.state.quotient f))) (product ∙ sym e.whole)
            ∙ ring3 polys e.state.quotient f e.state.rest (λ a b c. (search reify depth 12, search reify depth 12)) refl

        told : (b : Bool) → polys.is_zero e.state.rest ≡ b → ◌≡◌ {A = Option Polynomial} (cond b (Some e.state.quotient) None) None → ⊥
        told true none found = cc
        told false more found =
            multiple_goes_on f h e.state some
            (λ zero. let none : polys.is_zero e.state.rest ≡ true = ap polys.is_zero (sym rest_is ∙ ap (λ w. polys.◌*◌ w f) zero ∙ zero_mul polys f) ∙ polys.zero_true in cc)
            rest_is e.done

pub quotient_is : (p f q : Polynomial) → quotient p f ≡ Some q → times q f ≡ p
unfolding quotient
quotient_is p f q found = by (checked_quotient p f) refl found
  where
    by : (c : Checked (Option Polynomial)) → checked_quotient p f ≡ c → value_or_none c ≡ Some q → times q f ≡ p
    by (Ok o) answer found = checked_quotient_is p f q (answer ∙ ap Ok found)
    by (Err kind) answer found = cc

-- what the answer of a division says
pub division_exact :
    (p f : Polynomial) (r : Result (Option Polynomial) Fault) → (f ≡ polys.zero → ⊥) → Answers (checked_quotient p f) r →
    IfOk r (λ o. MatchOption o ((q : Polynomial) → times q f ≢ p) (λ q. times q f ≡ p))
division_exact p f (Ok (Some q)) some answer = checked_quotient_is p f q answer
division_exact p f (Ok None) some answer = λ q product. checked_quotient_none p f q some answer product
division_exact p f (Err fault) some answer = tt

pub some_quotient : (p f : Polynomial) (o : Option Polynomial) → checked_quotient p f ≡ Ok o → IfSome o (λ q. times q f ≡ p)
some_quotient p f (Some q) answer = checked_quotient_is p f q answer
some_quotient p f None answer = tt
