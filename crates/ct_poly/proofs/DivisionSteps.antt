-- One step of a division. Main lemmas `next_is` (which term is found), `rest_value` (what the rest becomes, without its
-- leading term), `rest_below` (all of it is below), `step_falls` (which a law cites), `division_falls` and `whole_kept`.
-- The leading terms of the rest and of u·f are the same, so both go.
use Rattle.ct_poly.proofs.Base.{◌≡◌, refl, ◌<◌, suc, ℤ, neg_ℤ, pos, zero, negsuc, ◌*ℤ◌, T, true, false, cond, List, [], ◌∷◌, Ok, Some, None, Option}
use Rattle.ct_poly.proofs.Base.{Less, sym, ◌∙◌, ap, ap₂, subst, arith, IsHom, hom_neg, leading, Mono, monomials, mono_cmp, ◌·◌, Polynomial, polys}
use Rattle.ct_poly.proofs.Base.{poly_of, plus, times, terms-poly_of, ring4, reify, term, term-sum, term-*, EachTerm-⊕, IsCanonical, int_group}
use Rattle.ct_poly.proofs.Base.{int_is_zero, row_of, sum_of-append, verdict_ok, over, over_is, Falls}
use Rattle.ct_mono.specs.Rank.{rank-less}
use Rattle.ct_poly.specs.Division.{Dividing, whole_over, both_over, term_over, leading_over, next_term, step_of, checked_step, leading_rank}
use Rattle.ct_poly.specs.Division.{dividing_rank}
use Rattle.ct_poly.specs.DivisionLaws.{EachDivisionStepFalls}
use Rattle.ct_poly.specs.Measures.{minus}
use Rattle.ct_poly.proofs.DividedTerms.{divisor_nonzero}
use Rattle.ct_poly.proofs.ProductLeads.{EachBelow, each_below, row_below}
use Rattle.ct_poly.proofs.TermLists.{rebuilt, poly_of-single, terms-multiple}
use Rattle.ct_poly.proofs.WholeQuotients.{whole_over_is}
use lib.IntN.{*ℤ_comm}

-- u is the quotient of two leading terms
pub record IsNext (es ds : List (Mono × ℤ)) (u : Mono × ℤ) : Type 0 where
  pub top : Mono × ℤ
  pub below : List (Mono × ℤ)
  pub rest_is : es ≡ top ∷ below
  pub lead : Mono × ℤ
  pub others : List (Mono × ℤ)
  pub by_is : ds ≡ lead ∷ others
  pub mono : u.0 · lead.0 ≡ top.0
  pub coef : u.1 *ℤ lead.1 ≡ top.1

pub next_parts : (e d u : Mono × ℤ) → term_over e d ≡ Some u → (u.0 · d.0 ≡ e.0) × (u.1 *ℤ d.1 ≡ e.1)
next_parts e d u found = by (over e.0 d.0) (whole_over e.1 d.1) (over_is e.0 d.0) (whole_over_is e.1 d.1) found
  where
    by :
        (o : Option Mono) (w : Option ℤ) → ((t : Mono) → o ≡ Some t → t · d.0 ≡ e.0) →
        ((q : ℤ) → w ≡ Some q → q *ℤ d.1 ≡ e.1) → both_over o w ≡ Some u → (u.0 · d.0 ≡ e.0) × (u.1 *ℤ d.1 ≡ e.1)
    by (Some t) (Some q) first second found =
        let same : (t, q) ≡ u = cc in
        (ap (λ v. v.0 · d.0) (sym same) ∙ first t refl, ap (λ v. v.1 *ℤ d.1) (sym same) ∙ second q refl)
    by (Some t) None first second found = cc
    by None w first second found = cc

found_is : (es ds : List (Mono × ℤ)) (u : Mono × ℤ) → leading_over (leading es) (leading ds) ≡ Some u → IsNext es ds u
found_is [] ds u found = cc
found_is (e ∷ es) [] u found = cc
found_is (e ∷ es) (d ∷ ds) u found =
    let parts = next_parts e d u found in
    record { top = e; below = es; rest_is = refl; lead = d; others = ds; by_is = refl; mono = parts.0; coef = parts.1 }

pub next_is : (f : Polynomial) (s : Dividing) (u : Mono × ℤ) → next_term f s ≡ Some u → IsNext s.rest.terms f.terms u
unfolding next_term
next_is f s u found = found_is s.rest.terms f.terms u found

-- the first term of a polynomial apart
first_apart : (p : Polynomial) (e : Mono × ℤ) (es : List (Mono × ℤ)) → p.terms ≡ e ∷ es → p ≡ polys.◌+◌ (term e.0 e.1) (poly_of es)
unfolding poly_of
first_apart p e es p_is =
    sym (rebuilt p) ∙ ap poly_of p_is ∙ sum_of-append monomials int_group (e ∷ []) es
    ∙ ap (λ q. polys.◌+◌ q (poly_of es)) (poly_of-single e.0 e.1)

pub term-neg : (m : Mono) (c : ℤ) → term m (neg_ℤ c) ≡ polys.neg (term m c)
term-neg m c = hom_neg hom c
  where
    hom : IsHom int_group polys.group (term m)
    hom = record { sums = term-sum m }

module _ (f : Polynomial) (s : Dividing) (u : Mono × ℤ) (n : IsNext s.rest.terms f.terms u) where
  pub rest_value : (step_of f u s).rest ≡ plus (poly_of n.below) (times (term u.0 (neg_ℤ u.1)) (poly_of n.others))
  unfolding step_of minus plus times
  rest_value =
      let A = term n.top.0 n.top.1 in
      let U = term u.0 u.1 in
      let P = poly_of n.below in
      let F = poly_of n.others in
      let product : polys.◌*◌ U f ≡ polys.◌+◌ A (polys.◌*◌ U F) =
      ap (polys.◌*◌ U) (first_apart f n.lead n.others n.by_is) ∙ polys.mul_add U (term n.lead.0 n.lead.1) F
      ∙ ap (λ q. polys.◌+◌ q (polys.◌*◌ U F)) (term-* u.0 n.lead.0 u.1 n.lead.1 ∙ ap₂ term n.mono n.coef) in
      ap₂ (λ x y. polys.◌+◌ x (polys.neg y)) (first_apart s.rest n.top n.below n.rest_is) product
      ∙ ring4 polys A P U F (λ a p v w. (search reify depth 12, search reify depth 12)) refl
      ∙ ap (λ v. polys.◌+◌ P (polys.◌*◌ v F)) (sym (term-neg u.0 u.1))

  rest_canonical : IsCanonical monomials int_group (n.top ∷ n.below)
  rest_canonical = subst (IsCanonical monomials int_group) n.rest_is s.rest.canonical

  by_canonical : IsCanonical monomials int_group (n.lead ∷ n.others)
  by_canonical = subst (IsCanonical monomials int_group) n.by_is f.canonical

  pub coef_nonzero : u.1 ≡ pos 0 → ⊥
  coef_nonzero = divisor_nonzero n.lead.1 u.1 n.top.1 (*ℤ_comm n.lead.1 u.1 ∙ n.coef) rest_canonical.0

  negative_nonzero : T (cond (int_is_zero (neg_ℤ u.1)) false true)
  negative_nonzero = by u.1 coef_nonzero
    where
      by : (c : ℤ) → (c ≡ pos 0 → ⊥) → T (cond (int_is_zero (neg_ℤ c)) false true)
      by (pos zero) some = absurd (some refl)
      by (pos (suc k)) some = tt
      by (negsuc k) some = tt

  pub rest_below : EachBelow n.top.0 (step_of f u s).rest.terms
  unfolding plus
  rest_below =
      subst (λ p. EachBelow n.top.0 p.terms) (sym rest_value)
      (EachTerm-⊕ monomials int_group (λ k. mono_cmp k n.top.0 ≡ Less) (poly_of n.below) (times (term u.0 (neg_ℤ u.1)) (poly_of n.others))
      (subst (EachBelow n.top.0) (sym (terms-poly_of n.below rest_canonical.2)) (each_below n.top.0 n.below rest_canonical.1))
      (subst (EachBelow n.top.0) (sym products) (subst (λ m. EachBelow m (row_of (u.0, neg_ℤ u.1) n.others)) n.mono
      (row_below (u.0, neg_ℤ u.1) n.lead.0 n.others by_canonical.1))))
    where
      products : (times (term u.0 (neg_ℤ u.1)) (poly_of n.others)).terms ≡ row_of (u.0, neg_ℤ u.1) n.others
      products =
          terms-multiple u.0 (neg_ℤ u.1) (poly_of n.others) negative_nonzero
          ∙ ap (row_of (u.0, neg_ℤ u.1)) (terms-poly_of n.others by_canonical.2)

  pub rank_falls : dividing_rank (step_of f u s) < dividing_rank s
  unfolding dividing_rank
  rank_falls = subst (λ es. leading_rank (leading (step_of f u s).rest.terms) < leading_rank (leading es)) (sym n.rest_is)
      (lower (step_of f u s).rest.terms rest_below)
    where
      lower : (es : List (Mono × ℤ)) → EachBelow n.top.0 es → leading_rank (leading es) < leading_rank (Some n.top)
      lower [] below = omega arith
      lower (e ∷ es) below = let less = rank-less e.0 n.top.0 below.0 in omega (arith, less)

pub stepped : (f : Polynomial) (s t : Dividing) (u : Mono × ℤ) → checked_step f u s ≡ Ok t → step_of f u s ≡ t
unfolding checked_step
stepped f s t u done = verdict_ok _ _ t done

pub division_falls : (f : Polynomial) → Falls dividing_rank (next_term f) (checked_step f)
division_falls f s t u found done =
    subst (λ t. dividing_rank t < dividing_rank s) (stepped f s t u done) (rank_falls f s u (next_is f s u found))

leading_below :
    (m : Mono) (es : List (Mono × ℤ)) (e : Mono × ℤ) → EachBelow m es → leading es ≡ Some e → mono_cmp e.0 m ≡ Less
leading_below m [] e below first = cc
leading_below m (d ∷ es) e below first =
    let same : d ≡ e = cc in subst (λ e. mono_cmp e.0 m ≡ Less) same below.0

pub step_falls : EachDivisionStepFalls
step_falls f s t u before after found done first next =
    let n = next_is f s u found in
    let top : Some n.top ≡ Some before = sym (ap leading n.rest_is) ∙ first in
    let same : n.top ≡ before = cc in
    leading_below before.0 t.rest.terms after
    (subst (λ e. EachBelow e.0 t.rest.terms) same
    (subst (λ t. EachBelow n.top.0 t.rest.terms) (stepped f s t u done) (rest_below f s u n)))
    next

-- the dividend is the quotient so far times f, and the rest
abbrev pub IsWhole : Polynomial → Polynomial → Dividing → Type 0
IsWhole p f s = polys.◌+◌ (polys.◌*◌ s.quotient f) s.rest ≡ p

pub whole_kept :
    (p f : Polynomial) (s t : Dividing) (u : Mono × ℤ) → checked_step f u s ≡ Ok t → IsWhole p f s → IsWhole p f t
unfolding step_of minus plus times
whole_kept p f s t u done whole =
    ap (λ t. polys.◌+◌ (polys.◌*◌ t.quotient f) t.rest) (sym (stepped f s t u done))
    ∙ ring4 polys s.quotient f s.rest (term u.0 u.1) (λ q g r v. (search reify depth 12, search reify depth 12)) refl ∙ whole
