-- A quotient that leaves room for each step of the division is what the checked loop finds: main lemma `fitting_quotient`.
-- In each state what is left of the quotient times f is the rest, so the next term is the leading one of what is left. Each
-- step adds at most a multiple of f to the rest, so no measure passes those of the dividend and all multiples together.
use Rattle.ct_poly.proofs.Base.{◌≡◌, refl, ℕ, ◌+◌, ◌*◌, ◌≤◌, ℤ, neg_ℤ, nat_abs, cond, List, [], ◌∷◌, length, Ok, Some, None, sym, ◌∙◌, ap, ap₂, subst}
use Rattle.ct_poly.proofs.Base.{arith, mul-le-mul_right, sum_by-cons, le-ltb, leading, zero_add, not_zero, Mono, monomials, Polynomial, polys}
use Rattle.ct_poly.proofs.Base.{poly_of, plus, times, count, norm, norm_of, terms-poly_of, zero_mul, ring3, reify, term, none, IsCanonical, int_group}
use Rattle.ct_poly.proofs.Base.{sum_of-none, sum_of-append, abs-neg, ◌>>=◌, verdict_fits, over-·, most_terms, largest_norm, run, run_done, run_more}
use Rattle.ct_poly.proofs.Base.{Terms, Number}
use Rattle.ct_poly.specs.Division.{Dividing, both_over, leading_over, next_term, step_rules, step_overflow, step_of, checked_step, dividing_rank}
use Rattle.ct_poly.specs.Division.{whole_dividend, found_quotient, checked_quotient}
use Rattle.ct_poly.specs.Measures.{minus, broken}
use Rattle.ct_poly.proofs.DivisionSteps.{division_falls, term-neg}
use Rattle.ct_poly.proofs.ProductLeads.{product_leads}
use Rattle.ct_poly.proofs.TermLists.{rebuilt, poly_of-single}
use Rattle.ct_poly.proofs.WholeQuotients.{whole_over-*}
use Rattle.ct_poly.proofs.Within.{sums_within, products_within, term_within}

rules_fit :
    (a b c d e g h : ℕ) → a + c ≤ most_terms → e + 1 ≤ most_terms → b + h * d ≤ largest_norm → g + h ≤ largest_norm →
    step_rules a b c d e g h ≡ None
rules_fit a b c d e g h few room small fits =
    λ i. broken (le-ltb most_terms (a + c) few i) Terms (broken (le-ltb most_terms (e + 1) room i) Terms
    (broken (le-ltb largest_norm (h * d) (omega (arith, small)) i) Number (broken (le-ltb largest_norm (b + h * d) small i) Number
    (broken (le-ltb largest_norm (g + h) fits i) Number None))))

first_of : (e : Mono × ℤ) (es : List (Mono × ℤ)) → poly_of (e ∷ es) ≡ polys.◌+◌ (term e.0 e.1) (poly_of es)
unfolding poly_of
first_of e es = sum_of-append monomials int_group (e ∷ []) es ∙ ap (λ w. polys.◌+◌ w (poly_of es)) (poly_of-single e.0 e.1)

zero_of : poly_of [] ≡ polys.zero
unfolding poly_of
zero_of = sum_of-none monomials int_group

module _ (f : Polynomial) (b : Mono × ℤ) (bs : List (Mono × ℤ)) (f_is : f.terms ≡ b ∷ bs) (q : Polynomial) (q_few : count q ≤ most_terms)
    (q_fits : norm q ≤ largest_norm) where
  -- hs are the terms of the quotient that are left
  record Leaves (hs : List (Mono × ℤ)) (s : Dividing) : Type 0 where
    whole : polys.◌+◌ s.quotient (poly_of hs) ≡ q
    rest : s.rest ≡ times (poly_of hs) f
    counts : count s.quotient + length hs ≤ count q
    norms : norm s.quotient + norm_of hs ≤ norm q
    few : count s.rest + length hs * count f ≤ most_terms
    small : norm s.rest + norm_of hs * norm f ≤ largest_norm

  module _ (a : Mono × ℤ) (hs : List (Mono × ℤ)) (falling : IsCanonical monomials int_group (a ∷ hs)) (s : Dividing) (l : Leaves (a ∷ hs) s) where
    next_is_first : next_term f s ≡ Some a
    unfolding next_term
    next_is_first =
        let lead = ap (λ p. leading p.terms) l.rest ∙ product_leads f b bs f_is (poly_of (a ∷ hs)) a hs (terms-poly_of (a ∷ hs) falling) in
        let canonical = subst (IsCanonical monomials int_group) f_is f.canonical in
        let some = ap₂ both_over (over-· a.0 b.0) (whole_over-* a.1 b.1 (not_zero monomials int_group b.1 canonical.0)) in
        ap₂ leading_over lead (ap leading f_is) ∙ some

    norms_are : norm_of (a ∷ hs) ≡ nat_abs a.1 + norm_of hs
    norms_are = sum_by-cons (λ e. nat_abs e.1) a hs

    no_overflow : step_overflow f a s ≡ None
    unfolding step_overflow
    no_overflow =
        rules_fit (count s.rest) (norm s.rest) (count f) (norm f) (count s.quotient) (norm s.quotient) (nat_abs a.1)
        (omega (arith, l.few)) (omega (arith, l.counts, q_few)) (omega (arith, l.small, ap (λ n. n * norm f) norms_are))
        (omega (arith, l.norms, norms_are, q_fits))

    step_passes : checked_step f a s ≡ Ok (step_of f a s)
    unfolding checked_step
    step_passes = verdict_fits _ _ (step_of f a s) no_overflow refl

    multiple : Polynomial
    multiple = times (term a.0 (neg_ℤ a.1)) f

    rest_is : (step_of f a s).rest ≡ plus s.rest multiple
    unfolding step_of minus plus times multiple
    rest_is =
        ap (polys.◌+◌ s.rest) (ring3 polys (term a.0 a.1) f s.rest (λ u g r. (search reify depth 12, search reify depth 12)) refl
        ∙ ap (λ w. polys.◌*◌ w f) (sym (term-neg a.0 a.1)))

    multiple_small : (count multiple ≤ count f) × (norm multiple ≤ nat_abs a.1 * norm f)
    unfolding multiple
    multiple_small =
        let one = term_within a.0 (neg_ℤ a.1) in
        let product = products_within (term a.0 (neg_ℤ a.1)) f in (
          omega (arith, product.0, mul-le-mul_right (count f) one.0),
          omega (arith, product.1, mul-le-mul_right (norm f) one.1, ap (λ n. n * norm f) (abs-neg a.1)),
        )

    left : (step_of f a s).rest ≡ times (poly_of hs) f
    unfolding step_of minus plus times
    left =
        ap (λ r. polys.◌+◌ r (polys.neg (polys.◌*◌ (term a.0 a.1) f))) (l.rest ∙ ap (λ w. polys.◌*◌ w f) (first_of a hs))
        ∙ ring3 polys (term a.0 a.1) (poly_of hs) f (λ x y z. (search reify depth 12, search reify depth 12)) refl

    whole : polys.◌+◌ (step_of f a s).quotient (poly_of hs) ≡ q
    unfolding step_of plus
    whole =
        ring3 polys s.quotient (term a.0 a.1) (poly_of hs) (λ x y z. (search reify depth 12, search reify depth 12)) refl
        ∙ ap (polys.◌+◌ s.quotient) (sym (first_of a hs)) ∙ l.whole

    still : Leaves hs (step_of f a s)
    still =
        let sum = sums_within s.rest multiple in
        let grown = sums_within s.quotient (term a.0 a.1) in
        let one = term_within a.0 a.1 in
        record {
          whole = whole;
          rest = left;
          counts = unfold step_of in omega (arith, l.counts, grown.0, one.0);
          norms = unfold step_of in omega (arith, l.norms, grown.1, one.1, norms_are);
          few = omega (arith, l.few, ap count rest_is, sum.0, multiple_small.0);
          small = omega (arith, l.small, ap norm rest_is, sum.1, multiple_small.1, ap (λ n. n * norm f) norms_are);
        }

  module _ (s : Dividing) (l : Leaves [] s) where
    empty : s.rest ≡ polys.zero
    unfolding times
    empty = l.rest ∙ ap (λ w. polys.◌*◌ w f) zero_of ∙ zero_mul polys f

    no_lead : leading_over (leading polys.zero.terms) (leading f.terms) ≡ None
    unfolding none
    no_lead = refl

    done : next_term f s ≡ None
    unfolding next_term
    done = ap (λ p. leading_over (leading p.terms) (leading f.terms)) empty ∙ no_lead

    found : found_quotient s ≡ Some q
    unfolding found_quotient
    found =
        ap (λ c. cond c (Some s.quotient) None) (ap polys.is_zero empty ∙ polys.zero_true)
        ∙ ap (λ w. Some w) (sym (polys.add_zero s.quotient) ∙ ap (polys.◌+◌ s.quotient) (sym zero_of) ∙ l.whole)

  finds :
      (hs : List (Mono × ℤ)) (s : Dividing) → IsCanonical monomials int_group hs → Leaves hs s →
      (run dividing_rank (next_term f) (checked_step f) s >>= (λ s. Ok (found_quotient s))) ≡ Ok (Some q)
  finds [] s falling l =
      ap (λ r. r >>= (λ s. Ok (found_quotient s))) (run_done dividing_rank (next_term f) (checked_step f) (division_falls f) s (done s l))
      ∙ ap (λ o. Ok o) (found s l)
  finds (a ∷ hs) s falling l =
      ap (λ r. r >>= (λ s. Ok (found_quotient s)))
      (run_more dividing_rank (next_term f) (checked_step f) (division_falls f) s (step_of f a s) a (next_is_first a hs falling s l)
      (step_passes a hs falling s l))
      ∙ finds hs (step_of f a s) falling.2 (still a hs falling s l)

pub fitting_quotient :
    (p f q : Polynomial) (b : Mono × ℤ) (bs : List (Mono × ℤ)) → f.terms ≡ b ∷ bs → times q f ≡ p →
    count q ≤ most_terms → norm q ≤ largest_norm → count p + count q * count f ≤ most_terms →
    norm p + norm q * norm f ≤ largest_norm → checked_quotient p f ≡ Ok (Some q)
unfolding checked_quotient
fitting_quotient p f q b bs f_is product q_few q_fits few small =
    finds f b bs f_is q q_few q_fits q.terms (whole_dividend p) q.canonical (record {
      whole = ap (polys.◌+◌ polys.zero) (rebuilt q) ∙ zero_add polys.group q;
      rest = sym product ∙ ap (λ w. times w f) (sym (rebuilt q));
      counts = unfold count in unfold none in omega arith;
      norms = unfold norm in unfold none in omega arith;
      few = unfold count in few;
      small = unfold norm in small;
    })
