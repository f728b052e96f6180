-- Over its greatest common divisor with a number, an operator has none left: what divides both quotients, times the divisor,
-- divides what was divided. A number divides an operator where it divides the negative. Main lemmas `nothing_more_divides` and
-- `divides_back`, which the law of lowest terms cites.
use Rattle.ct_ore.proofs.Base.{◌≡◌, ℕ, ◌*◌, ◌/◌, ◌<◌, pos, List, [], ◌∷◌, map, sym, ap, ◌∙◌, subst, ◌∣◌, dvd_refl, div-mul_cancel}
use Rattle.ct_ore.proofs.Base.{dvd_of_mul-dvd-mul_right, eq-one_of_dvd-one, mul-dvd-mul_right, one-mul, neg_neg, zero_add, Mono, unit, Operator}
use Rattle.ct_ore.proofs.Base.{negative, no_operator, operator_group, sum_of_operators, Polynomial, negatives_are, sums_are, DividesAll}
use Rattle.ct_ore.proofs.Base.{divides_negative, each_divides}
use Rattle.ct_poly.proofs.PrimitiveParts.{times_each}
use Rattle.ct_ore.specs.Measures.{difference_of_operators}
use Rattle.ct_ore.specs.Wholes.{DividesTerms, DividesOperator, common_divisor, entry_over, over_whole}
use Rattle.ct_ore.specs.TermSums.{negatives}
use Rattle.ct_ore.proofs.OperatorSums.{negative_terms}
use Rattle.ct_ore.proofs.WholeDivisors.{common_is, divisor_some, over_terms, quotient_terms}

times_terms :
    (x d : ℕ) (es : List (Mono × Polynomial)) → DividesTerms d es → DividesTerms x (map (entry_over d) es) → DividesTerms (x * d) es
times_terms x d [] divides all = tt
times_terms x d (e ∷ es) divides all = (
  times_each x unit (pos d) e.1.terms e.1.canonical (each_divides d e.1.terms divides.0)
      (subst (DividesAll x) (quotient_terms d e.1 divides.0) all.0),
  times_terms x d es divides.1 all.1,
)

pub nothing_more_divides :
    (p : Operator) (n x : ℕ) → 0 < n → x ∣ n / common_divisor p n → DividesOperator x (over_whole (common_divisor p n) p) → x ≡ 1
nothing_more_divides p n x some number each =
    let g = common_divisor p n in
    let own = (common_is p n some g).0 (dvd_refl g) in
    let whole : x * g ∣ n = subst (λ k. x * g ∣ k) (div-mul_cancel g own.0) (mul-dvd-mul_right x number g) in
    let parts = times_terms x g p.terms own.1 (subst (DividesTerms x) (over_terms g p own.1) each) in
    let more : x * g ∣ g = (common_is p n some (x * g)).1 (whole, parts) in
    eq-one_of_dvd-one (dvd_of_mul-dvd-mul_right x (divisor_some n g some own.0) (subst (λ k. x * g ∣ k) (sym (one-mul g)) more))

all_negatives : (d : ℕ) (es : List (Mono × Polynomial)) → DividesTerms d es → DividesTerms d (negatives es)
all_negatives d [] all = tt
all_negatives d (e ∷ es) all = (divides_negative d e.1 all.0, all_negatives d es all.1)

divides_negated : (d : ℕ) (p : Operator) → DividesOperator d p → DividesOperator d (negative p)
divides_negated d p all = subst (DividesTerms d) (sym (negative_terms p)) (all_negatives d p.terms all)

-- what divides the negative
pub divides_back : (d : ℕ) (p : Operator) → DividesOperator d (difference_of_operators no_operator p) → DividesOperator d p
unfolding difference_of_operators no_operator
divides_back d p all =
    let alone : sum_of_operators no_operator (negative p) ≡ negative p = sums_are no_operator (negative p) ∙ zero_add operator_group (negative p) in
    let twice : negative (negative p) ≡ p = negatives_are (negative p) ∙ ap operator_group.neg (negatives_are p) ∙ neg_neg operator_group p in
    subst (DividesOperator d) twice (divides_negated d (negative p) (subst (DividesOperator d) alone all))
