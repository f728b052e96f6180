-- What is within the limits has terms within the limits. Main lemmas `small_entries` and `small_operator_entries`.
use Rattle.ct_answer.proofs.Base.{◌≤◌, ◌<◌, ℤ, nat_abs, List, [], ◌∷◌, length, map, ap, arith, sum_by-cons, none, EachTerm, IsCanonical, Mono}
use Rattle.ct_answer.proofs.Base.{monomials, total, Polynomial, polys, count, norm, norm_of, degree, degree_greatest, Operator, int_group}
use Rattle.ct_answer.proofs.Base.{largest_degree, most_terms, largest_norm, Naming, entries_count, entries_norm, greatest, term_count, term_norm}
use Rattle.ct_answer.proofs.Base.{coefficient_degree, order_of, Each}
use Rattle.ct_answer.specs.ReadBack.{OperatorFits}
use Rattle.ct_answer.proofs.PowerValues.{IsSmall}
use Rattle.ct_answer.proofs.PolynomialValues.{IsSmallEntry}
use Rattle.ct_answer.proofs.OperatorValues.{IsSmallOperatorEntry}
use Rattle.ct_answer.proofs.FittingTexts.{lower, some_terms}

small_list : (es : List (Mono × ℤ)) → IsCanonical monomials int_group es → EachTerm (λ m c. total m ≤ largest_degree) es → norm_of es ≤ largest_norm →
    Each IsSmallEntry es
small_list [] canonical low small = tt
small_list (e ∷ es) canonical low small =
    let sum = sum_by-cons (λ (d : Mono × ℤ). nat_abs d.1) e es in
    (record { some = canonical.0; small = omega (arith, sum, small); low = low.0 }, small_list es canonical.2 low.1 (omega (arith, sum, small)))

pub small_entries : (p : Polynomial) → degree p ≤ largest_degree → norm p ≤ largest_norm → Each IsSmallEntry p.terms
unfolding norm
small_entries p low small = small_list p.terms p.canonical (lower p largest_degree low p.terms (degree_greatest p)) small

is_small : (c : Polynomial) → 0 < length c.terms → length c.terms ≤ most_terms → norm c ≤ largest_norm → degree c ≤ largest_degree → IsSmall c
unfolding count none
is_small c some few small low =
    record {
      some = λ absent. let counted = ap (λ (p : Polynomial). length p.terms) absent in
          absurd (omega (arith, counted, some));
      few = few;
      small = small;
      low = low;
    }

operator_list : (es : List (Mono × Polynomial)) → IsCanonical monomials polys.group es → entries_count es ≤ most_terms →
    entries_norm es ≤ largest_norm
    → greatest (map (λ e. degree e.1) es) ≤ largest_degree → greatest (map (λ e. total e.0) es) ≤ largest_degree → Each IsSmallOperatorEntry es
unfolding count norm
operator_list [] canonical few small low low_order = tt
operator_list (e ∷ es) canonical few small low low_order =
    let counts = sum_by-cons (λ (d : Mono × Polynomial). count d.1) e es in
    let sums = sum_by-cons (λ (d : Mono × Polynomial). norm d.1) e es in
    let some = some_terms e.1 canonical.0 in
    let small_first : norm_of e.1.terms ≤ largest_norm = omega (arith, sums, small) in (
      record {
        some = some;
        entries = small_entries e.1 (omega (arith, low)) small_first;
        coefficient = is_small e.1 some (omega (arith, counts, few)) small_first (omega (arith, low));
        low = omega (arith, low_order);
      },
      operator_list es canonical.2 (omega (arith, counts, few)) (omega (arith, sums, small)) (omega (arith, low)) (omega (arith, low_order)),
    )

pub small_operator_entries : (names : List Naming) (p : Operator) → OperatorFits names p → Each IsSmallOperatorEntry p.terms
unfolding term_count term_norm coefficient_degree order_of
small_operator_entries names p fits = operator_list p.terms p.canonical fits.few fits.small fits.low fits.low_order
