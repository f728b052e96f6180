-- Sums and differences of operators: which rule is broken, what a sum asks of the terms of its operands, and that it keeps
-- within their measures. Main lemmas `can_add`, `merged_is`, `sum_fits`, `negative_terms`, which the methods of `Op` cite, and
-- `sum_within`, `difference_within`, which the laws cite. The measures of an operator are added up over its terms, or are the
-- greatest of them, and inserting a term adds at most its own.
use Rattle.ct_ore.proofs.Base.{◌≡◌, refl, ℕ, ◌+◌, ◌≤◌, ◌<◌, ltb, max, map, ℤ, neg_ℤ, ◌⊎◌, inl, inr, List, [], ◌∷◌, sym, ◌∙◌, ap, ap₂, subst, arith}
use Rattle.ct_ore.proofs.Base.{Bool, true, false, cond, T, Ordering, Less, Equal, Greater, Some, None, lt-ltb, le-ltb, ltb-false, sum_by-cons}
use Rattle.ct_ore.proofs.Base.{neg_neg, neg_zero, EachTerm, EachTerm-weaker, by_order, keep, insert, merged, AllBelow, IsCanonical, ◌⊕◌, EachTerm-⊕}
use Rattle.ct_ore.proofs.Base.{negated, Mono, monomials, mono_cmp, total, Polynomial, polys, plus, plus_is, count, norm, degree, degree_of}
use Rattle.ct_ore.proofs.Base.{degree_greatest, int_group, Operator, operator_of, sum_of_operators, negative, most_terms, largest_norm, Terms, Number}
use Rattle.ct_ore.proofs.Base.{broken, sums_within}
use Rattle.std.proofs.lemmas.Bool.{cases_lt}
use Rattle.ct_algebra.proofs.PolynomialLawProofs.{degrees, finite_maps}
use Rattle.ct_poly.proofs.OverflowRules.{is_broken, is_kept}
use Rattle.ct_poly.proofs.Within.{negatives_within as neg_within}
use Rattle.ct_ore.specs.declared.op.OpTerm.{OpTerm}
use Rattle.ct_ore.specs.Terms.{op_entries}
use Rattle.ct_ore.specs.CoefficientTerms.{coefficient_terms}
use Rattle.ct_ore.specs.Lists.{Fits}
use Rattle.ct_ore.specs.Measures.{term_count, term_norm, greatest, coefficient_degree, order_of, difference_of_operators, sum_overflow}
use Rattle.ct_ore.specs.MeasureLaws.{IsWithinSum}
use Rattle.ct_ore.specs.TermSums.{CanAdd, entries_count, entries_norm, negatives}
use Rattle.ct_ore.proofs.OperatorMeasures.{count-coefficient_terms, norm-coefficient_terms}
use Rattle.ct_ore.proofs.WrittenForm.{coefficients_written}
use Rattle.ct_ore.proofs.WrittenOperators.{terms-operator_of}

-- ---- measures, term by term

abbrev counted : Mono × Polynomial → ℕ
counted e = count e.1

abbrev normed : Mono × Polynomial → ℕ
normed e = norm e.1

pub term_count-is : (p : Operator) → term_count p ≡ entries_count p.terms
unfolding term_count
term_count-is p = refl

pub term_norm-is : (p : Operator) → term_norm p ≡ entries_norm p.terms
unfolding term_norm
term_norm-is p = refl

-- ---- which rule is broken

pub sum_too_many : (p q : Operator) → most_terms < term_count p + term_count q → sum_overflow p q ≡ Some Terms
unfolding sum_overflow
sum_too_many p q many = is_broken _ Terms _ (lt-ltb _ _ many)

pub sum_too_large :
    (p q : Operator) → term_count p + term_count q ≤ most_terms → largest_norm < term_norm p + term_norm q →
    sum_overflow p q ≡ Some Number
unfolding sum_overflow
sum_too_large p q few large = is_kept _ Terms _ (le-ltb _ _ few) ∙ is_broken _ Number _ (lt-ltb _ _ large)

pub sum_allowed :
    (p q : Operator) → term_count p + term_count q ≤ most_terms → term_norm p + term_norm q ≤ largest_norm →
    sum_overflow p q ≡ None
unfolding sum_overflow
sum_allowed p q few small = is_kept _ Terms _ (le-ltb _ _ few) ∙ is_kept _ Number _ (le-ltb _ _ small)

-- the measures of both leave room for their sum
pub record HasRoom (p q : Operator) : Type 0 where
  pub few : term_count p + term_count q ≤ most_terms
  pub small : term_norm p + term_norm q ≤ largest_norm

pub has_room : (p q : Operator) → sum_overflow p q ≡ None → HasRoom p q
unfolding sum_overflow
has_room p q none = by (ltb most_terms (term_count p + term_count q)) (ltb largest_norm (term_norm p + term_norm q)) refl refl none
  where
    by : (b d : Bool) → ltb most_terms (term_count p + term_count q) ≡ b → ltb largest_norm (term_norm p + term_norm q) ≡ d
        → broken b Terms (broken d Number None) ≡ None → HasRoom p q
    by true d many large fits = cc
    by false true many large fits = cc
    by false false many large fits = record { few = ltb-false _ _ many; small = ltb-false _ _ large }

pub can_add : (p q : Operator) → HasRoom p q → CanAdd p.terms q.terms
can_add p q room = record {
  first = p.canonical;
  second = q.canonical;
  few = omega (arith, room.few, term_count-is p, term_count-is q);
  small = omega (arith, room.small, term_norm-is p, term_norm-is q);
}

-- ---- a sum is within the measures of its operands

abbrev entries_degree : List (Mono × Polynomial) → ℕ
entries_degree es = greatest (map (λ (e : Mono × Polynomial). degree e.1) es)

abbrev entries_order : List (Mono × Polynomial) → ℕ
entries_order es = greatest (map (λ (e : Mono × Polynomial). total e.0) es)

-- with one term more, which has these symbols and at most this coefficient
record AddsOne (m : Mono) (c : Polynomial) (es fs : List (Mono × Polynomial)) : Type 0 where
  few : entries_count fs ≤ count c + entries_count es
  small : entries_norm fs ≤ norm c + entries_norm es
  degrees : entries_degree fs ≤ max (degree c) (entries_degree es)
  orders : entries_order fs ≤ max (total m) (entries_order es)

keep_within : (m : Mono) (c : Polynomial) (es : List (Mono × Polynomial)) → AddsOne m c es (keep monomials polys.group m c es)
keep_within m c es = by (polys.group.is_zero c)
  where
    by : (b : Bool) → AddsOne m c es (cond b es ((m, c) ∷ es))
    by true = record { few = omega arith; small = omega arith; degrees = omega arith; orders = omega arith }
    by false = record {
      few = omega (arith, sum_by-cons counted (m, c) es);
      small = omega (arith, sum_by-cons normed (m, c) es);
      degrees = omega arith;
      orders = omega arith;
    }

degree-plus : (c d : Polynomial) → degree (plus c d) ≤ max (degree c) (degree d)
unfolding degree plus
degree-plus c d =
    first (max (degree c) (degree d)) (plus c d).terms
    (EachTerm-⊕ monomials int_group (λ m. total m ≤ max (degree c) (degree d)) c d
    (EachTerm-weaker (λ m x low. omega (arith, low)) c.terms (degree_greatest c))
    (EachTerm-weaker (λ m x low. omega (arith, low)) d.terms (degree_greatest d)))
  where
    first : (g : ℕ) (es : List (Mono × ℤ)) → EachTerm (λ m x. total m ≤ g) es → degree_of es ≤ g
    first g [] each = omega arith
    first g (e ∷ es) each = each.0

-- a coefficient that is the sum of two
record BothWithin (c d s : Polynomial) : Type 0 where
  few : count s ≤ count c + count d
  small : norm s ≤ norm c + norm d
  degrees : degree s ≤ max (degree c) (degree d)

both_within : (c d : Polynomial) → BothWithin c d (polys.group.◌+◌ c d)
both_within c d =
    let sum = sums_within c d in
    subst (BothWithin c d) (plus_is c d) (record { few = sum.0; small = sum.1; degrees = degree-plus c d })

abbrev inserted : Mono → Polynomial → List (Mono × Polynomial) → List (Mono × Polynomial)
inserted m c es = insert monomials polys.group m c es

insert_within : (m : Mono) (c : Polynomial) (es : List (Mono × Polynomial)) → AddsOne m c es (inserted m c es)
insert_within m c [] = keep_within m c []
insert_within m c (e ∷ es) = by (mono_cmp m e.0) (insert_within m c es)
  where
    by : (r : Ordering) → AddsOne m c es (inserted m c es)
        → AddsOne m c (e ∷ es) (by_order r (e ∷ inserted m c es) (keep monomials polys.group m (polys.group.◌+◌ c e.1) es)
        (keep monomials polys.group m c (e ∷ es)))
    by Less later = record {
      few = omega (arith, later.few, sum_by-cons counted e es, sum_by-cons counted e (inserted m c es));
      small = omega (arith, later.small, sum_by-cons normed e es, sum_by-cons normed e (inserted m c es));
      degrees = omega (arith, later.degrees);
      orders = omega (arith, later.orders);
    }
    by Equal later =
        let kept = keep_within m (polys.group.◌+◌ c e.1) es in
        let both = both_within c e.1 in record {
          few = omega (arith, kept.few, both.few, sum_by-cons counted e es);
          small = omega (arith, kept.small, both.small, sum_by-cons normed e es);
          degrees = omega (arith, kept.degrees, both.degrees);
          orders = omega (arith, kept.orders);
        }
    by Greater later = keep_within m c (e ∷ es)

-- what is said of two lists together
record IsWithinBoth (es fs gs : List (Mono × Polynomial)) : Type 0 where
  few : entries_count gs ≤ entries_count es + entries_count fs
  small : entries_norm gs ≤ entries_norm es + entries_norm fs
  degrees : entries_degree gs ≤ max (entries_degree es) (entries_degree fs)
  orders : entries_order gs ≤ max (entries_order es) (entries_order fs)

merged_within : (es fs : List (Mono × Polynomial)) → IsWithinBoth es fs (merged monomials polys.group es fs)
merged_within [] fs = record { few = omega arith; small = omega arith; degrees = omega arith; orders = omega arith }
merged_within (e ∷ es) fs =
    let later = merged_within es fs in
    let one = insert_within e.0 e.1 (merged monomials polys.group es fs) in record {
      few = omega (arith, one.few, later.few, sum_by-cons counted e es);
      small = omega (arith, one.small, later.small, sum_by-cons normed e es);
      degrees = omega (arith, one.degrees, later.degrees);
      orders = omega (arith, one.orders, later.orders);
    }

sum_terms : (p q : Operator) → (sum_of_operators p q).terms ≡ merged monomials polys.group p.terms q.terms
unfolding sum_of_operators ◌⊕◌
sum_terms p q = refl

-- what a merge of both lists lists
pub merged_is :
    (p q : Operator) (ps qs vs : List OpTerm) → op_entries ps ≡ p.terms → op_entries qs ≡ q.terms →
    op_entries vs ≡ merged monomials polys.group (op_entries ps) (op_entries qs) → op_entries vs ≡ (sum_of_operators p q).terms
merged_is p q ps qs vs mine its made = made ∙ ap₂ (merged monomials polys.group) mine its ∙ sym (sum_terms p q)

pub sum_within : (p q : Operator) → IsWithinSum p q (sum_of_operators p q)
unfolding coefficient_degree order_of
sum_within p q =
    let within = merged_within p.terms q.terms in
    let terms = sum_terms p q in record {
      count = omega (arith, within.few, ap entries_count terms, term_count-is (sum_of_operators p q), term_count-is p, term_count-is q);
      norm = omega (arith, within.small, ap entries_norm terms, term_norm-is (sum_of_operators p q), term_norm-is p, term_norm-is q);
      degree = omega (arith, within.degrees, ap entries_degree terms);
      order = omega (arith, within.orders, ap entries_order terms);
    }

pub sum_fits : (p q : Operator) → HasRoom p q → Fits (coefficient_terms (sum_of_operators p q))
sum_fits p q room =
    let within = sum_within p q in record {
      written = coefficients_written (sum_of_operators p q);
      few = omega (arith, room.few, within.count, count-coefficient_terms (sum_of_operators p q));
      small = omega (arith, room.small, within.norm, norm-coefficient_terms (sum_of_operators p q));
    }

-- ---- negatives

nonzero-neg : (c : Polynomial) → T (cond (polys.group.is_zero c) false true) → T (cond (polys.group.is_zero (polys.neg c)) false true)
nonzero-neg c some = by (polys.group.is_zero (polys.neg c)) refl
  where
    by : (b : Bool) → polys.group.is_zero (polys.neg c) ≡ b → T (cond b false true)
    by true zero =
        let none : c ≡ polys.zero = sym (neg_neg polys.group c) ∙ ap polys.neg (polys.group.true_zero _ zero) ∙ neg_zero polys.group in
        subst (λ b. T (cond b false true)) (ap polys.group.is_zero none ∙ polys.group.zero_true) some
    by false nonzero = tt

below-negatives :
    (m : Mono) (es : List (Mono × Polynomial)) → AllBelow monomials polys.group m es →
    AllBelow monomials polys.group m (negatives es)
below-negatives m [] below = tt
below-negatives m (e ∷ es) below = (below.0, below-negatives m es below.1)

canonical-negatives :
    (es : List (Mono × Polynomial)) → IsCanonical monomials polys.group es → IsCanonical monomials polys.group (negatives es)
canonical-negatives [] h = tt
canonical-negatives (e ∷ es) h = (nonzero-neg e.1 h.0, below-negatives e.0 es h.1, canonical-negatives es h.2)

pub negative_terms : (p : Operator) → (negative p).terms ≡ negatives p.terms
unfolding negative negated operator_of
negative_terms p = terms-operator_of (negatives p.terms) (canonical-negatives p.terms p.canonical)

degree-neg : (c : Polynomial) → degree (polys.neg c) ≤ degree c
degree-neg c = by (cases_lt (degree c) (degree (polys.neg c)))
  where
    by : (degree c < degree (polys.neg c)) ⊎ (degree (polys.neg c) ≤ degree c) → degree (polys.neg c) ≤ degree c
    by (inr low) = low
    by (inl high) =
        let top = degrees.attained (polys.neg c) (λ none. absurd (omega (arith, high, ap degree none, degrees.of_zero))) in
        let low = degrees.greatest c top.0 (λ none. top.1 (finite_maps.of_a_negative c top.0 ∙ ap neg_ℤ none)) in
        omega (arith, low, top.2)

-- the negative of each term has the measures of the term
record IsWithinOne (es fs : List (Mono × Polynomial)) : Type 0 where
  few : entries_count fs ≤ entries_count es
  small : entries_norm fs ≤ entries_norm es
  degrees : entries_degree fs ≤ entries_degree es
  orders : entries_order fs ≤ entries_order es

negatives_within : (es : List (Mono × Polynomial)) → IsWithinOne es (negatives es)
negatives_within [] = record { few = omega arith; small = omega arith; degrees = omega arith; orders = omega arith }
negatives_within (e ∷ es) =
    let later = negatives_within es in
    let one = neg_within e.1 in record {
      few = omega (arith, later.few, one.0, sum_by-cons counted e es, sum_by-cons counted (e.0, polys.neg e.1) (negatives es));
      small = omega (arith, later.small, one.1, sum_by-cons normed e es, sum_by-cons normed (e.0, polys.neg e.1) (negatives es));
      degrees = omega (arith, later.degrees, degree-neg e.1);
      orders = omega (arith, later.orders);
    }

pub difference_within : (p q : Operator) → IsWithinSum p q (difference_of_operators p q)
unfolding difference_of_operators coefficient_degree order_of
difference_within p q =
    let sum = sum_within p (negative q) in
    let within = negatives_within q.terms in
    let terms = negative_terms q in record {
      count = omega (arith, sum.count, within.few, ap entries_count terms, term_count-is q, term_count-is (negative q));
      norm = omega (arith, sum.norm, within.small, ap entries_norm terms, term_norm-is q, term_norm-is (negative q));
      degree = omega (arith, sum.degree, within.degrees, ap entries_degree terms);
      order = omega (arith, sum.order, within.orders, ap entries_order terms);
    }

-- where a difference has room, so has the sum with the negative
pub room_negative : (p q : Operator) → HasRoom p q → HasRoom p (negative q)
room_negative p q room =
    let within = negatives_within q.terms in
    let terms = negative_terms q in record {
      few = omega (arith, room.few, within.few, ap entries_count terms, term_count-is q, term_count-is (negative q));
      small = omega (arith, room.small, within.small, ap entries_norm terms, term_norm-is q, term_norm-is (negative q));
    }
