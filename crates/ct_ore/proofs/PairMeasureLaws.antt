-- The rules by which a product overflows, and sums of measures, which are taken one by one.
-- Main lemmas `summing_more`, `by_degree` .. `by_norm`, and `pairs_count`: each pair makes a term at least.
use Rattle.ct_ore.proofs.Base.{◌≡◌, ◌≢◌, refl, ℕ, zero, suc, ◌+◌, ◌*◌, ◌<◌, ◌≤◌, ltb, eqb, cond, Bool, true, false, List, [], ◌∷◌, map, length}
use Rattle.ct_ore.proofs.Base.{get_or, sym, ◌∙◌, ap, ap₂, subst, arith, Some, None, Option, lt-ltb, le-ltb, eq-eqb, ne_eqb, mul-pos, slice_get}
use Rattle.ct_ore.proofs.Base.{sum_by-cons, get_or-le-sum_by, Mono, exp, total, sum_six, Name, place, name_with, Action, Still, Polynomial, degree}
use Rattle.ct_ore.proofs.Base.{Operator, largest_degree, most_terms, largest_norm, Kind, Degree, Terms, Number, broken, place-name_with}
use Rattle.ct_ore.specs.declared.coefficient_term.CoefficientTerm.{CoefficientTerm}
use Rattle.ct_ore.specs.Naming.{Naming, actions_of}
use Rattle.ct_ore.specs.AllNames.{number_of_names, over_below}
use Rattle.ct_ore.specs.declared.op.OpTerm.{OpTerm}
use Rattle.ct_ore.specs.Terms.{op_entries}
use Rattle.ct_ore.specs.Lists.{IsPartsOf}
use Rattle.ct_ore.specs.PairMeasures.{name_measure, pair_measure, measure_of_row, measure_of_pairs}
use Rattle.ct_ore.specs.CoefficientTerms.{all_terms, coefficient_terms}
use Rattle.ct_ore.specs.Measures.{greatest, product_overflow, coefficient_degree, order_of, product_count, product_norm}
use Rattle.ct_ore.specs.Bounds.{IsCapped, IsSumming}
use Rattle.ct_ore.proofs.PairWeightLaws.{how_many-positive}
use Rattle.ct_ore.proofs.ProductMeasures.{count-pairs, norm-pairs}

pub summing_start : (all : ℕ) → IsSumming all all (Some 0)
summing_start all = record { done = 0; capped = (refl, omega arith); rest = omega arith }

-- one measure more
pub summing_more :
    {all before : ℕ} {r s : Option ℕ} (p : Option ℕ) (x left : ℕ) → before ≡ x + left → IsSumming all before r → IsCapped x p →
    ((v w : ℕ) → IsCapped v r → IsCapped w p → IsCapped (v + w) s) → IsSumming all left s
summing_more p x left same summing one add = record {
  done = summing.done + x;
  capped = add summing.done x summing.capped one;
  rest = omega (arith, summing.rest, same);
}

pub summing_ended : {all left : ℕ} {r : Option ℕ} → IsSumming all left r → left ≡ 0 → IsCapped all r
summing_ended {all} {left} {r} summing none =
    let same : summing.done ≡ all = omega (arith, summing.rest, none) in subst (λ v. IsCapped v r) same summing.capped

-- ---- an exponent is no larger than the total

pub exp-le-total : (m : Mono) (i : ℕ) → i < 6 → exp m i ≤ total m
unfolding exp total
exp-le-total m i h = get_or-le-sum_by (λ x. x) m.exps i 0 (subst (λ n. i < n) (sym m.six) h)

-- ---- what an algebra's names do

pub known_action : (ns : List Naming) (n : Naming) (i : ℕ) → i < 6 → slice_get ns i ≡ Some n → actions_of ns (name_with i) ≡ n.action
unfolding actions_of
known_action ns n i h known = ap (λ k. get_or (map (λ (m : Naming). m.action) ns) k Still) (place-name_with i h) ∙ go ns i known
  where
    go : (ns : List Naming) (i : ℕ) → slice_get ns i ≡ Some n → get_or (map (λ (m : Naming). m.action) ns) i Still ≡ n.action
    go [] i known = cc
    go (m ∷ ns) zero known = let same : m ≡ n = cc in ap (λ (k : Naming). k.action) same
    go (m ∷ ns) (suc i) known = go ns i known

pub no_action : (ns : List Naming) (i : ℕ) → i < 6 → length ns ≤ i → actions_of ns (name_with i) ≡ Still
unfolding actions_of
no_action ns i h past = ap (λ k. get_or (map (λ (m : Naming). m.action) ns) k Still) (place-name_with i h) ∙ go ns i past
  where
    go : (ns : List Naming) (i : ℕ) → length ns ≤ i → get_or (map (λ (m : Naming). m.action) ns) i Still ≡ Still
    go [] i past = refl
    go (m ∷ ns) zero past = absurd (omega arith)
    go (m ∷ ns) (suc i) past = go ns i (omega arith)

-- ---- the rules in their order

module _ (a : Name → Action) (p q : Operator) where
  pub none_of_zero : length p.terms * length q.terms ≡ 0 → None ≡ product_overflow a p q
  unfolding product_overflow
  none_of_zero none =
      sym (ap (λ b. cond {A = Option Kind} b None
      (broken (ltb largest_degree (coefficient_degree p + coefficient_degree q)) Degree
      (broken (ltb largest_degree (order_of p + order_of q)) Degree
      (broken (ltb most_terms (product_count a p q)) Terms (broken (ltb largest_norm (product_norm a p q)) Number None)))))
      (eq-eqb (length p.terms * length q.terms) 0 none))

  module _ (some : length p.terms * length q.terms ≢ 0) where
    abbrev pub rest : Option Kind
    rest =
        broken (ltb largest_degree (coefficient_degree p + coefficient_degree q)) Degree
        (broken (ltb largest_degree (order_of p + order_of q)) Degree
        (broken (ltb most_terms (product_count a p q)) Terms
        (broken (ltb largest_norm (product_norm a p q)) Number None)))

    pub begin : product_overflow a p q ≡ rest
    unfolding product_overflow
    begin = ap (λ b. cond {A = Option Kind} b None rest) (ne_eqb (length p.terms * length q.terms) 0 some)

    pub by_degree : largest_degree < coefficient_degree p + coefficient_degree q → Some Degree ≡ product_overflow a p q
    by_degree over = sym (begin
        ∙ ap (λ b. broken b Degree
        (broken (ltb largest_degree (order_of p + order_of q)) Degree
        (broken (ltb most_terms (product_count a p q)) Terms (broken (ltb largest_norm (product_norm a p q)) Number None)))) (lt-ltb _ _ over))

    module _ (low : coefficient_degree p + coefficient_degree q ≤ largest_degree) where
      first : product_overflow a p q ≡ broken (ltb largest_degree (order_of p + order_of q)) Degree
          (broken (ltb most_terms (product_count a p q)) Terms (broken (ltb largest_norm (product_norm a p q)) Number None))
      first = begin ∙ ap (λ b. broken b Degree
          (broken (ltb largest_degree (order_of p + order_of q)) Degree
          (broken (ltb most_terms (product_count a p q)) Terms (broken (ltb largest_norm (product_norm a p q)) Number None)))) (le-ltb _ _ low)

      pub by_order : largest_degree < order_of p + order_of q → Some Degree ≡ product_overflow a p q
      by_order over = sym (first
          ∙ ap (λ b. broken b Degree
          (broken (ltb most_terms (product_count a p q)) Terms (broken (ltb largest_norm (product_norm a p q)) Number None))) (lt-ltb _ _ over))

      module _ (few : order_of p + order_of q ≤ largest_degree) where
        second : product_overflow a p q ≡ broken (ltb most_terms (product_count a p q)) Terms
            (broken (ltb largest_norm (product_norm a p q)) Number None)
        second = first ∙ ap (λ b. broken b Degree
            (broken (ltb most_terms (product_count a p q)) Terms (broken (ltb largest_norm (product_norm a p q)) Number None))) (le-ltb _ _ few)

        pub by_count : ltb most_terms (product_count a p q) ≡ true → Some Terms ≡ product_overflow a p q
        by_count over = sym (second ∙ ap (λ b. broken b Terms (broken (ltb largest_norm (product_norm a p q)) Number None)) over)

        pub by_norm :
            ltb most_terms (product_count a p q) ≡ false → (b : Bool) → ltb largest_norm (product_norm a p q) ≡ b →
            broken b Number None ≡ product_overflow a p q
        by_norm within b over =
            sym (second ∙ ap (λ b. broken b Terms (broken (ltb largest_norm (product_norm a p q)) Number None)) within
            ∙ ap (λ b. broken b Number None) over)

over_below_positive : (f : Name → ℕ) → ((i : Name) → 0 < f i) → (n : ℕ) → 0 < over_below n f
over_below_positive f some zero = omega arith
over_below_positive f some (suc n) = mul-pos (over_below_positive f some n) (some (name_with n))

-- ---- what code reads of two operators

length-op_entries : (ts : List OpTerm) → length (op_entries ts) ≡ length ts
length-op_entries [] = refl
length-op_entries (t ∷ ts) = ap (λ n. suc n) (length-op_entries ts)

pub length_is : (p : Operator) (ts : List OpTerm) → op_entries ts ≡ p.terms → length ts ≡ length p.terms
length_is p ts same = sym (length-op_entries ts) ∙ ap length same

pub coefficient_degree_is :
    (p : Operator) (ts : List OpTerm) → op_entries ts ≡ p.terms → greatest (map (λ e. degree e.1) (op_entries ts)) ≡ coefficient_degree p
unfolding coefficient_degree
coefficient_degree_is p ts same = ap (λ es. greatest (map (λ (e : Mono × Polynomial). degree e.1) es)) same

pub order_is : (p : Operator) (ts : List OpTerm) → op_entries ts ≡ p.terms → greatest (map (λ e. total e.0) (op_entries ts)) ≡ order_of p
unfolding order_of
order_is p ts same = ap (λ es. greatest (map (λ (e : Mono × Polynomial). total e.0) es)) same

pub count_is :
    (a : Name → Action) (p q : Operator) (ps : List OpTerm) (qs : List CoefficientTerm) → op_entries ps ≡ p.terms → IsPartsOf q qs →
    measure_of_pairs a false (all_terms (op_entries ps)) qs ≡ product_count a p q
unfolding coefficient_terms
count_is a p q ps qs mine its = ap₂ (measure_of_pairs a false) (ap all_terms mine) its.list ∙ count-pairs a p q

pub norm_is :
    (a : Name → Action) (p q : Operator) (ps : List OpTerm) (qs : List CoefficientTerm) → op_entries ps ≡ p.terms → IsPartsOf q qs →
    measure_of_pairs a true (all_terms (op_entries ps)) qs ≡ product_norm a p q
unfolding coefficient_terms
norm_is a p q ps qs mine its = ap₂ (measure_of_pairs a true) (ap all_terms mine) its.list ∙ norm-pairs a p q

-- each pair makes a term at least
row_counts :
    (a : Name → Action) (s : CoefficientTerm) (qs : List CoefficientTerm) → length qs ≤ measure_of_row a false s qs
row_counts a s [] = omega arith
row_counts a s (t ∷ qs) =
    let some : 0 < pair_measure a false s t =
    over_below_positive (λ i. name_measure false (a i) (exp s.symbols (place i)) (exp t.names (place i)))
    (λ i. how_many-positive (a i) (exp s.symbols (place i)) (exp t.names (place i))) number_of_names in
    omega (arith, row_counts a s qs, sum_by-cons (pair_measure a false s) t qs)

pub pairs_count :
    (a : Name → Action) (ps qs : List CoefficientTerm) → length ps * length qs ≤ measure_of_pairs a false ps qs
pairs_count a [] qs = omega arith
pairs_count a (s ∷ ps) qs =
    omega (arith, row_counts a s qs, pairs_count a ps qs, sum_by-cons (λ (s : CoefficientTerm). measure_of_row a false s qs) s ps)

pub nonzero_product : (m n : ℕ) → m ≢ 0 → n ≢ 0 → m * n ≢ 0
nonzero_product zero n p q e = p refl
nonzero_product (suc m) zero p q e = q refl
nonzero_product (suc m) (suc n) p q e = omega arith

pub told_nonzero : (n : ℕ) (b : Bool) → b ≡ eqb n 0 → b ≡ false → n ≢ 0
told_nonzero n b told false_is none = cc (told, false_is, eq-eqb n 0 none)

pub six_total : (m : Mono) → exp m 0 + exp m 1 + exp m 2 + exp m 3 + exp m 4 + exp m 5 ≡ total m
unfolding exp total
six_total m = sum_six m.exps m.six
