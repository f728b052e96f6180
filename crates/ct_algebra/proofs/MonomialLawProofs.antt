-- The proofs of specs/MonomialLaws. The order compares lists, of which the total is the first entry.
use Rattle.std.specs.Prelude.{◌≡◌, refl, ℕ, zero, suc, ◌+◌, ◌<◌, List, [], ◌∷◌, length, get_or, sum, cond}
use Rattle.std.proofs.Common.{sym, ◌∙◌, ap, arith, eq-eqb, ne_eqb, Less, Equal, nat_cmp}
use Rattle.std.specs.Cmp.{nat_cmp_is}
use Rattle.std.specs.Cmp.Lexicographic.{slice_cmp}
use Rattle.std.specs.Ordering.{ordering_then}
use Rattle.ct_algebra.specs.Monomial.{Mono, exp, exp-mono_of, exp-unit, exp-·, same_mono, mono_cmp, mono_cmp_total, mono_tied, mono_ordered, graded}
use Rattle.ct_algebra.specs.Monomial.{total, sum_six, less_of_total}
use Rattle.ct_algebra.specs.Names.{place, place_small, same_place, exp-symbol}
use Rattle.ct_algebra.specs.MonomialLaws.{MonomialsAreExponents, OrderIsGraded}

total-exp : (m : Mono) → total m ≡ exp m 0 + exp m 1 + exp m 2 + exp m 3 + exp m 4 + exp m 5
unfolding total exp
total-exp m = sym (sum_six m.exps m.six)

pub exponents : MonomialsAreExponents
exponents = record {
  same = same_mono;
  of_a_list = exp-mono_of;
  of_one = exp-unit;
  of_a_name = λ i. exp-symbol i (place i) (place_small i) ∙ ap (λ b. cond b 1 0) (eq-eqb (place i) (place i) refl);
  of_another_name = λ i j other.
      exp-symbol i (place j) (place_small j)
      ∙ ap (λ b. cond b 1 0) (ne_eqb (place j) (place i) (λ same. other (sym (same_place j i same))));
  of_a_product = exp-·;
  total_is_the_sum = total-exp;
}

-- lists with one start, of which one goes on with a lower number
first_difference :
    (xs ys : List ℕ) (k : ℕ) → k < length xs → length xs ≡ length ys →
    ((j : ℕ) → j < k → get_or xs j 0 ≡ get_or ys j 0) → get_or xs k 0 < get_or ys k 0 →
    slice_cmp nat_cmp xs ys ≡ Less
first_difference [] ys k within long same less = absurd (omega arith)
first_difference (x ∷ xs) [] k within long same less = absurd (omega arith)
first_difference (x ∷ xs) (y ∷ ys) zero within long same less =
    ap (λ r. ordering_then r (slice_cmp nat_cmp xs ys)) (sym (nat_cmp_is x y Less less))
first_difference (x ∷ xs) (y ∷ ys) (suc k) within long same less =
    ap (λ r. ordering_then r (slice_cmp nat_cmp xs ys)) (sym (nat_cmp_is x y Equal (same 0 (omega arith))))
    ∙ first_difference xs ys k (omega arith) (omega arith) (λ j small. same (suc j) (omega arith)) less

first_exponent :
    (m n : Mono) (k : ℕ) → k < 6 → total m ≡ total n →
    ((j : ℕ) → j < k → exp m j ≡ exp n j) → exp m k < exp n k → mono_cmp m n ≡ Less
unfolding mono_cmp graded total exp
first_exponent m n k small totals same less =
    ap (λ r. ordering_then r (slice_cmp nat_cmp m.exps n.exps)) (sym (nat_cmp_is (sum m.exps) (sum n.exps) Equal totals))
    ∙ first_difference m.exps n.exps k (let six = m.six in omega arith) (m.six ∙ sym n.six) same less

pub graded_order : OrderIsGraded
graded_order = record {
  by_total = less_of_total;
  by_exponent = first_exponent;
  turned = λ m n. mono_cmp_total.antisymm n m;
  tied = mono_tied;
  kept_by_products = mono_ordered.shifted;
}
