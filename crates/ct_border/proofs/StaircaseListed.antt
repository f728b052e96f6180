-- The checked staircase is the staircase: main lemmas `staircase_means` and `answer_means`, cited by `staircase`.
-- A monomial has divisors of each total up to its own, and with it they all remain. So where one of a total over 16 remains, the list
-- has one of each total up to 16, more than it may.
use Rattle.ct_border.proofs.Base.{◌≡◌, ◌≢◌, ℕ, zero, suc, ◌+◌, ◌<◌, ◌≤◌, true, List, [], ◌∷◌, length, length-append, Ok, Err, Result}
use Rattle.ct_border.proofs.Base.{◌>>=◌, both_fit, IfOk, ◌⊎◌, inl, inr, sym, ◌∙◌, ap, subst, arith, Less, AllPairs, AllPairs-filter, Contains}
use Rattle.ct_border.proofs.Base.{Contains-append_cases, filter, filter-append, contains_filter, contains_filter_cases, contains_none, Mono, unit}
use Rattle.ct_border.proofs.Base.{total, ◌·◌}
use Rattle.ct_border.proofs.Base.{·_assoc, ·_comm, ·-unit, total-·, total_unit, total-symbol, mono_cmp, Name, place, symbol, by_symbols, Action}
use Rattle.ct_border.proofs.Base.{Still}
use Rattle.ct_border.proofs.Base.{Operator, IsIrreducible, HasOperators, HasPurePower, IsListingOf, Rises, IsListing, UsesOnly, up_to}
use Rattle.ct_border.proofs.Base.{up_to-listing, below}
use Rattle.ct_border.proofs.Base.{of_total, pairs_head, pairs_tail, irreducible_divisor, operators_divisor}
use Rattle.ct_border.proofs.Base.{AnswersAs}
use Rattle.ct_border.specs.declared.fault.StairFault.{StairFault}
use Rattle.ct_border.specs.Staircase.{refusal_of, operator_numbers, is_left, few, remaining, powers_test, leading_monomials, has_power}
unfoldable use Rattle.ct_border.specs.Staircase.{checked_staircase}
use Rattle.ct_border.specs.StaircaseMeans.{HasStaircase, Remains}
use Rattle.ct_border.proofs.LeadingMonomials.{AreLeading, leading_monomials-lead, all_proper, irreducible_left, left_irreducible}
use Rattle.ct_border.proofs.Powers.{pure_power, powers_test-powers}
use Rattle.ct_border.proofs.NamesWithOperators.{name_with-place, acting, numbers_small, numbers_rise, number_of_acting, uses_operators, operators_use}
use Rattle.ct_border.proofs.FewMonomials.{few_ok}

rises_of_pairs : (ms : List Mono) → AllPairs (λ m n. mono_cmp m n ≡ Less) ms → Rises ms
rises_of_pairs [] pairs = tt
rises_of_pairs (m ∷ ms) pairs = (
  λ n found. subst (λ n. mono_cmp m n ≡ Less) found.2 (pairs_head (λ m n. mono_cmp m n ≡ Less) m ms pairs found.0 n found.1),
  rises_of_pairs ms (pairs_tail (λ m n. mono_cmp m n ≡ Less) m ms pairs),
)

-- ---- divisors

record HasDivisor (t : ℕ) (m : Mono) : Type 0 where
  pub divisor : Mono
  pub quotient : Mono
  pub product : quotient · divisor ≡ m
  pub total_is : total divisor ≡ t

divisors : (m : Mono) (t : ℕ) → t ≤ total m → HasDivisor t m
divisors =
    by_symbols (λ m. (t : ℕ) → t ≤ total m → HasDivisor t m)
    (λ t small. whole unit t (omega (arith, small, total_unit)))
    (λ i m before t small. by i m before t (nearer t (total m) (omega (arith, small, total-· (symbol i) m, total-symbol i))))
  where
    whole : (m : Mono) (t : ℕ) → t ≡ total m → HasDivisor t m
    whole m t is = record { divisor = m; quotient = unit; product = ·_comm unit m ∙ ·-unit m; total_is = sym is }

    nearer : (s n : ℕ) → s ≤ suc n → (s ≡ suc n) ⊎ (s ≤ n)
    nearer s n most = grind arith

    by : (i : Name) (m : Mono) → ((t : ℕ) → t ≤ total m → HasDivisor t m) → (t : ℕ) → (t ≡ suc (total m)) ⊎ (t ≤ total m) →
        HasDivisor t (symbol i · m)
    by i m before t (inl same) = whole (symbol i · m) t (omega (arith, same, total-· (symbol i) m, total-symbol i))
    by i m before t (inr less) =
        let part = before t less in
        record {
          divisor = part.divisor;
          quotient = symbol i · part.quotient;
          product = ·_assoc (symbol i) part.quotient part.divisor ∙ ap (λ n. symbol i · n) part.product;
          total_is = part.total_is;
        }

module _ (a : Name → Action) (gs : List Operator) (ds : List Mono) (lead : AreLeading gs ds) where
  abbrev numbers : List ℕ
  numbers = operator_numbers a

  abbrev list : List Mono
  list = remaining numbers ds

  listing_to : (n : ℕ) → IsListing numbers n (up_to numbers n)
  listing_to n = up_to-listing numbers n (numbers_rise a) (numbers_small a)

  -- ---- one of each total

  low : (t : ℕ) (m : Mono) → Contains (below numbers t) m → total m < t
  low zero m found = absurd (contains_none m found)
  low (suc t) m found =
      let most = subst (λ m. (total m ≤ t) × UsesOnly numbers m) found.2 ((listing_to t).within found.0 m found.1) in
      omega (arith, most.0)

  left_there : (m : Mono) → HasOperators a m → is_left ds m ≡ true → Contains (filter (is_left ds) (of_total numbers (total m))) m
  left_there m has left =
      by (Contains-append_cases (below numbers (total m)) (of_total numbers (total m)) m
      ((listing_to (total m)).complete m (omega arith) (operators_use a m has)))
    where
      by : Contains (below numbers (total m)) m ⊎ Contains (of_total numbers (total m)) m →
          Contains (filter (is_left ds) (of_total numbers (total m))) m
      by (inl early) = absurd (omega (arith, low (total m) m early))
      by (inr here) = contains_filter (is_left ds) (of_total numbers (total m)) m here left

  as_many :
      (n : ℕ) → ((t : ℕ) → t < n → (m : Mono) × Contains (filter (is_left ds) (of_total numbers t)) m) →
      n ≤ length (filter (is_left ds) (below numbers n))
  as_many zero each = omega arith
  as_many (suc n) each =
      let before = as_many n (λ t less. each t (omega (arith, less))) in
      let here = each n (omega arith) in
      let sizes : length (filter (is_left ds) (below numbers (suc n))) ≡
      length (filter (is_left ds) (below numbers n)) + length (filter (is_left ds) (of_total numbers n)) =
      ap length (filter-append (is_left ds) (below numbers n) (of_total numbers n))
      ∙ length-append (filter (is_left ds) (below numbers n)) (filter (is_left ds) (of_total numbers n)) in
      omega (arith, before, here.1.1, sizes)

  total_small : length list ≤ 16 → (m : Mono) → Remains a gs m → total m ≤ 16
  total_small few m (has, irreducible) = by (ordered (total m))
    where
      ordered : (t : ℕ) → (t ≤ 16) ⊎ (17 ≤ t)
      ordered t = grind arith

      each : 17 ≤ total m → (t : ℕ) → t < 17 → (m : Mono) × Contains (filter (is_left ds) (of_total numbers t)) m
      each great t less =
          let part = divisors m t (omega (arith, great, less)) in
          let has_too = operators_divisor a part.quotient part.divisor (subst (HasOperators a) (sym part.product) has) in
          let left = left_irreducible gs ds part.divisor lead
          (irreducible_divisor gs part.quotient part.divisor (subst (IsIrreducible gs) (sym part.product) irreducible)) in (
            part.divisor,
            subst (λ t. Contains (filter (is_left ds) (of_total numbers t)) part.divisor) part.total_is (left_there part.divisor has_too left),
          )

      by : (total m ≤ 16) ⊎ (17 ≤ total m) → total m ≤ 16
      by (inl small) = small
      by (inr great) = absurd (omega (arith, few, as_many 17 (each great)))

  pub rises : Rises list
  rises = rises_of_pairs list (AllPairs-filter (λ m n. mono_cmp m n ≡ Less) (is_left ds) (up_to numbers 16) (listing_to 16).rises)

  pub sound : (m : Mono) → Contains list m → Remains a gs m
  sound m found =
      let part = contains_filter_cases (is_left ds) (up_to numbers 16) m found in
      let uses = subst (λ m. (total m ≤ 16) × UsesOnly numbers m) part.0.2 ((listing_to 16).within part.0.0 m part.0.1) in
      (uses_operators a m uses.1, irreducible_left gs ds m lead part.1)

  pub listing : length list ≤ 16 → IsListingOf (Remains a gs) list
  listing few = record {
    rises = rises;
    sound = sound;
    complete = λ m remains.
        contains_filter (is_left ds) (up_to numbers 16) m
        ((listing_to 16).complete m (total_small few m remains) (operators_use a m remains.0)) (left_irreducible gs ds m lead remains.1);
  }

  pub finite : powers_test ds numbers ≡ Ok tt → (i : Name) → a i ≢ Still → HasPurePower gs i
  finite passes i other =
      pure_power gs ds i lead
      (ap (has_power ds) (sym (name_with-place i)) ∙ powers_test-powers ds numbers passes (place i) (number_of_acting a i (acting (a i) other)))

pub staircase_means :
    (a : Name → Action) (gs : List Operator) (ms : List Mono) → checked_staircase a gs ≡ Ok ms → HasStaircase a gs ms
unfolding checked_staircase
staircase_means a gs ms passes =
    let first = both_fit (leading_monomials gs)
    (λ ds. powers_test ds (operator_numbers a) >>= (λ _. few (remaining (operator_numbers a) ds))) ms passes in
    let second = both_fit (powers_test first.value (operator_numbers a)) (λ _. few (remaining (operator_numbers a) first.value)) ms first.rest in
    let lead = leading_monomials-lead gs first.value first.first in
    let small = few_ok (remaining (operator_numbers a) first.value) ms second.rest in
    subst (HasStaircase a gs) small.is (record {
      proper = all_proper gs first.value lead;
      finite = finite a gs first.value lead second.first;
      listing = listing a gs first.value lead small.within;
      few = small.within;
    })

-- what the code's steps come to
pub staircase_steps :
    (a : Name → Action) (gs : List Operator) (ds : List Mono) (is : List ℕ) → leading_monomials gs ≡ Ok ds → is ≡ operator_numbers a →
    powers_test ds is ≡ Ok tt → checked_staircase a gs ≡ few (remaining is ds)
unfolding checked_staircase
staircase_steps a gs ds is leads names passes =
    ap (λ c. c >>= (λ ds. powers_test ds (operator_numbers a) >>= (λ _. few (remaining (operator_numbers a) ds)))) leads
    ∙ ap (λ is. powers_test ds is >>= (λ _. few (remaining is ds))) (sym names)
    ∙ ap (λ c. c >>= (λ _. few (remaining is ds))) passes

pub answer_means :
    {B : Type 0} (a : Name → Action) (gs : List Operator) (r : Result B StairFault) (f : B → List Mono) →
    AnswersAs refusal_of f (checked_staircase a gs) r → IfOk r (λ v. HasStaircase a gs (f v))
answer_means a gs (Ok v) f answers = staircase_means a gs (f v) answers
answer_means a gs (Err fault) f answers = tt
