-- What the laws of monomials say; the functions of src/laws.rt prove them.
--     MonomialsAreExponents    equal exponents are equal monomials; exponents of lists, of one, of names and of products
--     OrderIsGraded            by the total, then by the first exponent that differs; products keep the order
-- Totals and exponents say which of two monomials is less; the order is total, and ties are equal.
use Rattle.std.specs.Prelude.{◌≡◌, ◌≢◌, ℕ, ◌+◌, ◌<◌, List, get_or}
use Rattle.std.proofs.Common.{Less, Equal}
use Rattle.std.specs.Ordering.{ordering_reverse}
use Rattle.ct_algebra.specs.Monomial.{Mono, exp, mono_of, ◌·◌, unit, total, mono_cmp}
use Rattle.ct_algebra.specs.Names.{Name, place, symbol}

pub record MonomialsAreExponents : Type 0 where
  pub same : (m n : Mono) → ((k : ℕ) → k < 6 → exp m k ≡ exp n k) → m ≡ n
  pub of_a_list : (xs : List ℕ) (k : ℕ) → k < 6 → exp (mono_of xs) k ≡ get_or xs k 0
  pub of_one : (k : ℕ) → k < 6 → exp unit k ≡ 0
  pub of_a_name : (i : Name) → exp (symbol i) (place i) ≡ 1
  pub of_another_name : (i j : Name) → i ≢ j → exp (symbol i) (place j) ≡ 0
  pub of_a_product : (m n : Mono) (k : ℕ) → k < 6 → exp (m · n) k ≡ exp m k + exp n k
  pub total_is_the_sum : (m : Mono) → total m ≡ exp m 0 + exp m 1 + exp m 2 + exp m 3 + exp m 4 + exp m 5

pub record OrderIsGraded : Type 0 where
  pub by_total : (m n : Mono) → total m < total n → mono_cmp m n ≡ Less
  pub by_exponent :
      (m n : Mono) (k : ℕ) → k < 6 → total m ≡ total n →
      ((j : ℕ) → j < k → exp m j ≡ exp n j) → exp m k < exp n k → mono_cmp m n ≡ Less
  pub turned : (m n : Mono) → mono_cmp n m ≡ ordering_reverse (mono_cmp m n)
  pub tied : (m n : Mono) → mono_cmp m n ≡ Equal → m ≡ n
  pub kept_by_products : (t m n : Mono) → mono_cmp (m · t) (n · t) ≡ mono_cmp m n
