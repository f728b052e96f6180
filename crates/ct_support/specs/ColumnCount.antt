-- How many columns the attempt at a support has.
--     monomial_count n k                     how many monomials in n names have a total of at most k
--     column_count free summed dimension s   one for each summed name, element of the staircase and monomial in the summed names of
--                                            total at most the degree; and one for each monomial in the free names of total at most
--                                            the order
-- Laws `monomials_are_counted` and `columns_are_counted` say that these are the lengths of the lists.
use Rattle.std.specs.Prelude.{ℕ, zero, suc, ◌+◌, ◌*◌}
use Rattle.ct_support.specs.declared.shape.Support.{Support}

-- with one more name: those without it, and it times those of a total one less
abbrev pub with_name : (ℕ → ℕ) → ℕ → ℕ
with_name without zero = 1
with_name without (suc k) = without (suc k) + with_name without k

-- without names, 1 alone
abbrev pub monomial_count : ℕ → ℕ → ℕ
monomial_count zero k = 1
monomial_count (suc n) k = with_name (monomial_count n) k

abbrev pub column_count : (free summed dimension : ℕ) → Support → ℕ
column_count free summed dimension s = summed * (dimension * monomial_count summed s.degree) + monomial_count free s.order
