-- The limits of checked arithmetic (this project's own).
--     largest_degree    of the total of a monomial, and of the degree of a product
--     most_terms        of a sum or a product, before terms are gathered
--     largest_norm      of a polynomial's norm, and so of each coefficient: 2^127 - 1
use Rattle.std.specs.Prelude.{ℕ}

abbrev pub largest_degree : ℕ
largest_degree = 4095

abbrev pub most_terms : ℕ
most_terms = 1048576

abbrev pub largest_norm : ℕ
largest_norm = 170141183460469231731687303715884105727
