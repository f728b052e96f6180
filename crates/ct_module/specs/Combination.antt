-- Sums of vectors with coefficients, and what an operator makes of a vector, in checked arithmetic (this project's own rules).
--     checked_with q sum v       for each entry the product of q with that of v, and at once the sum
--     checked_combination vector d ts     from zero, over the terms in order: the vector of the key, then the sum with its entries times
--                                the coefficient
--     checked_image ns m v p     the same over the terms of p, falling, each coefficient as a whole fraction, with the vectors that the
--                                symbols of the monomials make of v
-- By value this is `combined` of ct_telescoping over those vectors: clause `means` of `image`. Which vectors belong to the keys is left
-- open, since normal forms are sums of this kind too.
use Rattle.std.specs.Prelude.{ℕ, List, map, replicate}
use Rattle.std.specs.List.{zip}
use Rattle.ct_algebra.specs.Monomial.{Mono}
use Rattle.ct_algebra.specs.Operators.{Operator}
use Rattle.ct_algebra.specs.Polynomial.{Polynomial}
use Rattle.ct_checked.specs.Checked.{Checked, ◌>>=◌}
use Rattle.ct_checked.specs.Traversal.{checked_fold, checked_each}
use Rattle.ct_frac.specs.Arithmetic.{checked_fraction_sum, checked_fraction_product}
use Rattle.ct_frac.specs.Written.{Written, whole_polynomial}
use Rattle.ct_ore.specs.Naming.{Naming}
use Rattle.ct_module.specs.Columns.{checked_free_column}
use Rattle.ct_module.specs.Modules.{WrittenModule, dimension, written_zero}

abbrev pub checked_with_entry : Written → Written × Written → Checked Written
checked_with_entry q p = checked_fraction_product q p.1 >>= (λ product. checked_fraction_sum p.0 product)

abbrev pub checked_with : Written → List Written → List Written → Checked (List Written)
checked_with q sum v = checked_each (checked_with_entry q) (zip sum v)

abbrev pub checked_term : {X : Type 0} → (X → Checked (List Written)) → List Written → X × Written → Checked (List Written)
checked_term vector sum t = vector t.0 >>= (λ v. checked_with t.1 sum v)

abbrev pub checked_combination : {X : Type 0} → (X → Checked (List Written)) → ℕ → List (X × Written) → Checked (List Written)
checked_combination vector d ts = checked_fold (checked_term vector) (replicate d written_zero) ts

abbrev pub whole_terms : List (Mono × Polynomial) → List (Mono × Written)
whole_terms ts = map (λ t. (t.0, whole_polynomial t.1)) ts

unfoldable pub checked_image : List Naming → WrittenModule → List Written → Operator → Checked (List Written)
checked_image ns m v p = checked_combination (checked_free_column ns m v) (dimension m) (whole_terms p.terms)
