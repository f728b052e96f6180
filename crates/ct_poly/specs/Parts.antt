-- The terms of a coefficient of a polynomial, in some of the names.
--     term_list_in js e d      the term d without the names js, where its part in them is e; else nothing
--     terms_in js e es         these terms of a list, in order
-- Cited by `Poly::part`, whose answer is `coefficient_in` of the algebra; each falling list gives one.
use Rattle.std.specs.Prelude.{ℤ, List, [], ◌∷◌, ◌++◌}
use Rattle.ct_algebra.specs.Coefficients.{inside, outside}
use Rattle.ct_algebra.specs.Monomial.{Mono, mono_cmp}
use Rattle.ct_algebra.specs.Names.{Name}
use Rattle.ct_algebra.specs.Terms.{by_order}

abbrev pub term_list_in : List Name → Mono → Mono × ℤ → List (Mono × ℤ)
term_list_in js e d = by_order (mono_cmp (inside js d.0) e) [] ((outside js d.0, d.1) ∷ []) []

abbrev pub terms_in : List Name → Mono → List (Mono × ℤ) → List (Mono × ℤ)
terms_in js e [] = []
terms_in js e (d ∷ es) = term_list_in js e d ++ terms_in js e es
