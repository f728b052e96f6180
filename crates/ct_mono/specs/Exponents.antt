-- Monomials with one exponent changed.
--     with_exponent i e m    m with the exponent e at the name with the place i
use Rattle.std.specs.Prelude.{ℕ, cond, eqb}
use Rattle.ct_algebra.specs.Monomial.{Mono, exp, mono}

unfoldable pub with_exponent : ℕ → ℕ → Mono → Mono
with_exponent i e m = mono (λ k. cond (eqb k i) e (exp m k))
