-- The test for polynomials and operators without some names.
--     lacks j m                 the monomial m has exponent 0 at the name j
--     polynomial_lacks j p      no term of p contains j
--     operator_lacks js p       no coefficient of p contains a name of js, and no monomial its symbol
-- Lemma `operator_lacks-free` in proofs/Passing: the test decides `OperatorIsFreeOf`.
use Rattle.std.specs.Prelude.{Bool, true, ◌&&◌, eqb, List, [], ◌∷◌, ℤ}
use Rattle.ct_algebra.specs.Monomial.{Mono, exp}
use Rattle.ct_algebra.specs.Names.{Name, place}
use Rattle.ct_algebra.specs.Polynomial.{Polynomial}
use Rattle.ct_algebra.specs.Operators.{Operator}

abbrev pub each_passes : {X : Type 0} → (X → Bool) → List X → Bool
each_passes test [] = true
each_passes test (x ∷ xs) = test x && each_passes test xs

abbrev pub lacks : Name → Mono → Bool
lacks j m = eqb (exp m (place j)) 0

abbrev pub polynomial_lacks : Name → Polynomial → Bool
polynomial_lacks j p = each_passes (λ (e : Mono × ℤ). lacks j e.0) p.terms

abbrev pub term_lacks : List Name → Mono → Polynomial → Bool
term_lacks js m c = each_passes (λ j. lacks j m && polynomial_lacks j c) js

abbrev pub operator_lacks : List Name → Operator → Bool
operator_lacks js p = each_passes (λ (e : Mono × Polynomial). term_lacks js e.0 e.1) p.terms
