-- The test for equal monomials.
--     mono_eq m n     the exponents are equal; law `mono_eq_decides`
-- Cited by `==` of monomials.
use Rattle.std.specs.Prelude.{◌≡◌, Bool, nat_eq}
use Rattle.std.proofs.Common.{ap}
use Rattle.std.specs.Bool.{Decides}
use Rattle.std.specs.Cmp.{IsEquivalence, on_equiv}
use Rattle.std.specs.Cmp.Lexicographic.{pointwise, bytes_decides, nat_list_eq_equiv}
use Rattle.std.specs.Ordering.{on}
use Rattle.ct_algebra.specs.Monomial.{Mono, same_exps}

abbrev pub mono_eq : Mono → Mono → Bool
mono_eq = on (λ m. m.exps) (pointwise nat_eq)

pub mono_eq_decides : (m n : Mono) → Decides (mono_eq m n) (m ≡ n)
mono_eq_decides m n = (
  λ equal. same_exps m n ((bytes_decides m.exps n.exps).0 equal),
  λ same. (bytes_decides m.exps n.exps).1
      (ap (λ m. m.exps) same),
)

pub mono_eq_equiv : IsEquivalence mono_eq
mono_eq_equiv = on_equiv (λ (m : Mono). m.exps) nat_list_eq_equiv
