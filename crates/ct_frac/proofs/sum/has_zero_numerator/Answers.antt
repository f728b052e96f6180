use Rattle.ct_frac.proofs.Base.{subst, IsTrue, ◌≡◌, ◌↔◌, polys}
use Rattle.ct_frac.proofs.SumLaws.{is_zero_told}
use Rattle.ct_frac.proofs.sum.has_zero_numerator.Goals as goal

pub returns : goal.returns
returns c =
    is_zero_told c.args.f.now.numerator c.is_zero.result
    (subst (λ p. IsTrue c.is_zero.result ↔ (p ≡ polys.zero)) c.numerator.ensures c.is_zero.ensures)
