use Rattle.ct_border.proofs.Base.{◌≡◌, polys, subst, sym}
use Rattle.std.proofs.Common.{IsTrue, ◌↔◌}
use Rattle.ct_frac.proofs.SumLaws.{is_zero_told}
use Rattle.ct_border.proofs.ZeroImages.{zero_value}
use Rattle.ct_border.proofs.killed.is_zero.Goals as goal

pub returns-clause-steps : goal.returns-clause-steps
returns-clause-steps c =
    sym (is_zero_told c.args.f.now.numerator c.is_zero.result
    (subst (λ p. IsTrue c.is_zero.result ↔ (p ≡ polys.zero)) c.numerator.ensures c.is_zero.ensures))

pub returns-clause-means : goal.returns-clause-means
returns-clause-means c =
    let told = subst (λ p. IsTrue c.is_zero.result ↔ (p ≡ polys.zero)) c.numerator.ensures c.is_zero.ensures in
    let by_value = zero_value c.args.f.now c.in_written_form.ensures in
    (λ yes. by_value.0 (told.0 yes), λ zero. told.1 (by_value.1 zero))
