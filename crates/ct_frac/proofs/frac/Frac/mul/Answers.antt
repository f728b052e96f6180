use Rattle.ct_frac.specs.Arithmetic.{checked_fraction_product}
use Rattle.ct_frac.proofs.SumLaws.{answers_ok, product-value}
use Rattle.ct_frac.proofs.frac.Frac.mul.Goals as goal

pub returns-clause-value : goal.returns-clause-value
returns-clause-value c =
    answers_ok (checked_fraction_product c.args.self.now c.args.other.now) c.product.result _ c.product.ensures
    (λ r made. product-value c.args.self.now c.args.other.now r c.in_written_form.ensures c.in_written_form-2.ensures made)
