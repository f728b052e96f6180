use Rattle.ct_ore.proofs.Base.{subst}
use Rattle.ct_ore.specs.Wholes.{IsCommonDivisor}
use Rattle.ct_ore.proofs.WholeDivisors.{common_only}
use Rattle.ct_ore.proofs.op.Op.common_divisor.Goals as goal

pub returns : goal.returns
returns c =
    common_only c.args.self.now c.args.n c.requires c.common_divisor_of_terms.result
    (subst (λ es. IsCommonDivisor es c.args.n c.common_divisor_of_terms.result) c.terms.ensures c.common_divisor_of_terms.ensures)
