use Rattle.std.proofs.Common.{◌≡◌, ◌∙◌, ap, arith, length, set, length-set, sym}
use Rattle.ct_algebra.specs.Monomial.{total, mono_of, total-mono_of}
use Rattle.ct_mono.specs.Exponents.{with_exponent}
use Rattle.ct_mono.proofs.ExponentLaws.{mono_of-set, total-with_exponent}
use Rattle.ct_mono.proofs.monomial.Monomial.with_exp.Goals as goal

pub invariant_of-result : goal.invariant_of-result
invariant_of-result c =
    let six : length (set c.self.inside.exps c.args.i c.args.e) ≡ 6 = length-set c.self.inside.exps c.args.i c.args.e ∙ c.self.invariant.0 in
    let is : mono_of (set c.self.inside.exps c.args.i c.args.e) ≡ with_exponent c.args.i c.args.e c.args.self.now =
    mono_of-set c.self.inside.exps c.args.i c.args.e c.self.invariant.0 c.requires.known c.self.view_is in (
      six,
      omega (
        arith,
        c.requires.within,
        sym (total-mono_of (set c.self.inside.exps c.args.i c.args.e) six),
        ap total is,
        total-with_exponent c.args.i c.args.e c.args.self.now c.requires.known,
      ),
    )

pub returns : goal.returns
returns c = mono_of-set c.self.inside.exps c.args.i c.args.e c.self.invariant.0 c.requires.known c.self.view_is
