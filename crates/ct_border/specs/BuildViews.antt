-- What the code's refusals stand for, and which operators `build` takes.
--     build_refusal_of f    the refusal that a call answers, if memory did not run out
--     OperatorFits n g      the coefficients use only the first n names
use Rattle.std.specs.Prelude.{ℕ, None, Some, Option}
use Rattle.std.specs.Option.{option_map}
use Rattle.ct_algebra.specs.Operators.{Operator}
use Rattle.ct_algebra.specs.Terms.{EachTerm}
use Rattle.ct_checked.specs.declared.fault.Fault.TheVariants as faults
use Rattle.ct_module.specs.Fitting.{PolynomialFits}
use Rattle.ct_border.specs.Build.{BuildRefusal, NoStaircase, NotClosed, NotKilled, Overflow}
use Rattle.ct_border.specs.Staircase.{refusal_of}
use Rattle.ct_border.specs.declared.fault.BuildFault.{BuildFault}
use Rattle.ct_border.specs.declared.fault.BuildFault.TheVariants as code

abbrev pub build_refusal_of : BuildFault → Option BuildRefusal
build_refusal_of (code.Stair f) = option_map NoStaircase (refusal_of f)
build_refusal_of (code.NotClosed i j b c one other) = Some (NotClosed i j b c one other)
build_refusal_of (code.NotKilled n image) = Some (NotKilled n image.items)
build_refusal_of (code.Fault (faults.Overflow k)) = Some (Overflow k)
build_refusal_of (code.Fault faults.NoMemory) = None

abbrev pub OperatorFits : ℕ → Operator → Type 0
OperatorFits n g = EachTerm (λ m c. PolynomialFits n c) g.terms
