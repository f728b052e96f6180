-- What the code's refusals, and the values that it makes, stand for.
--     of_expression f, of_test f     the refusal that a fault of an expression, or of a test, is
--     setup_refusal_of f             the refusal that a call answers, if memory did not run out
--     IsSetupFault f                 what it tells of a list is a test that failed, and neither an overflow nor want of memory
--     IsOfLines f                    it tells of no list
--     prepared_of r, plain_of r      the code's values
use Rattle.std.specs.Prelude.{Some, None}
use Rattle.std.proofs.Common.{Option}
use Rattle.std.specs.Option.{option_map}
use Rattle.ct_border.specs.BuildViews.{build_refusal_of}
use Rattle.ct_border.specs.declared.fault.BuildFault.{BuildFault}
use Rattle.ct_border.specs.declared.fault.BuildFault.TheVariants as build
use Rattle.ct_border.specs.declared.fault.StairFault.TheVariants as stair
use Rattle.ct_checked.specs.declared.fault.Fault.{Fault}
use Rattle.ct_checked.specs.declared.fault.Fault.TheVariants as faults
use Rattle.ct_setup.specs.Setup.{Plain, Prepared, SetupRefusal, Overflow, Unbuilt, ZeroDen}
use Rattle.ct_setup.specs.declared.fault.SetupFault.{SetupFault}
use Rattle.ct_setup.specs.declared.fault.SetupFault.TheVariants as code
use Rattle.ct_setup.specs.declared.fault.SetupPhase.TheVariants.{Input, Test}
use Rattle.ct_setup.specs.declared.plain.PlainReady.{PlainReady}
use Rattle.ct_setup.specs.declared.preparation.Ready.{Ready}

abbrev pub of_expression : Fault → SetupFault
of_expression (faults.Overflow kind) = code.Overflow Input kind
of_expression faults.NoMemory = code.NoMemory

abbrev pub of_test : Fault → SetupFault
of_test (faults.Overflow kind) = code.Overflow Test kind
of_test faults.NoMemory = code.NoMemory

abbrev pub setup_refusal_of : SetupFault → Option SetupRefusal
setup_refusal_of (code.ZeroDen i) = Some (ZeroDen i)
setup_refusal_of (code.Build named fault) = option_map (Unbuilt named) (build_refusal_of fault)
setup_refusal_of (code.Overflow phase kind) = Some (Overflow phase kind)
setup_refusal_of code.NoMemory = None

abbrev pub IsFailedTest : BuildFault → Type 0
IsFailedTest (build.Stair (stair.ZeroGenerator n)) = Unit {0}
IsFailedTest (build.Stair (stair.Trivial n)) = Unit {0}
IsFailedTest (build.Stair (stair.NotFinite i)) = Unit {0}
IsFailedTest (build.Stair (stair.Fault f)) = ⊥
IsFailedTest (build.NotClosed i j b c one other) = Unit {0}
IsFailedTest (build.NotKilled n image) = Unit {0}
IsFailedTest (build.Fault f) = ⊥

abbrev pub IsSetupFault : SetupFault → Type 0
IsSetupFault (code.ZeroDen i) = Unit {0}
IsSetupFault (code.Build named fault) = IsFailedTest fault
IsSetupFault (code.Overflow phase kind) = Unit {0}
IsSetupFault code.NoMemory = Unit {0}

abbrev pub IsOfLines : SetupFault → Type 0
IsOfLines (code.ZeroDen i) = Unit {0}
IsOfLines (code.Build named fault) = ⊥
IsOfLines (code.Overflow phase kind) = Unit {0}
IsOfLines code.NoMemory = Unit {0}

abbrev pub prepared_of : Ready → Prepared
prepared_of r = record { setting = r.setting; generators = r.generators.items; targets = r.targets.items }

abbrev pub plain_of : PlainReady → Plain
plain_of r = record { generators = r.generators.items; targets = r.targets.items }
