-- What the answers and the refusals of `prepare` mean.
--     IsPrepared p s        the names are those of the problem; the generators and the targets are the values of its lines; of each name what
--                           its `den` line comes to; and the generators are tested, with this module
--     IsUntested a gs r     where a test of the generators failed, what the refusal says of them holds, and they aren't tested
--     IsRefusedSetup p r    the same of the values of the `gen` lines
use Rattle.std.specs.Prelude.{◌≡◌, List, Ok}
use Rattle.ct_algebra.specs.Actions.{Action}
use Rattle.ct_algebra.specs.Names.{Name}
use Rattle.ct_algebra.specs.Operators.{Operator}
use Rattle.ct_border.specs.BuildMeans.{IsRefusedRightly}
use Rattle.ct_module.specs.Tested.{IsTestedModule}
use Rattle.ct_ore.specs.Naming.{actions_of}
use Rattle.ct_problem.specs.ReadProblem.{Reading}
use Rattle.ct_setup.specs.Setup.{Prepared, SetupRefusal, Overflow, Unbuilt, ZeroDen, checked_dens, checked_values, listed}

pub record IsPrepared (p : Reading) (s : Prepared) : Type 0 where
  pub names : s.setting.names ≡ p.variables
  pub generators : checked_values (actions_of p.variables) (listed p.generators) ≡ Ok s.generators
  pub dens : checked_dens (actions_of p.variables) p.dens ≡ Ok s.setting.dens
  pub targets : checked_values (actions_of p.variables) p.targets ≡ Ok s.targets
  pub tested : IsTestedModule p.variables s.generators s.setting.space

abbrev pub IsUntested : (Name → Action) → List Operator → SetupRefusal → Type 0
IsUntested a generators (ZeroDen i) = Unit {0}
IsUntested a generators (Unbuilt named r) = IsRefusedRightly a generators r
IsUntested a generators (Overflow phase kind) = Unit {0}

abbrev pub IsRefusedSetup : Reading → SetupRefusal → Type 0
IsRefusedSetup p r =
    (generators : List Operator) → checked_values (actions_of p.variables) (listed p.generators) ≡ Ok generators →
    IsUntested (actions_of p.variables) generators r
