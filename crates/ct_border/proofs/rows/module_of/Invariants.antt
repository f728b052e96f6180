use Rattle.ct_border.proofs.Base.{◌≡◌, All, actions_of, behind, drop}
use Rattle.ct_checked.specs.Traversal.{checked_each}
use Rattle.ct_border.specs.Build.{checked_rows_of, declared}
use Rattle.ct_border.specs.Known.{IsKnown}
use Rattle.ct_module.specs.Views.{lists_in}
use Rattle.ct_border.proofs.FormModules.{AreLists}
use Rattle.ct_border.proofs.rows.module_of.Given as goal

-- the lists of rows that are made, and the names that are left
abbrev pub invariant-going : goal.invariant-going
invariant-going l = record {
  steps :
      checked_each (checked_rows_of (actions_of l.ideal.algebra.now) l.ideal.generators.now l.ideal.basis.now) (declared l.ideal.algebra.now) ≡
      behind (λ _ i. checked_rows_of (actions_of l.ideal.algebra.now) l.ideal.generators.now l.ideal.basis.now i)
      (lists_in l.rows.items) (drop l.i (declared l.ideal.algebra.now));
  made : AreLists (actions_of l.ideal.algebra.now) l.ideal.generators.now l.ideal.basis.now l.i (lists_in l.rows.items);
  known : All (IsKnown (actions_of l.ideal.algebra.now) l.ideal.generators.now l.ideal.basis.now) l.known.items;
}
