use Rattle.ct_border.proofs.Base.{◌≡◌, ◌·◌, All, actions_of, behind, drop, name_with, symbol}
use Rattle.ct_border.specs.Build.{checked_form, checked_moved_elements}
use Rattle.ct_border.specs.Known.{IsKnown}
use Rattle.ct_border.specs.Modules.{AreMovedElements}
use Rattle.ct_module.specs.Views.{rows_in}
use Rattle.ct_border.proofs.rows.moved_elements.Given as goal

-- the rows that are made, and the elements that are left
abbrev pub invariant-going : goal.invariant-going
invariant-going l = record {
  steps :
      checked_moved_elements (actions_of l.ideal.algebra.now) l.ideal.generators.now l.ideal.basis.now (name_with l.i) ≡
      behind (λ _ e. checked_form (actions_of l.ideal.algebra.now) l.ideal.generators.now l.ideal.basis.now (symbol (name_with l.i) · e))
      (rows_in l.rows.items) (drop l.b l.ideal.basis.now);
  made : AreMovedElements (actions_of l.ideal.algebra.now) l.ideal.generators.now l.ideal.basis.now (name_with l.i) l.b (rows_in l.rows.items);
  known : All (IsKnown (actions_of l.ideal.algebra.now) l.ideal.generators.now l.ideal.basis.now) l.known.items;
}
