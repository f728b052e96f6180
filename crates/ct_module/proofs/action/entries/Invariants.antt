use Rattle.ct_module.proofs.Base.{◌≡◌, ◌<◌, ◌-◌, ℕ, length, name_with, Name, behind, range_with_len}
use Rattle.ct_algebra.specs.Actions.{Action}
use Rattle.ct_module.specs.Action.{checked_entry, checked_action}
use Rattle.ct_module.specs.Values.{values, acted_entry}
use Rattle.ct_module.specs.Views.{rows_in}
use Rattle.ct_ore.specs.Naming.{action_of}
use Rattle.ct_module.proofs.action.entries.Given as goal

-- what is made, and the entries that are left
abbrev pub invariant-going : goal.invariant-going
invariant-going l = record {
  steps :
      checked_action (action_of l.action) (name_with l.i) (rows_in l.rows) l.v ≡
      behind (λ _ c. checked_entry (action_of l.action) (name_with l.i) (rows_in l.rows) l.v c) l.made.items
      (range_with_len l.element (length l.v - l.element));
  many : length l.made.items ≡ l.element;
  made :
      (a : Name → Action) → a (name_with l.i) ≡ action_of l.action → (c : ℕ) → c < length l.made.items →
      values l.made.items c ≡ acted_entry a (name_with l.i) l.v (rows_in l.rows) c;
}
