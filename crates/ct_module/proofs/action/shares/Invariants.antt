use Rattle.ct_module.proofs.Base.{◌≡◌, ◌<◌, length, name_with, Name, field}
use Rattle.std.specs.List.{All, zip}
use Rattle.ct_algebra.specs.Actions.{Action}
use Rattle.ct_checked.specs.Traversal.{checked_fold}
use Rattle.ct_frac.specs.Written.{value}
use Rattle.ct_module.specs.Action.{checked_share, entries_at}
use Rattle.ct_module.specs.Modules.{written_zero}
use Rattle.ct_module.specs.Values.{moved_sum}
use Rattle.ct_module.specs.Views.{rows_in}
use Rattle.ct_ore.specs.Naming.{action_of}
use Rattle.ct_module.proofs.action.shares.Given as goal

-- the shares that are left, added to the sum so far, are the whole: as steps and by value
abbrev pub invariant-adding : goal.invariant-adding
invariant-adding l = record {
  left :
      checked_fold (checked_share (action_of l.action) (name_with l.i)) l.sum (zip l.left (entries_at l.element (rows_in l.rest))) ≡
      checked_fold (checked_share (action_of l.action) (name_with l.i)) written_zero (zip l.fn.v (entries_at l.element (rows_in l.fn.rows)));
  filled : All (λ row. l.element < length row.items) l.rest;
  values :
      (a : Name → Action) → a (name_with l.i) ≡ action_of l.action →
      field.◌+◌ (value l.sum) (moved_sum a (name_with l.i) l.left (rows_in l.rest) l.element) ≡
      moved_sum a (name_with l.i) l.fn.v (rows_in l.fn.rows) l.element;
}

abbrev pub decreases-adding : goal.decreases-adding
decreases-adding l = length l.left
