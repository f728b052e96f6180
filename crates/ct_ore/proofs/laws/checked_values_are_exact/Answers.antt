use Rattle.ct_ore.proofs.CheckedValues.{checked_values}
use Rattle.ct_ore.proofs.laws.checked_values_are_exact.Goals as goal

pub returns : goal.returns
returns c = checked_values
