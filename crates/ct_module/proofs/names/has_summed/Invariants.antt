use Rattle.ct_module.proofs.Base.{◌≡◌, ◌+◌, ◌≤◌, length, list_any}
use Rattle.ct_frac.specs.Symbols.{has_name}
use Rattle.ct_ore.specs.AllNames.{number_of_names}
use Rattle.ct_ore.specs.Naming.{namings_of, summed_from}
use Rattle.ct_module.specs.Columns.{has_summed}
use Rattle.ct_module.proofs.names.has_summed.Given as goal

abbrev pub invariant-seeking : goal.invariant-seeking
invariant-seeking l =
    (has_summed l.algebra l.fn.p ≡ list_any (λ j. has_name j l.fn.p) (summed_from l.i (namings_of l.rest)))
    × (l.i + length l.rest ≤ number_of_names)

abbrev pub decreases-seeking : goal.decreases-seeking
decreases-seeking l = length l.rest
