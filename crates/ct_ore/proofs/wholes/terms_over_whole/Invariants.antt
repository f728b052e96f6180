use Rattle.ct_ore.proofs.Base.{◌≡◌, ◌++◌, map, length}
use Rattle.ct_ore.specs.Terms.{op_entries}
use Rattle.ct_ore.specs.Wholes.{DividesTerms, entry_over}
use Rattle.ct_ore.proofs.wholes.terms_over_whole.Given as goal

abbrev pub invariant-dividing : goal.invariant-dividing
invariant-dividing l = record {
  made : op_entries l.out.items ++ map (entry_over l.divisor) (op_entries l.rest) ≡ map (entry_over l.divisor) (op_entries l.fn.ops);
  divides : DividesTerms l.divisor (op_entries l.rest);
}

abbrev pub decreases-dividing : goal.decreases-dividing
decreases-dividing l = length l.rest
