use Rattle.ct_ore.proofs.Base.{◌≤◌, subst, most_terms, largest_norm}
use Rattle.ct_ore.specs.Measures.{term_count, term_norm}
use Rattle.ct_ore.proofs.op.Op.within_limits.Goals as goal

pub returns : goal.returns
returns c = record {
  few = subst (λ p. term_count p ≤ most_terms) c.self.view_is c.self.invariant.1;
  small = subst (λ p. term_norm p ≤ largest_norm) c.self.view_is c.self.invariant.2;
}
