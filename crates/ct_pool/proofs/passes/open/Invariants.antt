use Rattle.ct_pool.proofs.Base.{◌≡◌, []}
use Rattle.ct_pool.specs.Passes.{passes_of}
use Rattle.ct_pool.proofs.passes.open.Given as goal

abbrev pub invariant-loop-number : goal.invariant-loop-number
invariant-loop-number l = record {
  count : l.claims-inside.count ≡ l.count;
  root : l.root ≡ record { count = l.count; made = l.number; joined = []; table = l.claims-inside.table.shared.table_id };
  passes : l.passes.items ≡ passes_of l.claims-inside.table.shared.table_id l.number;
}
