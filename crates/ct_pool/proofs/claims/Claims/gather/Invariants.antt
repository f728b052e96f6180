use Rattle.ct_pool.proofs.Base.{◌≡◌, ◌++◌, ◌+◌, length, vec_len, map, reverse, All}
use Rattle.ct_pool.proofs.claims.Claims.gather.Given as goal

abbrev pub invariant-loop-pass : goal.invariant-loop-pass
invariant-loop-pass l = record {
  root : (l.root.table ≡ l.self.table) × (l.root.count ≡ l.self.count) × (l.root.made ≡ vec_len l.fn.passes);
  joined : l.root.joined ++ map (λ p. p.sight) (reverse l.passes.items) ≡ map (λ p. p.sight) l.fn.passes.items;
  size : length l.root.joined + vec_len l.passes ≡ vec_len l.fn.passes;
  fits : All (λ p. p.table ≡ l.self.table) l.passes.items;
}

abbrev pub decreases-loop-pass : goal.decreases-loop-pass
decreases-loop-pass l = vec_len l.passes
