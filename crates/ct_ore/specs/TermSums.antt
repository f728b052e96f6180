-- What a sum of operators asks of their lists of terms.
--     entries_count es, entries_norm es     how many coefficient terms they have, and the sum of their absolute values
--     CanAdd es fs                          the terms of two operators with room for their sum
--     negatives es                          the terms with the other signs
use Rattle.std.specs.Prelude.{ℕ, ◌+◌, ◌≤◌, List, map, sum_by}
use Rattle.ct_algebra.specs.Monomial.{Mono, monomials}
use Rattle.ct_algebra.specs.Polynomial.{Polynomial, polys, count, norm}
use Rattle.ct_algebra.specs.Terms.{IsCanonical}
use Rattle.ct_checked.specs.Limits.{most_terms, largest_norm}

abbrev pub entries_count : List (Mono × Polynomial) → ℕ
entries_count es = sum_by (λ e. count e.1) es

abbrev pub entries_norm : List (Mono × Polynomial) → ℕ
entries_norm es = sum_by (λ e. norm e.1) es

pub record CanAdd (es fs : List (Mono × Polynomial)) : Type 0 where
  pub first : IsCanonical monomials polys.group es
  pub second : IsCanonical monomials polys.group fs
  pub few : entries_count es + entries_count fs ≤ most_terms
  pub small : entries_norm es + entries_norm fs ≤ largest_norm

abbrev pub negatives : List (Mono × Polynomial) → List (Mono × Polynomial)
negatives es = map (λ e. (e.0, polys.neg e.1)) es
