-- The words that proof files here take from std, from the crates below and from the definitions of this one, so that each file has one
-- list of them. What has another meaning elsewhere is named where it is used.
pub use Rattle.std.proofs.Common.{Bool, Equal, Err, Greater, Less, Ok, Result, ap, ap₂, arith, cond, eqb, eqb-true, false, inl, inr, nat_cmp, neg_ℤ}
pub use Rattle.std.proofs.Common.{negsuc, pos, refl, rules, subst, suc, sym, true, unsigned_abs, zero, ℕ, ℤ, ⊎_elim, ◌%◌, ◌&&◌, ◌*ℤ◌, ◌*◌, ◌+ℤ◌, ◌+◌}
pub use Rattle.std.proofs.Common.{◌-ℤ◌, ◌/◌, ◌<ℤ◌, ◌<◌, ◌↔◌, ◌∙◌, ◌≡◌, ◌≢◌, ◌≤ℤ◌, ◌≤◌}
pub use Rattle.std.proofs.Math.Nat.{div-add-mod, div-add-mod', div-le_self, div-mul_cancel, dvd-add_iff_right, dvd-mod_iff, dvd-mul_left}
pub use Rattle.std.proofs.Math.Nat.{dvd-mul_right, dvd-mul_right_of_dvd, dvd_of_mul-dvd-mul_right, eq-zero_of_zero-dvd, le-mul_of_pos_right, mod-lt}
pub use Rattle.std.proofs.Math.Nat.{mul-add, mul-dvd-mul_left, mul-dvd-mul_right, mul-le-mul_right, mul-one, mul-pos, mul-zero, mul_assoc, mul_comm}
pub use Rattle.std.proofs.Math.Nat.{mul_right_comm, one-dvd, one-mul, pos_of_dvd_of_pos, pos_of_ne-zero, zero-mul}
pub use Rattle.std.proofs.lemmas.Int.{ints, to_z-of_z, unsigned_abs-mul}
pub use Rattle.std.proofs.lemmas.Nat.Gcd.{IsGcd-from_mod, IsGcd-from_zero, IsGcd-swap, dvd-zero, dvd_antisymm, dvd_of_mod-eq-zero, dvd_refl}
pub use Rattle.std.proofs.lemmas.Nat.Gcd.{dvd_trans, le_of_dvd, mod-eq-zero_of_dvd, same_from_IsGcd}
pub use Rattle.std.proofs.lemmas.Result.{IfOk-weaker, err_from_is_err_and}
pub use Rattle.std.specs.Cmp.{int_cmp_is, int_ranks, nat_cmp_is}
pub use Rattle.std.specs.Int.{IsGcd, cast_signed, cast_unsigned, w128, ◌∣◌}
pub use Rattle.std.specs.Ordering.{MatchOrdering, int_cmp, ordering_reverse}
pub use Rattle.std.specs.declared.cmp.Ordering.{Ordering}
