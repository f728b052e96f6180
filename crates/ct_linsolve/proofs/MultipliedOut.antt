-- Rows that are multiplied out are the sums of the products: main lemma `products_are`, which `multiply_out` cites.
use Rattle.ct_linsolve.proofs.Base.{◌≡◌, refl, ℕ, zero, suc, ◌+◌, Ok, List, [], ◌∷◌, length, sym, ◌∙◌, ap, arith, range_with_len}
use Rattle.ct_linsolve.proofs.Base.{get_or-range_with_len, length-range_with_len, Polynomial, polys, plus, plus_is, times, both_fit, verdict_ok}
use Rattle.ct_linsolve.proofs.Base.{checked_fold, each_length, checked_plus, checked_times, product_overflow, sum_overflow, matrix_of}
use Rattle.ct_algebra.specs.RangeSum.{sum_below}
use Rattle.ct_linsolve.specs.EchelonForm.{AreProducts}
use Rattle.ct_linsolve.specs.Products.{plus_product, with_product, checked_entry, checked_product, checked_products}
use Rattle.ct_linsolve.specs.Rows.{Row, entry, row_at}
use Rattle.ct_linsolve.proofs.FromZero.{each_at}

plus_is_exact : (sum x y r : Polynomial) → plus_product sum x y ≡ Ok r → polys.◌+◌ sum (polys.◌*◌ x y) ≡ r
unfolding checked_plus checked_times times
plus_is_exact sum x y r fits =
    let both = both_fit (checked_times x y) (λ p. checked_plus sum p) r fits in
    sym (plus_is sum _) ∙ ap (plus sum) (verdict_ok (product_overflow x y) _ _ both.first) ∙ verdict_ok (sum_overflow sum both.value) _ _ both.rest

module _ (rows : List Row) (u : Row) (c : ℕ) where
  abbrev product_at : ℕ → Polynomial
  product_at k = polys.◌*◌ (entry u k) (entry (row_at rows k) c)

  summed :
      (n k : ℕ) (sum r : Polynomial) → sum ≡ sum_below polys.group k product_at →
      checked_fold (with_product rows u c) sum (range_with_len k n) ≡ Ok r → sum_below polys.group (k + n) product_at ≡ r
  summed zero k sum r is fits =
      let same : sum ≡ r = cc in ap (λ m. sum_below polys.group m product_at) (let same : k + 0 ≡ k = omega arith in same) ∙ sym is ∙ same
  summed (suc n) k sum r is fits =
      let both = both_fit (with_product rows u c sum k) (λ t. checked_fold (with_product rows u c) t (range_with_len (k + 1) n)) r fits in
      let next : k + suc n ≡ k + 1 + n = omega arith in
      ap (λ m. sum_below polys.group m product_at) next
      ∙ summed n (k + 1) both.value r
      (sym (plus_is_exact sum (entry u k) (entry (row_at rows k) c) both.value both.first) ∙ ap (λ s. polys.◌+◌ s (product_at k)) is
      ∙ ap (λ m. sum_below polys.group m product_at) (let next : suc k ≡ k + 1 = omega arith in next)) both.rest

  entry_is : (r : Polynomial) → checked_entry rows u c ≡ Ok r → sum_below polys.group (length rows) product_at ≡ r
  entry_is r fits =
      ap (λ m. sum_below polys.group m product_at) (let same : length rows ≡ 0 + length rows = omega arith in same)
      ∙ summed (length rows) 0 polys.zero r refl fits

pub none_left : {X : Type 0} (xs : List X) → length xs ≡ 0 → xs ≡ []
none_left [] empty = refl
none_left (x ∷ xs) empty = absurd (omega (arith, empty))

pub products_are :
    (n width : ℕ) (rows us vs : List Row) → length rows ≡ n → checked_products width rows us ≡ Ok vs →
    AreProducts n width (matrix_of polys.zero rows) us vs
products_are n width rows us vs many fits = record {
  lengths = each_length (λ _ u. checked_product width rows u) 1 us vs fits;
  gives = λ r small c within.
      let whole : checked_product width rows (row_at us r) ≡ Ok (row_at vs r) =
      each_at (λ _ u. checked_product width rows u) 1 us vs fits r [] [] small in
      let one : checked_entry rows (row_at us r) c ≡ Ok (entry (row_at vs r) c) =
      ap (checked_entry rows (row_at us r)) (sym (get_or-range_with_len 0 width c 0 within ∙ (let same : 0 + c ≡ c = omega arith in same)))
      ∙ each_at (λ _ c. checked_entry rows (row_at us r) c) 1 (range_with_len 0 width) (row_at vs r) whole c 0 polys.zero
      (omega (arith, within, length-range_with_len 0 width)) in
      ap (λ m. sum_below polys.group m (λ k. polys.◌*◌ (matrix_of polys.zero us r k) (matrix_of polys.zero rows k c))) (sym many)
      ∙ entry_is rows (row_at us r) c (entry (row_at vs r) c) one;
}
