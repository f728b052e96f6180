-- The list of supports: main lemmas `count_is` (its length), `none_past` and `some_at` (what stands at an index, by quotient and
-- remainder) and `numbered`, the law.
use Rattle.ct_support.proofs.Base.{◌≡◌, ℕ, zero, suc, ◌+◌, ◌-◌, ◌*◌, ◌/◌, ◌%◌, ◌<◌, ◌≤◌, length, get_or, ◌⊎◌, inl, inr}
use Rattle.ct_support.proofs.Base.{sym, ◌∙◌, ap, ap₂, subst, arith, length-map, get_or-map, length-range_with_len, get_or-range_with_len}
use Rattle.ct_support.proofs.Base.{mul-le-mul_right, div-add-mod', mod-lt, div-lt_iff_lt-mul, slice_get, option_map, None, Some, slice_get-get_or}
use Rattle.ct_support.proofs.Base.{slice_get_past}
use Rattle.ct_support.specs.declared.shape.Range.{Range}
use Rattle.ct_support.specs.Supports.{size_of, numbers_of, row_of, supports_of, with_index}
use Rattle.ct_support.specs.SupportLaws.{IsNumber, ComesBefore, SupportsAreNumbered}
use Rattle.ct_support.proofs.EvenLists.{length-flat_map_even, get_or-flat_map_even, one_more_times}

-- row and column are within a table of rows of one width
row_below : (rows width index : ℕ) → index < rows * width → 0 < width
row_below rows zero index below = absurd (omega (arith, below))
row_below rows (suc width) index below = omega arith

index_below : (rows width row column : ℕ) → row < rows → column < width → row * width + column < rows * width
index_below rows width row column low small =
    let whole : suc row * width ≤ rows * width = mul-le-mul_right width low in
    let next = one_more_times row width in
    omega (arith, whole, next, small)

later_row : (width i j a b c d : ℕ) → a * width + c ≡ i → b * width + d ≡ j → i < j → c < width → d < width →
    (a < b) ⊎ ((a ≡ b) × (c < d))
later_row width i j a b c d first second less small also = by (ordered a b)
  where
    ordered : (a b : ℕ) → (a < b) ⊎ ((a ≡ b) ⊎ (b < a))
    ordered a b = grind arith

    by : (a < b) ⊎ ((a ≡ b) ⊎ (b < a)) → (a < b) ⊎ ((a ≡ b) × (c < d))
    by (inl below) = inl below
    by (inr (inl same)) = inr (same, let rows : a * width ≡ b * width = ap (λ r. r * width) same in omega (arith, rows, first, second, less))
    by (inr (inr above)) =
        let whole : suc b * width ≤ a * width = mul-le-mul_right width above in
        let next = one_more_times b width in
        absurd (omega (arith, whole, next, first, second, less, also))

module _ (orders degrees : Range) where
  abbrev width : ℕ
  width = size_of degrees

  even : (order : ℕ) → length (row_of (numbers_of degrees) order) ≡ width
  even order = length-map (numbers_of degrees) (λ degree. (order, degree)) ∙ length-range_with_len degrees.low width

  pub count_is : length (supports_of orders degrees) ≡ size_of orders * width
  count_is =
      length-flat_map_even (row_of (numbers_of degrees)) width even (numbers_of orders)
      ∙ ap (λ n. n * width) (length-range_with_len orders.low (size_of orders))

  entry :
      (row column : ℕ) (d : ℕ × ℕ) → row < size_of orders → column < width →
      get_or (supports_of orders degrees) (row * width + column) d ≡ (orders.low + row, degrees.low + column)
  entry row column d low small =
      get_or-flat_map_even (row_of (numbers_of degrees)) width even (numbers_of orders) row column 0 d
      (subst (λ n. row < n) (sym (length-range_with_len orders.low (size_of orders))) low) small
      ∙ get_or-map (λ degree. (get_or (numbers_of orders) row 0, degree)) (numbers_of degrees) column 0 d
      (subst (λ n. column < n) (sym (length-range_with_len degrees.low width)) small)
      ∙ ap₂ (λ order degree. (order, degree)) (get_or-range_with_len orders.low (size_of orders) row 0 low)
      (get_or-range_with_len degrees.low width column 0 small)

  -- the row and the column of an index
  pub record IsAt (index : ℕ) : Type 0 where
    pub row : index / width < size_of orders
    pub column : index % width < width
    pub split : index / width * width + index % width ≡ index

  pub at : (index : ℕ) → index < length (supports_of orders degrees) → IsAt index
  at index below =
      let within : index < size_of orders * width = subst (λ n. index < n) count_is below in
      let some = row_below (size_of orders) width index within in
      record { row = (div-lt_iff_lt-mul some).1 within; column = mod-lt index some; split = div-add-mod' index width }

  pub entry_at :
      (index : ℕ) (d : ℕ × ℕ) → index < length (supports_of orders degrees) →
      get_or (supports_of orders degrees) index d ≡ (orders.low + index / width, degrees.low + index % width)
  entry_at index d below =
      let place = at index below in
      ap (λ k. get_or (supports_of orders degrees) k d) (sym place.split)
      ∙ entry (index / width) (index % width) d place.row place.column

-- what the code finds, from its width and its rows
module _ (orders degrees : Range) (index width rows : ℕ) (wide : width ≡ size_of degrees) (high : rows ≡ size_of orders) where
  pub none_past :
      rows ≤ index / width → None ≡ option_map (with_index index) (slice_get (supports_of orders degrees) index)
  none_past past =
      let whole : rows * width ≤ index / width * width = mul-le-mul_right width past in
      let split = div-add-mod' index width in
      let long : length (supports_of orders degrees) ≡ rows * width =
      count_is orders degrees ∙ ap₂ ◌*◌ (sym high) (sym wide) in
      ap (option_map (with_index index)) (sym (slice_get_past (supports_of orders degrees) index (omega (arith, whole, split, long))))

  pub some_at :
      0 < width → index / width < rows →
      Some (record { index = index; order = orders.low + index / width; degree = degrees.low + index % width }) ≡
      option_map (with_index index) (slice_get (supports_of orders degrees) index)
  some_at some within =
      let inside : index < rows * width = (div-lt_iff_lt-mul some).0 within in
      let below : index < length (supports_of orders degrees) =
      subst (λ n. index < n) (ap₂ ◌*◌ high wide ∙ sym (count_is orders degrees)) inside in
      ap (option_map (with_index index))
      (ap (λ w. Some (orders.low + index / w, degrees.low + index % w)) wide
      ∙ ap Some (sym (entry_at orders degrees index (0, 0) below)) ∙ sym (slice_get-get_or (supports_of orders degrees) index (0, 0) below))

pub numbered : SupportsAreNumbered
numbered orders degrees = record {
  sound = λ index d below.
      let place = at orders degrees index below in
      subst (λ p. IsNumber orders p.0 × IsNumber degrees p.1) (sym (entry_at orders degrees index d below))
      ((omega arith, omega (arith, place.row)), (omega arith, omega (arith, place.column)));
  complete = λ order degree low small.
      let row : order - orders.low < size_of orders = omega (arith, low.0, low.1) in
      let column : degree - degrees.low < size_of degrees = omega (arith, small.0, small.1) in (
        (order - orders.low) * size_of degrees + (degree - degrees.low),
        subst (λ n. (order - orders.low) * size_of degrees + (degree - degrees.low) < n) (sym (count_is orders degrees))
            (index_below (size_of orders) (size_of degrees) (order - orders.low) (degree - degrees.low) row column),
        entry orders degrees (order - orders.low) (degree - degrees.low) (order, degree) row column
            ∙ ap₂ (λ r t. (r, t)) (omega (arith, low.0)) (omega (arith, small.0)),
      );
  rises = λ i j d less below.
      let first = at orders degrees i (omega (arith, less, below)) in
      let second = at orders degrees j below in
      subst (λ p. ComesBefore p (get_or (supports_of orders degrees) j d)) (sym (entry_at orders degrees i d (omega (arith, less, below))))
      (subst (ComesBefore (orders.low + i / size_of degrees, degrees.low + i % size_of degrees)) (sym (entry_at orders degrees j d below))
      (moved (i / size_of degrees) (j / size_of degrees) (i % size_of degrees) (j % size_of degrees)
      (later_row (size_of degrees) i j _ _ _ _ first.split second.split less first.column second.column)));
}
  where
    moved : (a b c d : ℕ) → (a < b) ⊎ ((a ≡ b) × (c < d)) →
        ComesBefore (orders.low + a, degrees.low + c) (orders.low + b, degrees.low + d)
    moved a b c d (inl below) = inl (omega (arith, below))
    moved a b c d (inr (same, less)) = inr (ap (λ r. orders.low + r) same, omega (arith, less))
