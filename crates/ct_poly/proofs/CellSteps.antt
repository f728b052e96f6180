-- The steps of a division in cells: main lemmas `table_start`, `taking_start`, `taking_more` and `nothing_left`, which the
-- functions of `cell_division` cite.
-- Each step takes one term times the divisor from the table, so the table stays the dividend without the terms so far times
-- the divisor; where all cells are zero, this difference is zero.
use Rattle.ct_poly.proofs.Base.{◌≡◌, ◌≢◌, refl, ℕ, zero, suc, ◌+◌, ◌*◌, ◌≤◌, ◌<◌, ℤ, pos, neg_ℤ, nat_abs, List, [], ◌∷◌, ◌++◌, All, length, replicate}
use Rattle.ct_poly.proofs.Base.{slice_index_or, Option, Some, sym, ◌∙◌, ap, ap₂, subst, subst₂, arith, length-append, IfSome, sum_by-cons}
use Rattle.ct_poly.proofs.Base.{sum_by-append, zero_add, Mono, ◌·◌, unit, ·_comm, ·-unit, Polynomial, polys, plus, times, zero_mul, one_mul, ring2}
use Rattle.ct_poly.proofs.Base.{ring4, reify, term, number_is, one_is, EachTerm-weaker, abs-neg, Divides, most_terms, largest_norm}
use Rattle.std.proofs.lemmas.List.{get_or-replicate, length-replicate}
use Rattle.ct_poly.specs.declared.cells.Spot.{Spot}
use Rattle.ct_poly.specs.declared.division.Measure.{Measure}
use Rattle.ct_poly.specs.declared.term.Term.{Term}
use Rattle.ct_poly.specs.Cells.{IsTable, IsTableOf, IsDivisor, IsQuotient, HasRoom, AreInBox, AreMultiplesInBox, most_cells, cells_of, cell_of, spot}
use Rattle.ct_poly.specs.Cells.{spots, added, size_of_cells, size_of_spots}
use Rattle.ct_poly.specs.Measures.{minus}
use Rattle.ct_poly.specs.Terms.{entries, poly_of_terms, size_of}
use Rattle.ct_poly.proofs.BoundingBoxes.{divides_product}
use Rattle.ct_poly.proofs.CellNumbers.{cell_small, cell_of-·}
use Rattle.ct_poly.proofs.DivisionSteps.{term-neg}
use Rattle.ct_poly.proofs.Tables.{AreZero, table_of_zeros, table_added, zero_table}
use Rattle.ct_poly.proofs.TermLists.{poly_of-append, poly_of-none, poly_of-one}

-- what a clause says of the value in an option that is there
pub some_is : {A : Type 0} (P : A → Type 0) {o : Option A} {x : A} → o ≡ Some x → IfSome o P → P x
some_is P is holds = subst (λ o. IfSome o P) is holds

-- ---- spots

pub size-spots : (tops : Mono) (ts : List Term) → size_of_spots (spots tops ts) ≡ size_of ts
size-spots tops [] = refl
size-spots tops (t ∷ ts) =
    sum_by-cons (λ s. nat_abs s.coef) (spot tops t) (spots tops ts) ∙ ap (λ n. nat_abs t.coef + n) (size-spots tops ts)
    ∙ sym (sum_by-cons (λ t. nat_abs t.coef) t ts)

-- the spots so far, and those of the rest, are all
pub record IsPlacing (tops : Mono) (ts : List Term) (out : List Spot) (rest : List Term) : Type 0 where
  pub made : out ++ spots tops rest ≡ spots tops ts
  pub inside : AreInBox tops rest

-- all spots, moved up by the cell of a monomial, are among the cells
pub spots_inside :
    (tops u : Mono) (n cell : ℕ) (ts : List Term) → n ≡ cells_of tops → cell ≡ cell_of tops u → AreMultiplesInBox tops u ts →
    All (λ s. cell + s.cell < n) (spots tops ts)
spots_inside tops u n cell ts n_is cell_is each = by ts each
  where
    by : (ts : List Term) → AreMultiplesInBox tops u ts → (k : ℕ) (d : Spot) → k < length (spots tops ts) →
        cell + (slice_index_or (spots tops ts) k d).cell < n
    by [] each k d small = absurd (omega (arith, small))
    by (t ∷ ts) each zero d small = omega (arith, cell_small tops (u · t.mono) each.0, cell_of-· tops u t.mono, n_is, cell_is)
    by (t ∷ ts) each (suc k) d small = by ts each.1 k d (omega (arith, small))

-- ---- the table of the dividend

pub zeros_size : (cells : List ℤ) → AreZero cells → size_of_cells cells ≡ 0
zeros_size [] zeros = refl
zeros_size (c ∷ cs) zeros =
    let first : c ≡ pos 0 = zeros 0 c (omega arith) in
    omega (arith, sum_by-cons nat_abs c cs, ap nat_abs first, zeros_size cs (λ k d small. zeros (suc k) d (omega (arith, small))))

pub zeros_are : {n : ℕ} {cells : List ℤ} → cells ≡ replicate n (pos 0) → AreZero cells × (length cells ≡ n)
zeros_are {n} {cells} cells_are =
    let long : length cells ≡ n = ap length cells_are ∙ length-replicate n (pos 0) in (
      subst AreZero (sym cells_are) (λ k d small. get_or-replicate n k (pos 0) d (omega (arith, small, length-replicate n (pos 0)))),
      long,
    )

cell_of-unit : (tops : Mono) → cell_of tops unit ≡ 0
cell_of-unit tops = omega (arith, cell_of-· tops unit unit, ap (cell_of tops) (·-unit unit))

by_unit : (tops : Mono) (ts : List Term) → AreInBox tops ts → AreMultiplesInBox tops unit ts
by_unit tops ts inside = EachTerm-weaker (λ m c divides. subst (λ w. Divides w tops) (sym (·_comm unit m ∙ ·-unit m)) divides) (entries ts) inside

module _ (tops : Mono) (ts : List Term) (ss : List Spot) (zeros : List ℤ) (ss_are : ss ≡ spots tops ts) (inside : AreInBox tops ts)
    (whole : length zeros ≡ cells_of tops) (empty : AreZero zeros) where
  pub start_inside : All (λ s. 0 + s.cell < length zeros) ss
  start_inside = subst (All (λ s. 0 + s.cell < length zeros)) (sym ss_are)
      (spots_inside tops unit (length zeros) 0 ts whole (sym (cell_of-unit tops)) (by_unit tops ts inside))

  pub start_size : size_of_cells zeros + 1 * size_of_spots ss ≡ size_of ts
  start_size = omega (arith, zeros_size zeros empty, ap size_of_spots ss_are, size-spots tops ts)

  pub table_start : {cells : List ℤ} → cells_of tops ≤ most_cells → cells ≡ added 0 (pos 1) zeros ss →
      size_of_cells cells ≤ size_of_cells zeros + 1 * size_of_spots ss → IsTableOf ts tops cells
  unfolding plus times
  table_start {cells} few cells_are small = record {
    table = subst₂ (λ p cs. IsTable tops p cs) value (sym (cells_are ∙ ap₂ (λ n rs. added n (pos 1) zeros rs) (sym (cell_of-unit tops)) ss_are))
        (table_added unit (pos 1) ts (table_of_zeros tops zeros whole empty) (by_unit tops ts inside));
    small = omega (arith, small, start_size);
    few = few;
  }
    where
      value : plus polys.zero (times (term unit (pos 1)) (poly_of_terms ts)) ≡ poly_of_terms ts
      value = zero_add polys.group _ ∙ ap (λ w. polys.◌*◌ w (poly_of_terms ts)) (sym (one_is ∙ number_is (pos 1))) ∙ one_mul polys (poly_of_terms ts)

-- ---- one step

pub factor_le : (a b : ℕ) → b ≢ 0 → a ≤ a * b
factor_le a zero some = absurd (some refl)
factor_le a (suc b) some = omega arith

-- from a table of n, what is left of n without qs times fs; of n is known how many terms and how large a norm it has at most
pub record IsTakenOut (start : List ℤ) (count norm : ℕ) (fs qs : List Term) (tops : Mono) (cells : List ℤ) : Type 0 where
  pub some : length fs ≢ 0
  pub room : HasRoom count norm (length fs) (size_of fs) (length qs) (size_of qs)
  pub whole : length cells ≡ cells_of tops
  pub table :
      (n : Polynomial) → IsTable tops n start → IsTable tops (minus n (times (poly_of_terms qs) (poly_of_terms fs))) cells
  pub small : size_of_cells cells ≤ norm + size_of qs * size_of fs

-- what is taken out, and its norm
pub record IsTaking (start : List ℤ) (count norm : ℕ) (fs qs : List Term) (tops : Mono) (cells : List ℤ) (size below : ℕ) : Type 0 where
  pub taken : IsTakenOut start count norm fs qs tops cells
  pub size_is : size ≡ size_of qs
  pub inside : below ≤ length cells

size_end : (qs : List Term) (u : Term) → size_of (qs ++ u ∷ []) ≡ size_of qs + nat_abs u.coef
size_end qs u = omega (arith, sum_by-append (λ t. nat_abs t.coef) qs (u ∷ []), sum_by-cons (λ t. nat_abs t.coef) u [])

-- the table without one more multiple
less_more :
    (p q f : Polynomial) (m : Mono) (c : ℤ) →
    plus (minus p (times q f)) (times (term m (neg_ℤ c)) f) ≡ minus p (times (polys.◌+◌ q (term m c)) f)
unfolding plus minus times
less_more p q f m c =
    ap (λ w. polys.◌+◌ (polys.◌+◌ p (polys.neg (polys.◌*◌ q f))) (polys.◌*◌ w f)) (term-neg m c)
    ∙ ring4 polys p q f (term m c) (λ p q f u. (search reify depth 12, search reify depth 12)) refl

multiples_in : (tops room u : Mono) (ts : List Term) → Divides u room → AreMultiplesInBox tops room ts → AreMultiplesInBox tops u ts
multiples_in tops room u ts divides each = EachTerm-weaker (λ m c inside. divides_product u room m tops divides inside) (entries ts) each

module _ {start : List ℤ} {count norm : ℕ} {fs qs : List Term} {tops room : Mono} {ss : List Spot} {lead : Spot} {cells : List ℤ} {size below : ℕ}
    (d : IsDivisor tops fs ss lead room) (taking : IsTaking start count norm fs qs tops cells size below)
    (u : Term) {cell : ℕ} (divides : Divides u.mono room) (cell_is : cell ≡ cell_of tops u.mono) where
  pub step_inside : All (λ s. cell + s.cell < length cells) ss
  step_inside =
      subst (All (λ s. cell + s.cell < length cells)) (sym d.same)
      (spots_inside tops u.mono (length cells) cell fs taking.taken.whole cell_is (multiples_in tops room u.mono fs divides d.products_in))

  module _ {more_count more_norm : ℕ} (count_is : more_count ≡ length qs + 1) (norm_is : more_norm ≡ size + nat_abs u.coef)
      (fits : HasRoom count norm (length fs) (size_of fs) more_count more_norm) where
    sizes : more_norm ≡ size_of (qs ++ u ∷ [])
    sizes = omega (arith, norm_is, taking.size_is, size_end qs u)

    grown : size_of_cells cells + nat_abs u.coef * size_of_spots ss ≤ norm + more_norm * size_of fs
    grown =
        omega (
          arith,
          taking.taken.small,
          ap (λ n. nat_abs u.coef * n) (ap size_of_spots d.same ∙ size-spots tops fs),
          ap (λ n. n * size_of fs) norm_is,
          ap (λ n. n * size_of fs) taking.size_is,
        )

    -- the sizes of the cells leave room for the step
    pub step_small : size_of_cells cells + nat_abs u.coef * size_of_spots ss ≤ largest_norm
    step_small = omega (arith, grown, fits.small)

    pub taking_more :
        (z : ℤ) {next : List ℤ} {more : List Term} {at : ℕ} → z ≡ neg_ℤ u.coef → next ≡ added cell z cells ss →
        size_of_cells next ≤ size_of_cells cells + nat_abs z * size_of_spots ss → more ≡ qs ++ u ∷ [] → at < below →
        length next ≡ length cells → IsTaking start count norm fs more tops next more_norm at
    taking_more z {next} {more} {at} z_is next_is small more_is lower long =
        subst (λ m. IsTaking start count norm fs m tops next more_norm at) (sym more_is) (record {
          taken = record {
            some = taking.taken.some;
            room = subst₂ (λ a b. HasRoom count norm (length fs) (size_of fs) a b) (count_is ∙ sym (length-append qs (u ∷ []))) sizes fits;
            whole = long ∙ taking.taken.whole;
            table = table;
            small = omega (arith, small, grown, ap (λ n. n * size_of_spots ss) (ap nat_abs z_is ∙ abs-neg u.coef), ap (λ n. n * size_of fs) sizes);
          };
          size_is = sizes;
          inside = omega (arith, taking.inside, long, lower);
        })
      where
        value : (n : Polynomial) →
            plus (minus n (times (poly_of_terms qs) (poly_of_terms fs))) (times (term u.mono (neg_ℤ u.coef)) (poly_of_terms fs)) ≡
            minus n (times (poly_of_terms (qs ++ u ∷ [])) (poly_of_terms fs))
        value n =
            less_more n (poly_of_terms qs) (poly_of_terms fs) u.mono u.coef
            ∙ ap (λ q. minus n (times q (poly_of_terms fs))) (sym (poly_of-append qs (u ∷ []) ∙ ap (polys.◌+◌ (poly_of_terms qs)) (poly_of-one u)))

        cells_are : added cell z cells ss ≡ added (cell_of tops u.mono) (neg_ℤ u.coef) cells (spots tops fs)
        cells_are = λ i. added (cell_is i) (z_is i) cells (d.same i)

        table : (n : Polynomial) → IsTable tops n start → IsTable tops (minus n (times (poly_of_terms (qs ++ u ∷ [])) (poly_of_terms fs))) next
        table n begins =
            subst₂ (λ p cs. IsTable tops p cs) (value n) (sym (next_is ∙ cells_are))
            (table_added u.mono (neg_ℤ u.coef) fs (taking.taken.table n begins) (multiples_in tops room u.mono fs divides d.products_in))

pub measures_have_room :
    (fs : List Term) {dividend divisor : Measure} {n size : ℕ} → divisor ≡ record { count = length fs; norm = size_of fs } →
    HasRoom dividend.count dividend.norm divisor.count divisor.norm n size →
    HasRoom dividend.count dividend.norm (length fs) (size_of fs) n size
measures_have_room fs {dividend} {divisor} {n} {size} same room =
    subst (λ b. HasRoom dividend.count dividend.norm b.count b.norm n size) same room

-- ---- the start and the end

nothing_taken : (p f : Polynomial) → minus p (times (poly_of_terms []) f) ≡ p
unfolding minus plus times
nothing_taken p f = ap (λ w. polys.◌+◌ p (polys.neg w)) (ap (λ q. polys.◌*◌ q f) poly_of-none ∙ zero_mul polys f)
    ∙ ring2 polys p f (λ p f. (search reify depth 12, search reify depth 12)) refl

-- a difference that is zero
same_of : (p q : Polynomial) → minus p q ≡ polys.zero → q ≡ p
unfolding minus plus
same_of p q none =
    sym (ring2 polys p q (λ p q. (search reify depth 12, search reify depth 12)) refl ∙ ap (λ w. polys.◌+◌ w q) none ∙ zero_add polys.group q)

pub taking_start :
    {fs found : List Term} {tops room : Mono} {ss : List Spot} {lead : Spot} {cells : List ℤ} {count norm below : ℕ} →
    count ≤ most_terms → norm ≤ largest_norm → length cells ≡ cells_of tops → size_of_cells cells ≤ norm →
    IsDivisor tops fs ss lead room → found ≡ [] → below ≡ length cells →
    IsTaking cells count norm fs found tops cells 0 below
taking_start {fs} {found} {tops} {room} {ss} {lead} {cells} {count} {norm} {below} few small whole size d empty below_is =
    subst (λ q. IsTaking cells count norm fs q tops cells 0 below) (sym empty) (record {
      taken = record {
        some = d.some;
        room = record { few = omega (arith, few); small = omega (arith, small); fits = omega arith };
        whole = whole;
        table = λ n begins. subst (λ p. IsTable tops p cells) (sym (nothing_taken n (poly_of_terms fs))) begins;
        small = omega (arith, size);
      };
      size_is = refl;
      inside = omega (arith, below_is);
    })

pub nothing_left :
    {start cells : List ℤ} {count norm : ℕ} {fs qs : List Term} {tops : Mono} → IsTakenOut start count norm fs qs tops cells →
    AreZero cells → (n : Polynomial) → IsTable tops n start → IsQuotient n count norm fs qs
nothing_left {start} {cells} {count} {norm} {fs} {qs} {tops} taken zeros n begins = record {
  some = taken.some;
  room = taken.room;
  value = same_of n (times (poly_of_terms qs) (poly_of_terms fs)) (zero_table tops _ cells (taken.table n begins) zeros);
}
