-- Tables of coefficients: a multiple of a list of terms is added in place. Main lemmas `table_of_zeros`, `table_added` and
-- `zero_table`.
-- A term of a monomial of the box changes the one cell of its monomial, since other monomials have other cells.
use Rattle.ct_poly.proofs.Base.{◌≡◌, refl, ℕ, zero, suc, ◌<◌, ℤ, pos, ◌+ℤ◌, ◌*ℤ◌, Bool, true, false, eqb, List, [], ◌∷◌, All, length, slice_index_or}
use Rattle.ct_poly.proofs.Base.{slice_set, Option, Some, None, sym, ◌∙◌, ap, ap₂, subst, subst₂, arith, eqb-true, get_or-set_same, get_or-set_other}
use Rattle.ct_poly.proofs.Base.{eqb-false, MatchOption, Mono, ◌·◌, Polynomial, polys, coefficient, plus, times, ring4, reify, mul_zero, term, term-*}
use Rattle.ct_poly.proofs.Base.{plus_zero, Divides, over, over-meaning}
use Rattle.std.proofs.lemmas.List.{length-set}
use Rattle.ct_algebra.proofs.PolynomialLawProofs.{finite_maps}
use Rattle.ct_poly.specs.declared.term.Term.{Term}
use Rattle.ct_poly.specs.Cells.{IsTable, AreMultiplesInBox, cell_of, cells_of, spots, added}
use Rattle.ct_poly.specs.Terms.{poly_of_terms}
use Rattle.ct_poly.proofs.CellNumbers.{cell_small, same_cell, cell_of-·}
use Rattle.ct_poly.proofs.TermLists.{poly_of-cons, poly_of-none}

-- ---- monomials of a box

-- a monomial is in the box, or is not
inside_or_out : (P : Type 0) (m tops : Mono) → (Divides m tops → P) → ((Divides m tops → ⊥) → P) → P
inside_or_out P m tops in_box out = by (over tops m) (over-meaning tops m)
  where
    by : (o : Option Mono) → MatchOption o (Divides m tops → ⊥) (λ t. t · m ≡ tops) → P
    by None apart = out apart
    by (Some t) whole = in_box (t, whole)

-- ---- one term

module _ {tops : Mono} {p : Polynomial} {cells : List ℤ} (table : IsTable tops p cells) (m : Mono) (c : ℤ) (in_box : Divides m tops) where
  abbrev old : ℤ
  old = slice_index_or cells (cell_of tops m) (pos 0)

  within : cell_of tops m < length cells
  within = omega (arith, cell_small tops m in_box, table.whole)

  table_one : IsTable tops (plus p (term m c)) (slice_set cells (cell_of tops m) (old +ℤ c))
  table_one = record {
    whole = length-set cells (cell_of tops m) _ ∙ table.whole;
    each = λ k inside. by k inside (eqb (cell_of tops k) (cell_of tops m)) refl;
    inside = λ k out. finite_maps.of_a_sum p (term m c) k
        ∙ ap₂ ◌+ℤ◌ (table.inside k out) (finite_maps.of_another_term m k c (λ same. out (subst (λ w. Divides w tops) same in_box)));
  }
    where
      by : (k : Mono) → Divides k tops → (b : Bool) → eqb (cell_of tops k) (cell_of tops m) ≡ b
          → slice_index_or (slice_set cells (cell_of tops m) (old +ℤ c)) (cell_of tops k) (pos 0) ≡ coefficient (plus p (term m c)) k
      by k inside true same =
          let cell = eqb-true (cell_of tops k) (cell_of tops m) same in
          let mono : k ≡ m = same_cell tops k m inside in_box cell in
          ap (λ n. slice_index_or (slice_set cells (cell_of tops m) (old +ℤ c)) n (pos 0)) cell
          ∙ get_or-set_same cells (cell_of tops m) _ (pos 0) within
          ∙ sym (ap (coefficient (plus p (term m c))) mono ∙ finite_maps.of_a_sum p (term m c) m
          ∙ ap₂ ◌+ℤ◌ (sym (table.each m in_box)) (finite_maps.of_a_term m c))
      by k inside false other =
          let apart = eqb-false (cell_of tops k) (cell_of tops m) other in
          get_or-set_other cells (cell_of tops m) (cell_of tops k) _ (pos 0) apart ∙ table.each k inside
          ∙ sym (finite_maps.of_a_sum p (term m c) k
          ∙ ap (λ d. coefficient p k +ℤ d) (finite_maps.of_another_term m k c (λ same. apart (ap (cell_of tops) (sym same)))) ∙ plus_zero _)

-- ---- a multiple of a list

no_value : (p : Polynomial) (u : Mono) (c : ℤ) → plus p (times (term u c) (poly_of_terms [])) ≡ p
unfolding plus times
no_value p u c =
    ap (λ w. polys.◌+◌ p (polys.◌*◌ (term u c) w)) poly_of-none ∙ ap (polys.◌+◌ p) (mul_zero polys (term u c)) ∙ polys.add_zero p

more_value :
    (p : Polynomial) (u : Mono) (c : ℤ) (t : Term) (ts : List Term) →
    plus (plus p (term (u · t.mono) (c *ℤ t.coef))) (times (term u c) (poly_of_terms ts)) ≡ plus p (times (term u c) (poly_of_terms (t ∷ ts)))
unfolding plus times
more_value p u c t ts =
    ap (λ w. polys.◌+◌ (polys.◌+◌ p w) (polys.◌*◌ (term u c) (poly_of_terms ts))) (sym (term-* u t.mono c t.coef))
    ∙ ring4 polys p (term u c) (term t.mono t.coef) (poly_of_terms ts) (λ p u t r. (search reify depth 12, search reify depth 12)) refl
    ∙ ap (λ w. polys.◌+◌ p (polys.◌*◌ (term u c) w)) (sym (poly_of-cons t ts))

pub table_added :
    (u : Mono) (c : ℤ) (ts : List Term) {tops : Mono} {p : Polynomial} {cells : List ℤ} → IsTable tops p cells →
    AreMultiplesInBox tops u ts →
    IsTable tops (plus p (times (term u c) (poly_of_terms ts))) (added (cell_of tops u) c cells (spots tops ts))
table_added u c [] {tops} {p} {cells} table in_box = subst (λ w. IsTable tops w cells) (sym (no_value p u c)) table
table_added u c (t ∷ ts) {tops} {p} {cells} table in_box =
    subst₂ (λ w ds. IsTable tops w ds) (more_value p u c t ts) moved
    (table_added u c ts (table_one table (u · t.mono) (c *ℤ t.coef) in_box.0) in_box.1)
  where
    moved : added (cell_of tops u) c
        (slice_set cells (cell_of tops (u · t.mono)) (slice_index_or cells (cell_of tops (u · t.mono)) (pos 0) +ℤ c *ℤ t.coef)) (spots tops ts) ≡
        added (cell_of tops u) c cells (spots tops (t ∷ ts))
    moved = ap (λ n. added (cell_of tops u) c (slice_set cells n (slice_index_or cells n (pos 0) +ℤ c *ℤ t.coef)) (spots tops ts))
        (cell_of-· tops u t.mono)

-- ---- tables of zeros

abbrev pub AreZero : List ℤ → Type 0
AreZero cells = All (λ c. c ≡ pos 0) cells

zero_at : (cells : List ℤ) (i : ℕ) → AreZero cells → slice_index_or cells i (pos 0) ≡ pos 0
zero_at [] i zeros = refl
zero_at (c ∷ cs) zero zeros = zeros 0 (pos 0) (omega arith)
zero_at (c ∷ cs) (suc i) zeros = zero_at cs i (λ k d small. zeros (suc k) d (omega (arith, small)))

pub table_of_zeros : (tops : Mono) (cells : List ℤ) → length cells ≡ cells_of tops → AreZero cells → IsTable tops polys.zero cells
table_of_zeros tops cells whole zeros = record {
  whole = whole;
  each = λ m in_box. zero_at cells (cell_of tops m) zeros ∙ sym (finite_maps.of_zero m);
  inside = λ m out. finite_maps.of_zero m;
}

pub zero_table : (tops : Mono) (p : Polynomial) (cells : List ℤ) → IsTable tops p cells → AreZero cells → p ≡ polys.zero
zero_table tops p cells table zeros =
    finite_maps.same p polys.zero (λ m. inside_or_out _ m tops
    (λ in_box. sym (table.each m in_box) ∙ zero_at cells (cell_of tops m) zeros ∙ sym (finite_maps.of_zero m))
    (λ out. table.inside m out ∙ sym (finite_maps.of_zero m)))
