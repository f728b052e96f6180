-- The proofs of specs/StaircaseLaws, from the main lemmas of the other files.
-- That symbols commute on the rows can hold in one way only, so what is proved of one module of the rows holds of each.
use Rattle.ct_telescoping.proofs.Base.{◌≡◌, ◌≢◌, ℕ, ◌<◌, List, [], ◌∷◌, sym, ◌∙◌, ap, subst, EachTerm, Mono, monomials, ◌·◌, Name, symbol, power_unit}
use Rattle.ct_telescoping.proofs.Base.{Polynomial, polys, Action, Shift, Derive, Still, by_action, Operator, polynomial_at, EachKills}
use Rattle.ct_telescoping.proofs.Base.{apply-product_of, IsOver, IsIrreducible, K, field, apply-multiple, apply-sum, apply-on_sum, apply-term_of}
use Rattle.ct_telescoping.proofs.Base.{apply-combination, by_values}
use Rattle.std.specs.Prelude.{refl}
use Rattle.ct_telescoping.specs.Vector.{entry}
use Rattle.ct_telescoping.specs.StaircaseModule.{Rows, RowsCommute, staircase_module, start}
use Rattle.ct_telescoping.specs.Staircase.{IsElement, IsAmong, HasOperators, IsStaircaseOf}
use Rattle.ct_telescoping.specs.Tested.{HasRows, IsTested}
use Rattle.ct_telescoping.specs.StaircaseLaws.{StaircaseGrows, StaircaseIsModule, RowsExist, RowsAreDetermined, TestsSuffice, TestedGivesModule}
use Rattle.ct_telescoping.specs.StaircaseLaws.{ImageDecidesMembership}
use Rattle.ct_telescoping.proofs.StaircaseUnits.{power-start}
use Rattle.ct_telescoping.proofs.RestIsZero.{zero_of_member, rest_of_zero}
use Rattle.ct_telescoping.proofs.StaircaseGrows.{divisor_listed, unit_listed, elements_differ, GrowsFromOne-staircase}
use Rattle.ct_telescoping.proofs.TestsSuffice.{tests_suffice}
use Rattle.ct_telescoping.proofs.TestedModule.{tested_commute, tested_grows, tested_units, tested_kills, free_column-power, image-apply}
use Rattle.ct_telescoping.proofs.NormalFormsUnique.{staircase_unique, rows_unique}
use Rattle.ct_telescoping.proofs.NormalFormsExist.{form, normal_forms}

pub is_module : StaircaseIsModule
is_module a d M commutes = record {
  sums = λ p q v. apply-sum a (staircase_module a d M commutes) p q v;
  multiples = λ c p v. apply-multiple a (staircase_module a d M commutes) c p v;
  one = λ v.
      apply-term_of a (staircase_module a d M commutes) _ _ v
      ∙ (staircase_module a d M commutes).scale_one _ ∙ power_unit (staircase_module a d M commutes).D v;
  sums_of_vectors = λ p v w. apply-on_sum a (staircase_module a d M commutes) p v w;
  products = λ p q v. apply-product_of a (staircase_module a d M commutes) p q v;
  combinations = λ cs gs v kills. apply-combination a (staircase_module a d M commutes) cs gs v kills;
  elements = λ element grows units k below.
      apply-term_of a (staircase_module a d M commutes) _ _ _
      ∙ (staircase_module a d M commutes).scale_one _ ∙ power-start a d M commutes element grows units k below;
}

-- rows speak of the elements below d alone
rows_moved :
    (a : Name → Action) (generators : List Operator) (d : ℕ) (element other : ℕ → Mono) (M : Rows) →
    ((k : ℕ) → k < d → element k ≡ other k) → HasRows a generators d other M → HasRows a generators d element M
rows_moved a generators d element other M same has = record {
  forms = has.forms;
  normal = record {
    elements = λ k below. ap has.forms (same k below) ∙ has.normal.elements k below;
    reduces = has.normal.reduces;
  };
  rows = λ i acts b c below within.
      has.rows i acts b c below within
      ∙ ap (λ m. entry field.group d (has.forms (symbol i · m)) c) (sym (same b below));
  still_rows = has.still_rows;
}

pub rows_are_determined : RowsAreDetermined
rows_are_determined a generators over d e element other M N staircase rows staircase_also rows_also = record {
  sizes = same.0;
  elements = same.1;
  rows = rows_unique a generators over d element staircase M N rows
      (rows_moved a generators d element other N same.1 (subst (λ n. HasRows a generators n other N) (sym same.0) rows_also));
}
  where
    same : (d ≡ e) × ((k : ℕ) → k < d → element k ≡ other k)
    same = staircase_unique a generators d e element other staircase staircase_also

-- the entries of the normal forms, and zero for a name without operator
rows_of : (t : Action) (x : K) → K
rows_of t x = by_action t x x field.zero

rows_of_acting : (t : Action) (x : K) → t ≢ Still → rows_of t x ≡ x
unfolding rows_of
rows_of_acting Shift x acts = refl
rows_of_acting Derive x acts = refl
rows_of_acting Still x acts = absurd (acts refl)

rows_of_still : (t : Action) (x : K) → t ≡ Still → rows_of t x ≡ field.zero
unfolding rows_of
rows_of_still t x still = ap (λ s. by_action s x x field.zero) still

pub rows_exist : RowsExist
rows_exist a generators over d element staircase = (
  λ i b c. rows_of (a i) (entry field.group d (form a generators d element (symbol i · element b)) c),
  record {
    forms = form a generators d element;
    normal = normal_forms a generators d element over staircase;
    rows = λ i acts b c below within. rows_of_acting (a i) _ acts;
    still_rows = λ i still b c below within. rows_of_still (a i) _ still;
  },
)

pub suffice : TestsSuffice
suffice a generators d element M staircase proper units still closed killed =
    tests_suffice a generators d element M staircase proper units still closed killed

pub staircase_grows : StaircaseGrows
staircase_grows a generators d element staircase = record {
  divisors = divisor_listed a generators d element staircase;
  differ = elements_differ a generators d element staircase;
  has_one = unit_listed a generators d element staircase;
  grows = GrowsFromOne-staircase a generators d element staircase;
}

pub gives_module : TestedGivesModule
gives_module a generators d element M tested =
    let commutes = tested_commute a generators d element M tested in
    let laws = is_module a d M commutes in
    record {
      commutes = commutes;
      module_laws = laws;
      elements = laws.elements element (tested_grows a generators d element M tested) (tested_units a generators d element M tested);
      columns = free_column-power a d M commutes;
      images = image-apply a d M commutes;
      combinations = λ cofactors. laws.combinations cofactors generators _ (tested_kills a generators d element M tested);
    }

-- the symbols commute in one way
commute_same : (a : Name → Action) (d : ℕ) (M : Rows) (first second : RowsCommute a d M) → first ≡ second
commute_same a d M first second = λ k i j b below c within. field.is_set _ _ (first i j b below c within) (second i j b below c within) k

pub kills_in : (a : Name → Action) (generators : List Operator) (d : ℕ) (element : ℕ → Mono) (M : Rows) →
    IsTested a generators d element M → (commutes : RowsCommute a d M) →
    EachKills a (staircase_module a d M commutes) generators (start a d M commutes)
kills_in a generators d element M tested commutes =
    subst (λ c. EachKills a (staircase_module a d M c) generators (start a d M c))
    (commute_same a d M (tested_commute a generators d element M tested) commutes) (tested_kills a generators d element M tested)

-- a reduced operator is on the staircase
pub reduced_among :
    (a : Name → Action) (generators : List Operator) (d : ℕ) (element : ℕ → Mono) →
    IsStaircaseOf d element a generators → (p : Operator) → IsOver a p →
    ((m : Mono) → polynomial_at p m ≢ polys.zero → IsIrreducible generators m) → IsAmong d element p
reduced_among a generators d element staircase p over reduced =
    both p.terms over ((by_values monomials polys.group p (λ m c. IsIrreducible generators m)).1 reduced)
  where
    both :
        (es : List (Mono × Polynomial)) → EachTerm (λ m c. HasOperators a m) es →
        EachTerm (λ m c. IsIrreducible generators m) es → EachTerm (λ m c. IsElement d element m) es
    both [] has irreducible = tt
    both (e ∷ es) has irreducible =
        (staircase.complete e.0 has.0 irreducible.0, both es has.1 irreducible.1)

pub decide : ImageDecidesMembership
decide a generators d element M tested commutes p = record {
  of_member = λ member. zero_of_member a d M commutes generators p member (kills_in a generators d element M tested commutes);
  rest_is_zero = λ r reduction over reduced zero.
      rest_of_zero a d M commutes element (tested_grows a generators d element M tested) (tested_units a generators d element M tested)
      generators p r (kills_in a generators d element M tested commutes) reduction
      (reduced_among a generators d element tested.staircase r.rest over reduced) zero;
}
