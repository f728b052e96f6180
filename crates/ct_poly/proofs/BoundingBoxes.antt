-- Boxes that have the monomials of a list: main lemmas `bounding_more`, `bounding_all` and `beside_is`.
-- A common multiple of all monomials is found one by one, and each multiple of it bounds them too.
use Rattle.ct_poly.proofs.Base.{◌≡◌, refl, ℕ, ◌+◌, ◌≤◌, ◌<◌, Bool, true, false, eqb, List, [], ◌∷◌, length, sym, ◌∙◌, ap, subst, arith, eqb-true}
use Rattle.ct_poly.proofs.Base.{eqb-false, Mono, exp, ◌·◌, ·_assoc, ·_comm, EachTerm-weaker, Divides, with_exponent, exp-with_exponent_same}
use Rattle.ct_poly.proofs.Base.{exp-with_exponent_other}
use Rattle.ct_poly.specs.declared.term.Term.{Term}
use Rattle.ct_poly.specs.Cells.{AreInBox, AreMultiplesInBox}
use Rattle.ct_poly.specs.Terms.{entries}
use Rattle.ct_poly.proofs.CommonMonomials.{exp_divides, divides_exp}
use Rattle.ct_poly.proofs.TermLists.{no_length}

pub divides_trans : (d m n : Mono) → Divides d m → Divides m n → Divides d n
divides_trans d m n (x, first) (y, second) = (y · x, ·_assoc y x d ∙ ap (λ w. y · w) first ∙ second)

-- products with what is below a factor
pub divides_product : (u room k tops : Mono) → Divides u room → Divides (room · k) tops → Divides (u · k) tops
divides_product u room k tops (x, whole) inside =
    divides_trans (u · k) (room · k) tops (x, sym (·_assoc x u k) ∙ ap (λ w. w · k) whole) inside

-- ---- a common multiple of two monomials

-- w is a multiple of m, and the first i of its exponents are at least those of n
pub record IsRaising (m n w : Mono) (i : ℕ) : Type 0 where
  pub left : Divides m w
  pub right : (k : ℕ) → k < 6 → k < i → exp n k ≤ exp w k

pub divides_self : (m : Mono) → Divides m m
divides_self m = exp_divides m m (λ i small. omega arith)

pub raising_start : (m n : Mono) → IsRaising m n m 0
raising_start m n = record { left = divides_self m; right = λ k small none. absurd (omega (arith, none)) }

pub raising_more : {m n w next : Mono} {i e : ℕ} → i < 6 → e ≡ exp n i → (e ≤ exp next i) × Divides w next → IsRaising m n w i →
    IsRaising m n next (i + 1)
raising_more {m} {n} {w} {next} {i} {e} known e_is raised raising = record {
  left = divides_trans m w next raising.left raised.1;
  right = λ k small before. by k small before (eqb k i) refl;
}
  where
    by : (k : ℕ) → k < 6 → k < i + 1 → (b : Bool) → eqb k i ≡ b → exp n k ≤ exp next k
    by k small before true same = subst (λ j. exp n j ≤ exp next j) (sym (eqb-true k i same)) (omega (arith, raised.0, e_is))
    by k small before false other =
        let apart = eqb-false k i other in
        omega (arith, raising.right k small (omega (arith, before, apart)), divides_exp w next raised.1 k small)

pub raising_all : {m n w : Mono} {i : ℕ} → 6 ≤ i → IsRaising m n w i → Divides m w × Divides n w
raising_all {m} {n} {w} {i} all raising = (raising.left, exp_divides n w (λ k small. raising.right k small (omega (arith, small, all))))

-- a greater exponent
pub divides_greater : (i e : ℕ) (m : Mono) → i < 6 → exp m i ≤ e → Divides m (with_exponent i e m)
divides_greater i e m known greater = exp_divides m (with_exponent i e m) (λ k small. by k small (eqb k i) refl)
  where
    by : (k : ℕ) → k < 6 → (b : Bool) → eqb k i ≡ b → exp m k ≤ exp (with_exponent i e m) k
    by k small true same = subst (λ j. exp m j ≤ exp (with_exponent i e m) j) (sym (eqb-true k i same))
        (omega (arith, exp-with_exponent_same i e m known, greater))
    by k small false other = omega (arith, exp-with_exponent_other i e m k small (eqb-false k i other))

-- ---- a common multiple of a list

-- a multiple of m that bounds the rest bounds all
pub record IsBounding (ts : List Term) (m : Mono) (rest : List Term) : Type 0 where
  pub bounds : (w : Mono) → Divides m w → AreInBox w rest → AreInBox w ts

pub bounding_more :
    {ts rest more : List Term} {t : Term} {m n : Mono} → rest ≡ t ∷ more → Divides m n × Divides t.mono n →
    IsBounding ts m rest → IsBounding ts n more
bounding_more {ts} {rest} {more} {t} {m} {n} rest_is multiple bounding =
    let all : IsBounding ts m (t ∷ more) = subst (IsBounding ts m) rest_is bounding in
    record {
      bounds = λ w divides inside. all.bounds w (divides_trans m n w multiple.0 divides)
          (divides_trans t.mono n w multiple.1 divides, inside);
    }

pub bounding_all : {ts rest : List Term} {m : Mono} → length rest ≡ 0 → IsBounding ts m rest → (w : Mono) → Divides m w → AreInBox w ts
bounding_all {ts} {rest} {m} empty bounding w divides =
    let end : IsBounding ts m [] = subst (IsBounding ts m) (no_length rest empty) bounding in end.bounds w divides tt

-- what is left of a box beside the monomials of a list
pub beside_is :
    (tops greatest room : Mono) (ts : List Term) → AreInBox greatest ts → room · greatest ≡ tops →
    Divides room tops × AreMultiplesInBox tops room ts × AreInBox tops ts
beside_is tops greatest room ts inside whole = (
  (greatest, ·_comm greatest room ∙ whole),
  EachTerm-weaker (λ m c (y, below). (y, turned y m ∙ ap (λ w. room · w) below ∙ whole)) (entries ts) inside,
  EachTerm-weaker (λ m c divides. divides_trans m greatest tops divides (room, whole)) (entries ts) inside,
)
  where
    turned : (y m : Mono) → y · (room · m) ≡ room · (y · m)
    turned y m = sym (·_assoc y room m) ∙ ap (λ w. w · m) (·_comm y room) ∙ ·_assoc room y m
