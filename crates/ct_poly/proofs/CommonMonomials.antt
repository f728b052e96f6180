-- The common monomial: the monomials that divide it are those that divide every term. Main lemmas `common_divides` and
-- `common_greatest`. A monomial divides another exactly where no exponent is greater, and the exponents here are the least.
use Rattle.ct_poly.proofs.Base.{◌≡◌, refl, ℕ, ◌+◌, ◌-◌, ◌≤◌, ◌<◌, min, ℤ, Bool, true, false, eqb, List, [], ◌∷◌, length, sym, ◌∙◌, ap, subst, arith}
use Rattle.ct_poly.proofs.Base.{eqb-true, eqb-false, min-le_left, min-le_right, le-min, Mono, exp, mono, exp-mono, exp-·, same_mono, unit, ◌·◌}
use Rattle.ct_poly.proofs.Base.{EachTerm, EachTerm-weaker, Polynomial, Divides, with_exponent, exp-with_exponent_same, exp-with_exponent_other}
use Rattle.ct_poly.specs.declared.term.Term.{Term}
use Rattle.ct_poly.specs.Terms.{entries}
use Rattle.ct_poly.proofs.TermLists.{no_length}
use Rattle.ct_poly.specs.Content.{least_exp_from, least_exp, common_monomial}

-- ---- division by exponents

pub divides_exp : (d m : Mono) → Divides d m → (i : ℕ) → i < 6 → exp d i ≤ exp m i
divides_exp d m (t, whole) i small =
    let sum : exp (t · d) i ≡ exp m i = ap (λ n. exp n i) whole in omega (arith, sum, exp-· t d i small)

-- the monomial with the differences of the exponents
abbrev pub without : Mono → Mono → Mono
without d m = mono (λ i. exp m i - exp d i)

pub without-· : (d m : Mono) → ((i : ℕ) → i < 6 → exp d i ≤ exp m i) → without d m · d ≡ m
without-· d m below =
    same_mono _ _ (λ i small. let low = below i small in omega (arith, exp-· (without d m) d i small, exp-mono (λ i. exp m i - exp d i) i small))

pub exp_divides : (d m : Mono) → ((i : ℕ) → i < 6 → exp d i ≤ exp m i) → Divides d m
exp_divides d m below = (without d m, without-· d m below)

-- ---- the least exponents

least_from_le : (k i : ℕ) (es : List (Mono × ℤ)) → least_exp_from k i es ≤ k
least_from_le k i [] = omega arith
least_from_le k i (e ∷ es) = omega (arith, least_from_le (min k (exp e.0 i)) i es, min-le_left k (exp e.0 i))

least_from_each : (k i : ℕ) (es : List (Mono × ℤ)) → EachTerm (λ m c. least_exp_from k i es ≤ exp m i) es
least_from_each k i [] = tt
least_from_each k i (e ∷ es) = (
  omega (arith, least_from_le (min k (exp e.0 i)) i es, min-le_right k (exp e.0 i)),
  least_from_each (min k (exp e.0 i)) i es,
)

least_from_greatest : (n k i : ℕ) (es : List (Mono × ℤ)) → n ≤ k → EachTerm (λ m c. n ≤ exp m i) es → n ≤ least_exp_from k i es
least_from_greatest n k i [] low each = low
least_from_greatest n k i (e ∷ es) low each = least_from_greatest n (min k (exp e.0 i)) i es (le-min low each.0) each.1

least_each : (i : ℕ) (es : List (Mono × ℤ)) → EachTerm (λ m c. least_exp i es ≤ exp m i) es
least_each i [] = tt
least_each i (e ∷ es) = (least_from_le (exp e.0 i) i es, least_from_each (exp e.0 i) i es)

least_greatest : (n i : ℕ) (e : Mono × ℤ) (es : List (Mono × ℤ)) → EachTerm (λ m c. n ≤ exp m i) (e ∷ es) → n ≤ least_exp i (e ∷ es)
least_greatest n i e es each = least_from_greatest n (exp e.0 i) i es each.0 each.1

-- ---- the common monomial

-- a fact of each number and each term, the other way round
turned : (Q : ℕ → Mono → Type 0) (es : List (Mono × ℤ)) → ((i : ℕ) → EachTerm (λ m c. Q i m) es) → EachTerm (λ m c. (i : ℕ) → Q i m) es
turned Q [] each = tt
turned Q (e ∷ es) each = (λ i. (each i).0, turned Q es (λ i. (each i).1))

pub common_divides : (p : Polynomial) → EachTerm (λ m c. Divides (common_monomial p) m) p.terms
unfolding common_monomial
common_divides p =
    EachTerm-weaker (λ m c low. exp_divides _ m (λ i small. omega (arith, low i, exp-mono (λ i. least_exp i p.terms) i small))) p.terms
    (turned (λ i m. least_exp i p.terms ≤ exp m i) p.terms (λ i. least_each i p.terms))

pub common_greatest :
    (p : Polynomial) (t : Mono) (e : Mono × ℤ) (es : List (Mono × ℤ)) → p.terms ≡ e ∷ es →
    EachTerm (λ m c. Divides t m) p.terms → Divides t (common_monomial p)
unfolding common_monomial
common_greatest p t e es full each =
    exp_divides t _ (λ i small.
    let all = EachTerm-weaker (λ m c d. divides_exp t m d i small) p.terms each in
    let least : exp t i ≤ least_exp i (e ∷ es) = least_greatest (exp t i) i e es (subst (EachTerm (λ m c. exp t i ≤ exp m i)) full all) in
    omega (arith, least, ap (λ ds. least_exp i ds) full, exp-mono (λ i. least_exp i p.terms) i small))

-- ---- the loop

-- the least of the exponents of m and those of the rest is that of all
pub record IsLowering (ts : List Term) (m : Mono) (rest : List Term) : Type 0 where
  pub same : (i : ℕ) → i < 6 → least_exp_from (exp m i) i (entries rest) ≡ least_exp i (entries ts)

pub least_of_none : (ts : List Term) (m : Mono) → length ts ≡ 0 → m ≡ unit → m ≡ mono (λ i. least_exp i (entries ts))
unfolding unit
least_of_none ts m empty one = one ∙ ap (λ w. mono (λ i. least_exp i (entries w))) (sym (no_length ts empty))

pub least_start : {ts more : List Term} {t : Term} → ts ≡ t ∷ more → IsLowering ts t.mono more
least_start {ts} {more} {t} full = record { same = λ i small. ap (λ w. least_exp i (entries w)) (sym full) }

pub least_more :
    {ts rest more : List Term} {t : Term} {m n : Mono} → rest ≡ t ∷ more →
    ((i : ℕ) → i < 6 → exp n i ≡ min (exp m i) (exp t.mono i)) → IsLowering ts m rest → IsLowering ts n more
least_more {ts} {rest} {more} {t} {m} {n} rest_is least before =
    let g : IsLowering ts m (t ∷ more) = subst (IsLowering ts m) rest_is before in
    record { same = λ i small. ap (λ k. least_exp_from k i (entries more)) (least i small) ∙ g.same i small }

pub least_all : {ts rest : List Term} {m : Mono} → length rest ≡ 0 → IsLowering ts m rest → m ≡ mono (λ i. least_exp i (entries ts))
least_all {ts} {rest} {m} empty before =
    let end : IsLowering ts m [] = subst (IsLowering ts m) (no_length rest empty) before in
    same_mono _ _ (λ i small. end.same i small ∙ sym (exp-mono (λ i. least_exp i (entries ts)) i small))

-- the names so far have the least exponent of m and n, the others that of m
pub record IsMeeting (m n least : Mono) (i : ℕ) : Type 0 where
  pub done : (k : ℕ) → k < 6 → k < i → exp least k ≡ min (exp m k) (exp n k)
  pub left : (k : ℕ) → k < 6 → i ≤ k → exp least k ≡ exp m k

pub meeting_more :
    {m n least next : Mono} {i e : ℕ} → i < 6 → e ≡ min (exp m i) (exp n i) → next ≡ with_exponent i e least →
    IsMeeting m n least i → IsMeeting m n next (i + 1)
meeting_more {m} {n} {least} {next} {i} {e} small e_is next_is meeting = record {
  done = λ k low before. ap (λ w. exp w k) next_is ∙ below k low before (eqb k i) refl;
  left = λ k low after. ap (λ w. exp w k) next_is ∙ exp-with_exponent_other i e least k low (λ same. absurd (omega (arith, same)))
      ∙ meeting.left k low (omega arith);
}
  where
    below : (k : ℕ) → k < 6 → k < i + 1 → (b : Bool) → eqb k i ≡ b → exp (with_exponent i e least) k ≡ min (exp m k) (exp n k)
    below k low before true same =
        let at : k ≡ i = eqb-true k i same in
        ap (exp (with_exponent i e least)) at ∙ exp-with_exponent_same i e least small ∙ e_is ∙ ap (λ j. min (exp m j) (exp n j)) (sym at)
    below k low before false other =
        let apart = eqb-false k i other in
        exp-with_exponent_other i e least k low apart ∙ meeting.done k low (omega (arith, apart))

-- what times d is m, is the monomial of the differences
pub without_is : (d m t : Mono) → t · d ≡ m → t ≡ without d m
without_is d m t whole =
    same_mono _ _ (λ i small. omega (arith, ap (λ w. exp w i) whole, exp-· t d i small, exp-mono (λ i. exp m i - exp d i) i small))
