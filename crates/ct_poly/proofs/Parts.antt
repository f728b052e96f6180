-- The coefficients in some of the names: the list of terms that `part_of_terms` makes is that of `coefficient_in`.
-- Main lemmas `part_kept`, `chosen` and `cleared`. Where two terms have the same part in the names, their order is that of
-- their other parts, so the list falls; and the value adds up term by term.
use Rattle.ct_poly.proofs.Base.{◌≡◌, ◌↔◌, refl, ℕ, suc, ◌≤◌, ◌<◌, ℤ, nat_abs, Bool, true, false, cond, eqb, T, List, [], ◌∷◌, ◌++◌, map, length}
use Rattle.ct_poly.proofs.Base.{Ordering, Less, Equal, Greater, is_eq, Some, sym, ◌∙◌, ap, ap₂, subst, arith, append_assoc, append-nil, IsTrue, All}
use Rattle.ct_poly.proofs.Base.{sum_by-cons, is_chosen, inside, outside, term_in, coefficient_in, less_is, Mono, monomials, mono_ordered, mono_cmp}
use Rattle.ct_poly.proofs.Base.{mono_tied, mono_same, exp, exp-mono, same_mono, ◌·◌, ·_comm, Name, name_with, Polynomial, polys, poly_of, norm_of}
use Rattle.ct_poly.proofs.Base.{term, lift, AllBelow, IsCanonical, is_less, by_order, sum_over, int_group, sum_of-append, sum_of-none, over, over-·}
use Rattle.ct_poly.proofs.Base.{with_exponent, exp-with_exponent}
use Rattle.ct_algebra.proofs.CoefficientLaws.{outside-inside}
use Rattle.ct_poly.specs.declared.term.Term.{Term}
use Rattle.ct_poly.specs.Parts.{term_list_in, terms_in}
use Rattle.ct_poly.specs.Terms.{entries, entry, poly_of_terms}
use Rattle.ct_poly.proofs.TermLists.{no_length, entries-append, length-entries, norm_of-entries, place-name_with, poly_of-single}
use Rattle.ct_poly.proofs.Values.{IsKept}

-- ---- the monomial in the other names

exp-outside : (js : List Name) (m : Mono) (k : ℕ) → k < 6 → exp (outside js m) k ≡ cond (is_chosen js k) 0 (exp m k)
unfolding outside
exp-outside js m k small = exp-mono _ k small

pub record IsClearing (names : List ℕ) (m others : Mono) (rest : List ℕ) : Type 0 where
  pub same : outside (map name_with rest) others ≡ outside (map name_with names) m
  pub each : All (λ i. i < 6) rest

one_cleared :
    (i : ℕ) (js : List Name) (m : Mono) → i < 6 → outside js (with_exponent i 0 m) ≡ outside (name_with i ∷ js) m
one_cleared i js m known =
    same_mono _ _ (λ k small. exp-outside js (with_exponent i 0 m) k small
    ∙ ap (cond (is_chosen js k) 0) (exp-with_exponent i 0 m k small)
    ∙ by k (eqb k i) (is_chosen js k)
    ∙ ap (λ j. cond (cond (eqb k j) true (is_chosen js k)) 0 (exp m k)) (sym (place-name_with i known))
    ∙ sym (exp-outside (name_with i ∷ js) m k small))
  where
    by : (k : ℕ) (a b : Bool) → cond b 0 (cond a 0 (exp m k)) ≡ cond (cond a true b) 0 (exp m k)
    by k true true = refl
    by k true false = refl
    by k false b = refl

pub cleared :
    {names rest more : List ℕ} {m others next : Mono} {i : ℕ} → rest ≡ i ∷ more → next ≡ with_exponent i 0 others →
    IsClearing names m others rest → IsClearing names m next more
cleared {names} {rest} {more} {m} {others} {next} {i} rest_is next_is before =
    let g : IsClearing names m others (i ∷ more) = subst (IsClearing names m others) rest_is before in
    record {
      same = ap (outside (map name_with more)) next_is ∙ one_cleared i (map name_with more) others (g.each 0 i (omega arith)) ∙ g.same;
      each = λ k d small. g.each (suc k) d (omega arith);
    }

pub all_cleared :
    {names rest : List ℕ} {m others : Mono} → length rest ≡ 0 → IsClearing names m others rest →
    others ≡ outside (map name_with names) m
all_cleared {names} {rest} {m} {others} empty before =
    let end : IsClearing names m others [] = subst (IsClearing names m others) (none rest empty) before in
    sym (same_mono _ _ (λ k small. exp-outside [] others k small)) ∙ end.same
  where
    none : (xs : List ℕ) → length xs ≡ 0 → xs ≡ []
    none [] empty = refl
    none (x ∷ xs) empty = absurd (omega arith)

-- ---- the test

-- a term without the names, where its part in them is the one that is asked for
abbrev selected : List Name → Mono × ℤ → Ordering → List (Mono × ℤ)
selected js d r = by_order {X = List (Mono × ℤ)} r [] ((outside js d.0, d.1) ∷ []) []

pub quotient_tied :
    (whole m n q : Mono) (o : Ordering) → q · m ≡ whole → o ≡ mono_cmp q n → IsTrue (is_eq o) ↔ (n · m ≡ whole)
quotient_tied whole m n q o divides compared = (
  λ tied. ap (λ w. w · m) (sym (mono_tied q n (sym compared ∙ is_Equal o tied))) ∙ divides,
  λ product. let same : Some q ≡ Some n = sym (over-· q m) ∙ ap (λ w. over w m) (divides ∙ sym product) ∙ over-· n m in
      let equal : q ≡ n = cc in
      subst (λ w. IsTrue (is_eq w)) (sym (compared ∙ ap (mono_cmp q) (sym equal) ∙ mono_same q)) refl,
)
  where
    is_Equal : (o : Ordering) → IsTrue (is_eq o) → o ≡ Equal
    is_Equal Less h = cc
    is_Equal Equal h = refl
    is_Equal Greater h = cc

inside_is : (js : List Name) (e m : Mono) → e · outside js m ≡ m → inside js m ≡ e
inside_is js e m product =
    let whole : inside js m · outside js m ≡ m = ·_comm (inside js m) (outside js m) ∙ outside-inside js m in
    let same : Some (inside js m) ≡ Some e = sym (over-· (inside js m) (outside js m)) ∙ ap (λ w. over w (outside js m)) (whole ∙ sym product)
    ∙ over-· e (outside js m) in cc

taken : (js : List Name) (e : Mono) (d : Mono × ℤ) → e · outside js d.0 ≡ d.0 → term_list_in js e d ≡ (outside js d.0, d.1) ∷ []
taken js e d product =
    ap (selected js d) (ap (λ w. mono_cmp w e) (inside_is js e d.0 product) ∙ mono_same e)

passed : (js : List Name) (e : Mono) (d : Mono × ℤ) → (e · outside js d.0 ≡ d.0 → ⊥) → term_list_in js e d ≡ []
passed js e d other = by (mono_cmp (inside js d.0) e) refl
  where
    by : (r : Ordering) → mono_cmp (inside js d.0) e ≡ r → selected js d r ≡ []
    by Less order = refl
    by Equal order =
        let same : inside js d.0 ≡ e = mono_tied (inside js d.0) e order in
        absurd (other (ap (λ w. w · outside js d.0) (sym same) ∙ ·_comm (inside js d.0) (outside js d.0) ∙ outside-inside js d.0))
    by Greater order = refl

-- ---- the loop

pub record IsChoosing (js : List Name) (e : Mono) (ts done rest : List Term) : Type 0 where
  pub made : entries done ++ terms_in js e (entries rest) ≡ terms_in js e (entries ts)

pub chosen :
    {js : List Name} {e : Mono} {ts done all rest more : List Term} {t : Term} {others : Mono} → rest ≡ t ∷ more →
    others ≡ outside js t.mono → e · others ≡ t.mono → all ≡ done ++ record { mono = others; coef = t.coef } ∷ [] →
    IsChoosing js e ts done rest → IsChoosing js e ts all more
chosen {js} {e} {ts} {done} {all} {rest} {more} {t} {others} rest_is others_is product all_is before =
    let g : IsChoosing js e ts done (t ∷ more) = subst (IsChoosing js e ts done) rest_is before in
    let u : Term = record { mono = others; coef = t.coef } in
    let product_is : e · outside js t.mono ≡ t.mono = ap (λ w. e · w) (sym others_is) ∙ product in
    record {
      made = ap (λ w. w ++ terms_in js e (entries more)) (ap entries all_is ∙ entries-append done (u ∷ []))
          ∙ append_assoc (entries done) (entry u ∷ []) (terms_in js e (entries more))
          ∙ ap (λ w. entries done ++ (w, t.coef) ∷ terms_in js e (entries more)) others_is
          ∙ ap (λ w. entries done ++ (w ++ terms_in js e (entries more))) (sym (taken js e (entry t) product_is)) ∙ g.made;
    }

pub left_out :
    {js : List Name} {e : Mono} {ts done rest more : List Term} {t : Term} {others : Mono} → rest ≡ t ∷ more →
    others ≡ outside js t.mono → (e · others ≡ t.mono → ⊥) → IsChoosing js e ts done rest → IsChoosing js e ts done more
left_out {js} {e} {ts} {done} {rest} {more} {t} {others} rest_is others_is other before =
    let g : IsChoosing js e ts done (t ∷ more) = subst (IsChoosing js e ts done) rest_is before in
    record {
      made = ap (λ w. entries done ++ (w ++ terms_in js e (entries more)))
          (sym (passed js e (entry t) (λ product. other (ap (λ w. e · w) others_is ∙ product))))
          ∙ g.made;
    }

pub choosing_ended :
    {js : List Name} {e : Mono} {ts done rest : List Term} → length rest ≡ 0 → IsChoosing js e ts done rest →
    entries done ≡ terms_in js e (entries ts)
choosing_ended {js} {e} {ts} {done} {rest} empty before =
    sym (append-nil (entries done)) ∙ ap (λ r. entries done ++ terms_in js e (entries r)) (sym (no_length rest empty)) ∙ before.made

-- ---- the list falls

below_outside :
    (js : List Name) (e m n : Mono) → inside js m ≡ e → inside js n ≡ e → mono_cmp m n ≡ Less → mono_cmp (outside js m) (outside js n) ≡ Less
below_outside js e m n first second less =
    sym (mono_ordered.shifted e (outside js m) (outside js n))
    ∙ ap₂ mono_cmp (ap (λ w. outside js m · w) (sym first) ∙ outside-inside js m) (ap (λ w. outside js n · w) (sym second) ∙ outside-inside js n)
    ∙ less

below_in :
    (js : List Name) (e m : Mono) (es : List (Mono × ℤ)) → inside js m ≡ e → AllBelow monomials int_group m es →
    AllBelow monomials int_group (outside js m) (terms_in js e es)
below_in js e m [] here below = tt
below_in js e m (d ∷ es) here below = by (mono_cmp (inside js d.0) e) refl (below_in js e m es here below.1)
  where
    by : (r : Ordering) → mono_cmp (inside js d.0) e ≡ r → AllBelow monomials int_group (outside js m) (terms_in js e es)
        → AllBelow monomials int_group (outside js m) (selected js d r ++ terms_in js e es)
    by Less order rest = rest
    by Equal order rest =
        let less = below_outside js e d.0 m (mono_tied _ _ order) here (less_is monomials int_group _ below.0) in
        (subst (λ r. T (is_less r)) (sym less) tt, rest)
    by Greater order rest = rest

canonical_in :
    (js : List Name) (e : Mono) (es : List (Mono × ℤ)) → IsCanonical monomials int_group es → IsCanonical monomials int_group (terms_in js e es)
canonical_in js e [] canonical = tt
canonical_in js e (d ∷ es) canonical = by (mono_cmp (inside js d.0) e) refl (canonical_in js e es canonical.2)
  where
    by : (r : Ordering) → mono_cmp (inside js d.0) e ≡ r → IsCanonical monomials int_group (terms_in js e es)
        → IsCanonical monomials int_group (selected js d r ++ terms_in js e es)
    by Less order rest = rest
    by Equal order rest = (canonical.0, below_in js e d.0 es (mono_tied _ _ order) canonical.1, rest)
    by Greater order rest = rest

-- ---- its value and measures

value_in : (js : List Name) (e : Mono) (es : List (Mono × ℤ)) → poly_of (terms_in js e es) ≡ sum_over polys.group (term_in js e) es
unfolding poly_of
value_in js e [] = sum_of-none monomials int_group
value_in js e (d ∷ es) =
    sum_of-append monomials int_group (term_list_in js e d) (terms_in js e es)
    ∙ ap₂ polys.◌+◌ (by (mono_cmp (inside js d.0) e)) (value_in js e es)
  where
    by : (r : Ordering) → poly_of (selected js d r) ≡ by_order r polys.zero (term (outside js d.0) d.1) polys.zero
    by Less = unfold poly_of in sum_of-none monomials int_group
    by Equal = poly_of-single (outside js d.0) d.1
    by Greater = unfold poly_of in sum_of-none monomials int_group

length_in : (js : List Name) (e : Mono) (es : List (Mono × ℤ)) → length (terms_in js e es) ≤ length es
length_in js e [] = omega arith
length_in js e (d ∷ es) = by (mono_cmp (inside js d.0) e) (length_in js e es)
  where
    by : (r : Ordering) → length (terms_in js e es) ≤ length es
        → length (selected js d r ++ terms_in js e es) ≤ length (d ∷ es)
    by Less rest = omega arith
    by Equal rest = omega arith
    by Greater rest = omega arith

size_in : (js : List Name) (e : Mono) (es : List (Mono × ℤ)) → norm_of (terms_in js e es) ≤ norm_of es
size_in js e [] = omega arith
size_in js e (d ∷ es) = by (mono_cmp (inside js d.0) e) (size_in js e es)
  where
    by : (r : Ordering) → norm_of (terms_in js e es) ≤ norm_of es
        → norm_of (selected js d r ++ terms_in js e es) ≤ norm_of (d ∷ es)
    by Less rest = omega (arith, rest, sum_by-cons (λ d. nat_abs d.1) d es)
    by Equal rest = omega (arith, rest, sum_by-cons (λ d. nat_abs d.1) d es, sum_by-cons (λ d. nat_abs d.1) (outside js d.0, d.1) (terms_in js e es))
    by Greater rest = omega (arith, rest, sum_by-cons (λ d. nat_abs d.1) d es)

pub part_kept :
    {p : Polynomial} (js : List Name) (e : Mono) (ts v : List Term) → IsKept p ts → entries ts ≡ p.terms →
    entries v ≡ terms_in js e (entries ts) → IsKept (coefficient_in js e p) v
unfolding coefficient_in lift poly_of_terms
part_kept {p} js e ts v mine same made = record {
  falling = subst (IsCanonical monomials int_group) (sym made) (canonical_in js e (entries ts) mine.falling);
  value = ap poly_of made ∙ value_in js e (entries ts) ∙ ap (sum_over polys.group (term_in js e)) same;
  few = omega (arith, mine.few, length-entries v, ap length made, length_in js e (entries ts), length-entries ts);
  small = omega (arith, mine.small, norm_of-entries v, ap norm_of made, size_in js e (entries ts), norm_of-entries ts);
}
