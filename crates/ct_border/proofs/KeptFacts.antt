-- Facts that are kept. Main lemmas `then_keeps`, `each_keeps`, `fold_keeps` and `value_keeps` for the values of checked steps, and
-- `sum_keeps` and `hom_keeps` for sums of terms.
use Rattle.ct_border.proofs.Base.{◌≡◌, ℕ, ◌+◌, List, [], ◌∷◌, Ok, Err, Option, Some, None, Result, IfOk, sym, subst, All, All-cons, All-head, All-nil}
use Rattle.ct_border.proofs.Base.{All-tail, ◌>>=◌, ◌∙◌, map, refl}
use Rattle.ct_algebra.proofs.TermProducts.{sum_of-append, sum_of-none, sum_of-one}
use Rattle.ct_algebra.specs.Group.{Group, IsHom, hom_zero}
use Rattle.ct_algebra.specs.Sums.{Sum, single, sum_of, same_sum, sums_group, at-sum_of}
unfoldable use Rattle.ct_algebra.specs.Sums.{at}
use Rattle.ct_algebra.specs.Terms.{EachTerm, Keys}
unfoldable use Rattle.ct_checked.specs.Checked.{verdict}
use Rattle.ct_checked.specs.Traversal.{checked_each_from, checked_fold}

-- ---- checked steps

pub then_keeps :
    {A B E : Type 0} (P : A → Type 0) (Q : B → Type 0) (c : Result A E) (f : A → Result B E) → IfOk c P →
    ((x : A) → P x → IfOk (f x) Q) → IfOk (c >>= f) Q
then_keeps P Q (Ok x) f holds next = next x holds
then_keeps P Q (Err e) f holds next = tt

pub next_keeps : {A B E : Type 0} (Q : B → Type 0) (c : Result A E) (f : A → Result B E) → ((x : A) → IfOk (f x) Q) → IfOk (c >>= f) Q
next_keeps Q (Ok x) f next = next x
next_keeps Q (Err e) f next = tt

pub verdict_keeps : {A E : Type 0} (P : A → Type 0) (o : Option E) (x : A) → P x → IfOk (verdict o x) P
unfolding verdict
verdict_keeps P None x holds = holds
verdict_keeps P (Some e) x holds = tt

pub value_keeps : {A E : Type 0} (P : A → Type 0) (c : Result A E) (x : A) → IfOk c P → c ≡ Ok x → P x
value_keeps P c x holds is = subst (λ r. IfOk r P) is holds

pub each_keeps :
    {X Y E : Type 0} (P : X → Type 0) (Q : Y → Type 0) (f : ℕ → X → Result Y E) → ((n : ℕ) (x : X) → P x → IfOk (f n x) Q) →
    (n : ℕ) (xs : List X) → All P xs → IfOk (checked_each_from n f xs) (All Q)
each_keeps P Q f step n [] all = All-nil Q
each_keeps P Q f step n (x ∷ xs) all =
    then_keeps Q (All Q) (f n x) _ (step n x (All-head P x xs all))
    (λ y here. then_keeps (All Q) (All Q) (checked_each_from (n + 1) f xs) _ (each_keeps P Q f step (n + 1) xs (All-tail P x xs all))
    (λ ys rest. All-cons Q y ys here rest))

pub fold_keeps :
    {S X E : Type 0} (P : X → Type 0) (Q : S → Type 0) (f : S → X → Result S E) → ((s : S) (x : X) → Q s → P x → IfOk (f s x) Q) →
    (s : S) (xs : List X) → Q s → All P xs → IfOk (checked_fold f s xs) Q
fold_keeps P Q f step s [] holds all = holds
fold_keeps P Q f step s (x ∷ xs) holds all =
    then_keeps Q Q (f s x) _ (step s x holds (All-head P x xs all))
    (λ t next. fold_keeps P Q f step t xs next (All-tail P x xs all))

-- ---- sums of terms

pub mapped_keeps :
    {M A : Type 0} (T : M → A → Type 0) (f : M × A → M × A) → ((e : M × A) → T e.0 e.1 → T (f e).0 (f e).1) →
    (es : List (M × A)) → EachTerm T es → EachTerm T (map f es)
mapped_keeps T f keeps [] terms = tt
mapped_keeps T f keeps (e ∷ es) terms = (keeps e terms.0, mapped_keeps T f keeps es terms.1)

-- what a map with sums makes of a sum, where T holds of its terms
module _ {M A B : Type 0} (O : Keys M) (G : Group A) (s : IsSet (Sum O G)) (H : Group B) (T : M → A → Type 0) (Q : B → Type 0)
    (none : Q H.zero) (sum : (x y : B) → Q x → Q y → Q (H.◌+◌ x y)) (φ : Sum O G → B) (hom : IsHom (sums_group O G s) H φ)
    (each : (m : M) (c : A) → T m c → Q (φ (single O G m c))) where
  pub sum_keeps : (es : List (M × A)) → EachTerm T es → Q (φ (sum_of O G es))
  sum_keeps [] terms = subst (λ q. Q (φ q)) (sym (sum_of-none O G)) (subst Q (sym (hom_zero hom)) none)
  sum_keeps (e ∷ es) terms =
      subst (λ q. Q (φ q)) (sym (sum_of-append O G (e ∷ []) es))
      (subst Q (sym (hom.sums _ _))
      (sum _ _ (subst (λ q. Q (φ q)) (sym (sum_of-one O G e)) (each e.0 e.1 terms.0)) (sum_keeps es terms.1)))

  pub hom_keeps : (p : Sum O G) → EachTerm T p.terms → Q (φ p)
  hom_keeps p terms = subst (λ q. Q (φ q)) rebuilt (sum_keeps p.terms terms)
    where
      rebuilt : sum_of O G p.terms ≡ p
      rebuilt = same_sum O G _ _ (λ k. at-sum_of O G p.terms k ∙ unfold at in refl)
