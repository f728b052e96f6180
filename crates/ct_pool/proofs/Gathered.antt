-- What the root learns from the two words once all passes are back.
-- Main lemma: `gathered`, at the end, which `settle` cites, and through it the clause `gathered` of `Claims::gather`.
-- Each load tells that the views are what the machine keeps beside some other word; the two loads together name both
-- words (`both_told`), and what the machine keeps says the rest.
use Rattle.ct_pool.proofs.Base.{◌≡◌, ℕ, zero, suc, ◌<◌, ◌≤◌, List, length, Some, None, Option, true, refl, sym, ◌∙◌, subst, arith, IfSome, ◌==◌}
use Rattle.ct_pool.proofs.Base.{Sight, sum_below, one_if, Kept, Fits, Reaches, each_map, sum_below-times}
use Rattle.ct_core.proofs.EachNumberOnce.{decides}
use Rattle.ct_pool.specs.Passes.{RootView, IsLeastHit, IsGathered}
use Rattle.ct_pool.proofs.Places.{next_bound}

-- two tellings of the same views
one_next : (count n m : ℕ) (k l : Option ℕ) (views : List Sight) → Kept count n k views → Kept count m l views → Kept count n l views
one_next count n m k l views a b =
    let e : n ≡ m = (let p = a.claimed (λ x. 1) in let q = b.claimed (λ x. 1) in let s = all_ones n in let t = all_ones m in omega arith) in
    subst (λ z. Kept count z l views) (sym e) b
  where
    all_ones : (n : ℕ) → sum_below (λ x. 1) n ≡ n
    all_ones zero = refl
    all_ones (suc n) = omega (arith, all_ones n)

told_at : (r r' : RootView) (count : ℕ) (l : Option ℕ) → r' ≡ r → r.count ≡ count → r.made ≡ length r.joined →
    (r'.made ≡ length r'.joined → (next : ℕ) × Kept r'.count next l r'.joined) → (next : ℕ) × Kept count next l r.joined
told_at r r' count l same count_is full told =
    let f : r.made ≡ length r.joined → (next : ℕ) × Kept r.count next l r.joined =
    subst (λ (x : RootView). x.made ≡ length x.joined → (next : ℕ) × Kept x.count next l x.joined) same told in
    subst (λ (k : ℕ). (next : ℕ) × Kept k next l r.joined) count_is (f full)

-- both words, from the root's two loads
pub both_told :
    (r r' : RootView) (count n : ℕ) (l : Option ℕ) →
    r' ≡ r →
    r.count ≡ count →
    r.made ≡ length r.joined →
    (r.made ≡ length r.joined → (least : Option ℕ) × Kept r.count n least r.joined) →
    (r'.made ≡ length r'.joined → (next : ℕ) × Kept r'.count next l r'.joined) →
    Kept count n l r.joined
both_told r r' count n l same count_is full by_next by_least =
    let a = by_next full in
    let first : Kept count n a.0 r.joined = subst (λ (k : ℕ). Kept k n a.0 r.joined) count_is a.1 in
    let b = told_at r r' count l same count_is full by_least in
    one_next count n b.0 a.0 l r.joined first b.1

no_hit : (count : ℕ) (v : Sight) (o : Option ℕ) → IfSome o (λ h. (v.pending ≡ Some h) × (h < count) × Reaches None h × (v.stopped ≡ true)) → o ≡ None
no_hit count v None h = refl
no_hit count v (Some x) h = absurd h.2

not_below : (count m : ℕ) (v : Sight) (o : Option ℕ) → IfSome o (λ h. (v.pending ≡ Some h) × (h < count) × Reaches (Some m) h × (v.stopped ≡ true)) →
    IfSome o (λ h. m ≤ h)
not_below count m v None h = tt
not_below count m v (Some x) h = h.2

least_of_all : (count next : ℕ) (least : Option ℕ) (views : List Sight) → Kept count next least views → IsLeastHit views least
least_of_all count next None views k = each_map (Fits count None) (λ v. v.hit ≡ None) views (λ v f. no_hit count v v.hit f.hit_is) k.fits
least_of_all count next (Some m) views k =
    (k.least_hit, each_map (Fits count (Some m)) (λ v. IfSome v.hit (λ h. m ≤ h)) views (λ v f. not_below count m v v.hit f.hit_is) k.fits)

-- what the machine keeps tells what all passes know together
pub gathered : (count next : ℕ) (least : Option ℕ) (views : List Sight) → Kept count next least views → IsGathered count next least views
gathered count next least views k = record {
  claims = λ x. k.claimed (λ y. one_if (y == x)) ∙ sum_below-times x next;
  most = next_bound count next least views k;
  least_hit = least_of_all count next least views k;
  decided = λ some_one ended. decides count next views least some_one k ended;
}
