-- Lists that grow and shrink at the end.
-- Main lemmas: `all_push`, `all_pop`, `each_push`, `maps_push`: what each element meets, and equal maps, with one more
-- element or one less; `all_reverse`; `slice_back`, a vector lent as a slice comes back whole.
use Rattle.ct_pool.proofs.Base.{◌≡◌, ℕ, zero, suc, List, [], ◌∷◌, ◌++◌, length, refl, sym, ap, ◌∙◌, subst, arith, map, All, take, reverse}
use Rattle.ct_pool.proofs.Base.{reverse-append, Each, each_append, each_here, each_there}

pub map_push : {X Y : Type 0} (f : X → Y) (xs : List X) (y : X) → map f (xs ++ y ∷ []) ≡ map f xs ++ f y ∷ []
map_push f [] y = refl
map_push f (x ∷ xs) y = ap (λ l. f x ∷ l) (map_push f xs y)

pub each_of_map : {X Y : Type 0} (f : X → Y) (P : Y → Type 0) (xs : List X) → Each (λ x. P (f x)) xs → Each P (map f xs)
each_of_map f P [] k = tt
each_of_map f P (x ∷ xs) k = (k.0, each_of_map f P xs k.1)

-- elements by index and one after another
pub all_each : {X : Type 0} (P : X → Type 0) (xs : List X) → All P xs → Each P xs
all_each P [] a = tt
all_each P (x ∷ xs) a = (a 0 x (omega arith), all_each P xs (λ k d h. a (suc k) d (omega arith)))

pub each_all : {X : Type 0} (P : X → Type 0) (xs : List X) → Each P xs → All P xs
each_all P [] e k d h = absurd (omega arith)
each_all P (x ∷ xs) e zero d h = e.0
each_all P (x ∷ xs) e (suc k) d h = each_all P xs e.1 k d (omega arith)

pub all_push : {X : Type 0} (P : X → Type 0) (xs ys : List X) (x : X) → ys ≡ xs ++ x ∷ [] → P x → All P xs → All P ys
all_push P xs ys x e p a = subst (All P) (sym e) (each_all P (xs ++ x ∷ []) (each_append P xs (x ∷ []) (all_each P xs a) (p, tt)))

pub all_pop : {X : Type 0} (P : X → Type 0) (xs ys : List X) (x : X) → ys ≡ xs ++ x ∷ [] → All P ys → P x × All P xs
all_pop P xs ys x e a = let b = all_each P (xs ++ x ∷ []) (subst (All P) e a) in
    ((each_there P xs (x ∷ []) b).0, each_all P xs (each_here P xs (x ∷ []) b))

pub each_push : {X : Type 0} (P : X → Type 0) (xs ys : List X) (x : X) → ys ≡ xs ++ x ∷ [] → P x → Each P xs → Each P ys
each_push P xs ys x e p a = subst (Each P) (sym e) (each_append P xs (x ∷ []) a (p, tt))

pub maps_push : {X Y Z : Type 0} (f : X → Z) (g : Y → Z) (xs xs' : List X) (ys ys' : List Y) (x : X) (y : Y) → xs' ≡ xs ++ x ∷ [] →
    ys' ≡ ys ++ y ∷ [] → f x ≡ g y → map f xs ≡ map g ys → map f xs' ≡ map g ys'
maps_push f g xs xs' ys ys' x y e d same m = ap (map f) e ∙ map_push f xs x ∙ (λ i. m i ++ same i ∷ []) ∙ sym (map_push g ys y) ∙ sym (ap (map g) d)

pub slice_back : {X : Type 0} (n : ℕ) (new rest : List X) → length new ≡ n → take n (new ++ rest) ≡ new
slice_back n [] rest e = let z : n ≡ 0 = sym e in ap (λ k. take k rest) z
slice_back n (x ∷ xs) rest e = ap (λ k. take k (x ∷ (xs ++ rest))) (sym e) ∙ ap (λ l. x ∷ l) (slice_back (length xs) xs rest refl)

each_reverse : {X : Type 0} (P : X → Type 0) (xs : List X) → Each P xs → Each P (reverse xs)
each_reverse P [] e = tt
each_reverse P (x ∷ xs) e = subst (Each P) (sym (reverse-append (x ∷ []) xs)) (each_append P (reverse xs) (x ∷ []) (each_reverse P xs e.1) (e.0, tt))

pub all_reverse : {X : Type 0} (P : X → Type 0) (xs ys : List X) → ys ≡ reverse xs → All P xs → All P ys
all_reverse P xs ys e a = subst (All P) (sym e) (each_all P (reverse xs) (each_reverse P xs (all_each P xs a)))
