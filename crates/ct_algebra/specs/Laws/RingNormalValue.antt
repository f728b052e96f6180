-- Expressions with one normal form have one value in every commutative ring: main lemma `ring`, which RingTactic cites.
-- The value of a normal form is that of its expression: by induction on the expression, and for each operation on the lists.
use Rattle.std.specs.Prelude.{◌≡◌, ℕ, ℤ, pos, negsuc, ◌+ℤ◌, ◌*ℤ◌, neg_ℤ, Bool, true, false, ◌&&◌, List, [], ◌∷◌}
use Rattle.std.proofs.Math.IntN.{+ℤ_idl, zero-*ℤ, suc_ℤ, pred_ℤ, suc_ℤ-*ℤ, pred_ℤ-*ℤ, suc_ℤ-+ℤ, pred_ℤ-+ℤ, suc-pred, neg_ℤ-suc_ℤ, neg_ℤ-pred_ℤ}
use Rattle.std.proofs.Common.{sym, ◌∙◌, ap, ap₂, refl, nat_eq, nat_lt, eqb-true, zero, suc}
use Rattle.ct_algebra.specs.Group.{zero_add, neg_add, add_left_comm, neg_zero, neg_neg, neg_sum}
use Rattle.ct_algebra.specs.Ring.{Ring, one_mul, add_mul, mul_zero, zero_mul, neg_mul, mul_left_comm}
use Rattle.ct_algebra.specs.Laws.WholeNumbers.{by_steps}
use Rattle.ct_algebra.specs.Laws.RingNormal.{Expr, v, c0, c1, ◌:+◌, ◌:-◌, ◌:*◌, :neg, Term, same, below, put, join, look, eval, front, insert, plus, minus, times_term, times, norm}

module _ {A : Type 0} (R : Ring A) where
  open R use {◌+◌, ◌*◌, neg}

  infixl 60 ◌+◌
  infixl 70 ◌*◌
  abbrev pub many : ℕ → A
  many zero = R.zero
  many (suc n) = R.one + many n

  abbrev pub whole : ℤ → A
  whole (pos n) = many n
  whole (negsuc n) = neg (many (suc n))

  neg_shift : (a b : A) → neg a ≡ neg (b + a) + b
  neg_shift a b = sym (R.add_zero _) ∙ ap (λ z. neg a + z) (sym (neg_add R.group b))
      ∙ sym (R.add_assoc _ _ _) ∙ ap (λ z. z + b) (R.add_comm _ _ ∙ sym (neg_sum R.group b a))

  whole-suc : (k : ℤ) → whole (suc_ℤ k) ≡ whole k + R.one
  whole-suc (pos n) = R.add_comm _ _
  whole-suc (negsuc zero) = sym (neg_zero R.group) ∙ neg_shift R.zero R.one
  whole-suc (negsuc (suc n)) = neg_shift (many (suc n)) R.one

  whole-pred : (k : ℤ) → whole (pred_ℤ k) ≡ whole k + neg R.one
  whole-pred k =
      sym (R.add_zero _) ∙ ap (λ z. whole (pred_ℤ k) + z) (sym (R.add_neg R.one)) ∙ sym (R.add_assoc _ _ _)
      ∙ ap (λ z. z + neg R.one) (sym (whole-suc (pred_ℤ k)) ∙ ap whole (suc-pred k))

  swap_last : (a b c : A) → (a + b) + c ≡ (a + c) + b
  swap_last a b c = R.add_assoc a b c ∙ ap (λ t. a + t) (R.add_comm b c) ∙ sym (R.add_assoc a c b)

  whole-add : (k l : ℤ) → whole (k +ℤ l) ≡ whole k + whole l
  whole-add k l = by_steps (λ k. whole (k +ℤ l) ≡ whole k + whole l)
      (ap whole (+ℤ_idl l) ∙ sym (zero_add R.group _))
      (λ k h. ap whole (suc_ℤ-+ℤ k l) ∙ whole-suc (k +ℤ l) ∙ ap (λ t. t + R.one) h ∙ swap_last (whole k) (whole l) R.one
      ∙ ap (λ t. t + whole l) (sym (whole-suc k)))
      (λ k h. ap whole (pred_ℤ-+ℤ k l) ∙ whole-pred (k +ℤ l) ∙ ap (λ t. t + neg R.one) h ∙ swap_last (whole k) (whole l) (neg R.one)
      ∙ ap (λ t. t + whole l) (sym (whole-pred k)))
      k

  whole-neg : (k : ℤ) → whole (neg_ℤ k) ≡ neg (whole k)
  whole-neg = by_steps (λ k. whole (neg_ℤ k) ≡ neg (whole k))
      (sym (neg_zero R.group))
      (λ k h. ap whole (neg_ℤ-suc_ℤ k) ∙ whole-pred (neg_ℤ k) ∙ ap (λ t. t + neg R.one) h
      ∙ sym (neg_sum R.group (whole k) R.one) ∙ ap neg (sym (whole-suc k)))
      (λ k h. ap whole (neg_ℤ-pred_ℤ k) ∙ whole-suc (neg_ℤ k) ∙ ap₂ (λ t u. t + u) h (sym (neg_neg R.group R.one))
      ∙ sym (neg_sum R.group (whole k) (neg R.one)) ∙ ap neg (sym (whole-pred k)))

  whole-mul : (k l : ℤ) → whole (k *ℤ l) ≡ whole k * whole l
  whole-mul k l = by_steps (λ k. whole (k *ℤ l) ≡ whole k * whole l)
      (ap whole (zero-*ℤ l) ∙ sym (zero_mul R _))
      (λ k h. ap whole (suc_ℤ-*ℤ k l) ∙ whole-add (k *ℤ l) l ∙ ap₂ (λ t u. t + u) h (sym (one_mul R _))
      ∙ sym (add_mul R (whole k) R.one (whole l)) ∙ ap (λ t. t * whole l) (sym (whole-suc k)))
      (λ k h. ap whole (pred_ℤ-*ℤ k l) ∙ whole-add (k *ℤ l) (neg_ℤ l)
      ∙ ap₂ (λ t u. t + u) h (whole-neg l ∙ ap neg (sym (one_mul R _)) ∙ sym (neg_mul R R.one (whole l)))
      ∙ sym (add_mul R (whole k) (neg R.one) (whole l)) ∙ ap (λ t. t * whole l) (sym (whole-pred k)))
      k

  module _ (ρ : List A) where
    abbrev eval_mono : List ℕ → A
    eval_mono [] = R.one
    eval_mono (x ∷ m) = look R ρ x * eval_mono m

    abbrev value : List Term → A
    value [] = R.zero
    value (t ∷ p) = whole t.0 * eval_mono t.1 + value p

    same-eq : (m n : List ℕ) → same m n ≡ true → eval_mono m ≡ eval_mono n
    same-eq [] [] h = refl
    same-eq [] (y ∷ n) h = cc
    same-eq (x ∷ m) [] h = cc
    same-eq (x ∷ m) (y ∷ n) h = go (nat_eq x y) refl h (λ k. same-eq m n k)
      where
        go : (b : Bool) → nat_eq x y ≡ b → (b && same m n) ≡ true → (same m n ≡ true → eval_mono m ≡ eval_mono n)
            → eval_mono (x ∷ m) ≡ eval_mono (y ∷ n)
        go true e k ih = ap₂ (λ s t. look R ρ s * t) (eqb-true x y e) (ih k)
        go false e k ih = cc

    put-value : (x : ℕ) (m : List ℕ) → eval_mono (put x m) ≡ look R ρ x * eval_mono m
    put-value x [] = refl
    put-value x (y ∷ m) = go (nat_lt y x) (put-value x m)
      where
        go : (b : Bool) → eval_mono (put x m) ≡ look R ρ x * eval_mono m
            → eval_mono (elim b [ true ↦ y ∷ put x m | false ↦ x ∷ (y ∷ m) ]) ≡ look R ρ x * (look R ρ y * eval_mono m)
        go true ih = ap (λ t. look R ρ y * t) ih ∙ mul_left_comm R _ _ _
        go false ih = refl

    join-value : (m n : List ℕ) → eval_mono (join m n) ≡ eval_mono m * eval_mono n
    join-value [] n = sym (one_mul R _)
    join-value (x ∷ m) n =
        put-value x (join m n) ∙ ap (λ t. look R ρ x * t) (join-value m n)
        ∙ sym (R.mul_assoc _ _ _)

    front-value : (k : ℤ) (m : List ℕ) (p : List Term) → value (front k m p) ≡ whole k * eval_mono m + value p
    front-value (pos zero) m p = sym (ap (λ z. z + value p) (zero_mul R _) ∙ zero_add R.group _)
    front-value (pos (suc n)) m p = refl
    front-value (negsuc n) m p = refl

    insert-value : (k : ℤ) (m : List ℕ) (p : List Term) → value (insert k m p) ≡ whole k * eval_mono m + value p
    insert-value k m [] = front-value k m []
    insert-value k m (t ∷ p) = first (same m t.1) refl (insert-value k m p)
      where
        second : (b : Bool) → value (insert k m p) ≡ whole k * eval_mono m + value p
            → value (elim b [ true ↦ (k, m) ∷ (t ∷ p) | false ↦ t ∷ insert k m p ]) ≡ whole k * eval_mono m + value (t ∷ p)
        second true ih = refl
        second false ih = ap (λ z. whole t.0 * eval_mono t.1 + z) ih ∙ add_left_comm R.group _ _ _

        first : (b : Bool) → same m t.1 ≡ b → value (insert k m p) ≡ whole k * eval_mono m + value p
            → value (elim b [
              | true ↦ front (k +ℤ t.0) m p
              | false ↦ elim (below m t.1) [ true ↦ (k, m) ∷ (t ∷ p) | false ↦ t ∷ insert k m p ]
            ]) ≡ whole k * eval_mono m + value (t ∷ p)
        first true h ih =
            front-value (k +ℤ t.0) m p
            ∙ ap (λ z. z + value p)
            (ap (λ z. z * eval_mono m) (whole-add k t.0) ∙ add_mul R _ _ _
            ∙ ap (λ z. whole k * eval_mono m + whole t.0 * z) (same-eq m t.1 h))
            ∙ R.add_assoc _ _ _
        first false h ih = second (below m t.1) ih

    plus-value : (p q : List Term) → value (plus p q) ≡ value p + value q
    plus-value [] q = sym (zero_add R.group _)
    plus-value (t ∷ p) q =
        insert-value t.0 t.1 (plus p q)
        ∙ ap (λ z. whole t.0 * eval_mono t.1 + z) (plus-value p q)
        ∙ sym (R.add_assoc _ _ _)

    minus-value : (p : List Term) → value (minus p) ≡ neg (value p)
    minus-value [] = sym (neg_zero R.group)
    minus-value (t ∷ p) =
        ap₂ (λ y z. y + z) (ap (λ z. z * eval_mono t.1) (whole-neg t.0) ∙ neg_mul R _ _) (minus-value p)
        ∙ sym (neg_sum R.group _ _)

    four_mul : (a b c d : A) → (a * b) * (c * d) ≡ (a * c) * (b * d)
    four_mul a b c d = R.mul_assoc _ _ _ ∙ ap (λ z. a * z) (mul_left_comm R _ _ _) ∙ sym (R.mul_assoc _ _ _)

    times_term-value :
        (k : ℤ) (m : List ℕ) (p : List Term) → value (times_term k m p) ≡ (whole k * eval_mono m) * value p
    times_term-value k m [] = sym (mul_zero R _)
    times_term-value k m (t ∷ p) =
        insert-value (k *ℤ t.0) (join m t.1) (times_term k m p)
        ∙ ap₂ (λ y z. y + z)
        (ap₂ (λ y z. y * z) (whole-mul k t.0) (join-value m t.1) ∙ four_mul _ _ _ _)
        (times_term-value k m p)
        ∙ sym (R.mul_add _ _ _)

    times-value : (p q : List Term) → value (times p q) ≡ value p * value q
    times-value [] q = sym (zero_mul R _)
    times-value (t ∷ p) q =
        plus-value (times_term t.0 t.1 q) (times p q)
        ∙ ap₂ (λ y z. y + z) (times_term-value t.0 t.1 q) (times-value p q)
        ∙ sym (add_mul R _ _ _)

    one_value : (a : A) → (R.one + R.zero) * a + R.zero ≡ a
    one_value a = R.add_zero _ ∙ ap (λ z. z * a) (R.add_zero R.one) ∙ one_mul R a

    norm-value : (e : Expr) → value (norm e) ≡ eval R ρ e
    norm-value (v x) = one_value _ ∙ R.mul_one _
    norm-value c0 = refl
    norm-value c1 = one_value R.one
    norm-value (e :+ f) = plus-value (norm e) (norm f) ∙ ap₂ (λ y z. y + z) (norm-value e) (norm-value f)
    norm-value (e :- f) =
        plus-value (norm e) (minus (norm f))
        ∙ ap₂ (λ y z. y + z) (norm-value e) (minus-value (norm f) ∙ ap neg (norm-value f))
    norm-value (e :* f) = times-value (norm e) (norm f) ∙ ap₂ (λ y z. y * z) (norm-value e) (norm-value f)
    norm-value (:neg e) = minus-value (norm e) ∙ ap neg (norm-value e)

    pub ring : (e f : Expr) → norm e ≡ norm f → eval R ρ e ≡ eval R ρ f
    ring e f h = sym (norm-value e) ∙ ap value h ∙ norm-value f
